use Rattle.std.proofs.lemmas.Result.{on_ok_weaker}
use Rattle.prt_json.specs.Steps.{members_of}
use Rattle.prt_json.proofs.Tokens.{whole_object}
use Rattle.prt_json.proofs.push.push_object.Goals as goal

pub returns-clause-ok : goal.returns-clause-ok
returns-clause-ok c =
    on_ok_weaker c.end_object.result (whole_object (members_of c.args.fields.now) _ _ _ _ c.in_ok-begin_object.ensures.ok c.in_ok-push_fields.ensures.ok) c.end_object.ensures.ok
