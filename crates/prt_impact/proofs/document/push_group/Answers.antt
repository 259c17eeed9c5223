use Rattle.std.proofs.lemmas.Result.{on_ok_weaker}
use Rattle.prt_json.proofs.Tokens.{whole_object}
use Rattle.prt_impact.specs.GroupsJson.{group_fields}
use Rattle.prt_impact.proofs.document.push_group.Goals as goal

pub returns-clause-ok : goal.returns-clause-ok
returns-clause-ok c =
    on_ok_weaker c.end_object.result (whole_object (group_fields c.args.group.now) _ _ _ _ c.in_ok-begin_object.ensures.ok c.in_ok-push_fields.ensures.ok) c.end_object.ensures.ok
