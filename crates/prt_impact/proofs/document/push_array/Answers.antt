use Rattle.std.proofs.Common.{map}
use Rattle.std.proofs.lemmas.Result.{on_ok_weaker}
use Rattle.prt_json.proofs.Tokens.{whole_array}
use Rattle.prt_impact.specs.GroupsJson.{group_json}
use Rattle.prt_impact.proofs.document.push_array.Goals as goal

pub returns-clause-ok : goal.returns-clause-ok
returns-clause-ok c =
    on_ok_weaker c.end_array.result (whole_array (map group_json c.args.groups.now) _ _ _ _ c.in_ok-begin_array.ensures.ok c.in_ok-push_each.ensures.ok) c.end_array.ensures.ok
