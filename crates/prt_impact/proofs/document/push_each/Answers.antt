use Rattle.std.proofs.Common.{◌∙◌}
use Rattle.prt_json.proofs.Tokens.{more_values}
use Rattle.prt_impact.specs.GroupsJson.{group_json}
use Rattle.prt_impact.proofs.document.push_each.Goals as goal

pub loop-group-preserved : goal.loop-group-preserved
loop-group-preserved c = record {
  tokens = more_values group_json c.args.groups.now c.loop-group.group-index c.group-item.result _ _ _ c.loop-group-test.true c.group-item.is c.loop-group.invariant.tokens c.in_ok-push_group.ensures.ok;
  before = c.in_ok-push_group.ensures.before ∙ c.loop-group.invariant.before;
}
