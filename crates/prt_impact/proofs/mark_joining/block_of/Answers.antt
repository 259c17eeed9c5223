use Rattle.std.proofs.Common.{◌∙◌, sym}
use Rattle.prt_impact.proofs.Equals.{same_groups}
use Rattle.prt_impact.proofs.mark_joining.block_of.Goals as goal

pub returns-then-is_same_group : goal.returns-then-is_same_group
returns-then-is_same_group c = same_groups c.args.group.now c.with_block.result (sym c.is_same_group.ensures ∙ c.if-is_same_group.true) ∙ c.with_block.ensures
