use Rattle.std.proofs.Common.{◌∙◌, sym}
use Rattle.prt_impact.proofs.BlockLists.{halves_joined}
use Rattle.prt_impact.proofs.blocks.join.Goals as goal

pub returns : goal.returns
returns c = halves_joined _ c.whole_of-whole.result c.args.block.now c.args.next.now (sym c.are_halves.ensures ∙ c.if-not-are_halves.false)
