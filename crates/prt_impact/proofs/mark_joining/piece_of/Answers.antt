use Rattle.std.proofs.Common.{subst, sym}
use Rattle.prt_impact.specs.MarkSets.{HasMark}
use Rattle.prt_impact.proofs.BlockLists.{first_mark}
use Rattle.prt_impact.proofs.mark_joining.piece_of.Goals as goal

pub returns-clause-some : goal.returns-clause-some
returns-clause-some c = subst HasMark (sym c.only.ensures) (first_mark c.args.blocks.now c.requires.some c.element_fits.fits)
