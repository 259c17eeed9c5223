use Rattle.std.proofs.Common.{arith, sym}
use Rattle.prt_version.proofs.Silent.{none_says}
use Rattle.prt_version.proofs.select.first_found.Goals as goal

pub returns : goal.returns
returns c = sym (none_says _ _ _ c.args.tried c.loop-place.place c.requires (omega (arith, c.loop-place-test.false)) c.loop-place.invariant)
