use Rattle.prt_listing.proofs.Digits.{first, last, next}
use Rattle.prt_listing.proofs.hexadecimal.write_hexadecimal.Goals as goal

pub loop-rest-init : goal.loop-rest-init
loop-rest-init c = first c.args.number c.args.buffer.now c.ranges.number.fits c.told-buffer

pub returns-then-rest-eq0-clause-value : goal.returns-then-rest-eq0-clause-value
returns-then-rest-eq0-clause-value c = last _ _ _ _ _ c.loop-rest.invariant c.hex_digit.ensures c.if-rest-eq0.true

pub loop-rest-preserved : goal.loop-rest-preserved
loop-rest-preserved c = next _ _ _ _ _ c.loop-rest.invariant c.hex_digit.ensures c.if-rest-eq0.false
