use Rattle.prt_listing.proofs.Digits.{IsWriting}
use Rattle.prt_listing.proofs.hexadecimal.write_hexadecimal.Given as goal

abbrev pub invariant-loop-rest : goal.invariant-loop-rest
invariant-loop-rest l = IsWriting l.number l.start l.rest l.buffer

abbrev pub decreases-loop-rest : goal.decreases-loop-rest
decreases-loop-rest l = l.start
