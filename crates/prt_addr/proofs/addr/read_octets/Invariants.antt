use Rattle.std.proofs.Common.{option_map}
use Rattle.prt_addr.proofs.Octets.{IsReadTo}
use Rattle.prt_addr.proofs.addr.read_octets.Given as goal

abbrev pub invariant-loop-octet : goal.invariant-loop-octet
invariant-loop-octet l = IsReadTo l.fn.word (option_map (λ rest. rest.now) l.rest) l.octet-items l.octet-index
