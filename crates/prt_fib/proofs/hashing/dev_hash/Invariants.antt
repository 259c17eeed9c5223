use Rattle.std.proofs.Common.{◌≡◌, ◌<◌, drop}
use Rattle.prt_fib.specs.Hashes.{name_hash}
use Rattle.prt_fib.proofs.hashing.dev_hash.Given as goal

abbrev pub invariant-loop-byte : goal.invariant-loop-byte
invariant-loop-byte l = record { small : l.hash < 8191; rest : name_hash l.hash (drop l.byte-index l.byte-items) ≡ name_hash 0 l.byte-items }
