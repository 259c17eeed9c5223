use Rattle.std.proofs.Common.{◌≡◌, ◌<◌, drop}
use Rattle.prt_version.specs.RuleIndex.{name_number}
use Rattle.prt_version.proofs.rule_index.list_named.Given as goal

abbrev pub invariant-loop-byte : goal.invariant-loop-byte
invariant-loop-byte l = record { small : l.number < 64; rest : name_number l.number (drop l.byte-index l.byte-items) ≡ name_number 0 l.byte-items }
