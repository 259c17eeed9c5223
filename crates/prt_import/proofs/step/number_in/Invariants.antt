use Rattle.std.proofs.Common.{◌≡◌, drop, map}
use Rattle.prt_route.specs.Names.{number_in}
use Rattle.prt_import.proofs.step.number_in.Given as goal

abbrev pub invariant-loop-name : goal.invariant-loop-name
invariant-loop-name l = number_in (map (λ row. (row.0.now, row.1)) l.fn.names) l.fn.word ≡ number_in (map (λ row. (row.0.now, row.1)) (drop l.name-index l.names)) l.fn.word
