use Rattle.std.proofs.Common.{◌≡◌, drop, map}
use Rattle.prt_route.specs.Names.{name_in}
use Rattle.prt_route.proofs.names.name_in.Given as goal

abbrev pub invariant-loop-name : goal.invariant-loop-name
invariant-loop-name l = name_in (map (λ row. (row.0.now, row.1)) l.fn.names) l.wanted ≡ name_in (map (λ row. (row.0.now, row.1)) (drop l.name-index l.names)) l.wanted
