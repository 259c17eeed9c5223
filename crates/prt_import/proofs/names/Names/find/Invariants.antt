use Rattle.std.proofs.Common.{◌≡◌, drop, map}
use Rattle.prt_route.specs.Names.{number_in}
use Rattle.prt_import.specs.TableNames.{names_of}
use Rattle.prt_import.proofs.names.Names.find.Given as goal

abbrev pub invariant-loop-entry : goal.invariant-loop-entry
invariant-loop-entry l = number_in (names_of l.self) l.name ≡ number_in (map (λ entry. (entry.name.items, entry.number)) (drop l.entry-index l.entry-items)) l.name
