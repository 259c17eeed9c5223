use Rattle.std.proofs.Common.{◌≡◌, drop, map}
use Rattle.std.specs.Option.{option_map, option_or}
use Rattle.prt_import.specs.Naming.{last_name}
use Rattle.prt_import.specs.TableNames.{names_of}
use Rattle.prt_import.proofs.names.Names.last.Given as goal

abbrev pub invariant-loop-entry : goal.invariant-loop-entry
invariant-loop-entry l = last_name (names_of l.self) l.number ≡ option_or (last_name (map (λ entry. (entry.name.items, entry.number)) (drop l.entry-index l.entry-items)) l.number) (option_map (λ name. name.now) l.last)
