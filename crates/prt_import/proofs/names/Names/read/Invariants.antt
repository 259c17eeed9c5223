use Rattle.std.proofs.Common.{◌≡◌, ◌++◌, flat_map, length}
use Rattle.prt_command.specs.Reading.{line_words}
use Rattle.prt_import.specs.Lines.{lines_of}
use Rattle.prt_import.specs.TableNames.{entry_of, file_names, names_of}
use Rattle.prt_import.proofs.names.Names.read.Given as goal

abbrev pub invariant-loop-line : goal.invariant-loop-line
invariant-loop-line l = names_of l.fn.self ++ file_names l.fn.text ≡ names_of l.self ++ flat_map (λ line. entry_of (line_words line)) (lines_of l.rest)

abbrev pub decreases-loop-line : goal.decreases-loop-line
decreases-loop-line l = length l.rest
