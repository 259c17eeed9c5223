use Rattle.std.proofs.Common.{◌≡◌, ◌++◌, length, map}
use Rattle.prt_command.specs.Reading.{words}
use Rattle.prt_import.specs.TableNames.{known_names}
use Rattle.prt_import.specs.Told.{notes_of, numbered, remark_of}
use Rattle.prt_import.proofs.told.push_notes.Given as goal

abbrev pub invariant-loop-word : goal.invariant-loop-word
invariant-loop-word l = map remark_of l.fn.notes.items ++ notes_of (known_names l.names) l.object (numbered l.source) l.fn.place (words l.fn.text) ≡ map remark_of l.notes.items ++ notes_of (known_names l.names) l.object (numbered l.source) l.place (words l.rest)

abbrev pub decreases-loop-word : goal.decreases-loop-word
decreases-loop-word l = length l.rest
