use Rattle.std.proofs.Common.{◌≡◌, length}
use Rattle.prt_command.specs.Reading.{words}
use Rattle.prt_import.specs.TableNames.{known_names}
use Rattle.prt_import.specs.Told.{fault_word}
use Rattle.prt_import.proofs.told.word_at_fault.Given as goal

abbrev pub invariant-loop-word : goal.invariant-loop-word
invariant-loop-word l = fault_word (known_names l.names) l.object l.fn.place (words l.fn.text) ≡ fault_word (known_names l.names) l.object l.place (words l.rest)

abbrev pub decreases-loop-word : goal.decreases-loop-word
decreases-loop-word l = length l.rest
