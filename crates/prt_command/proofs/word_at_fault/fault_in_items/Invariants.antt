use Rattle.std.proofs.Common.{◌≡◌, IfSome, drop, length}
use Rattle.prt_command.specs.FaultWord.{IsIn, items_fault, words_from}
use Rattle.prt_command.specs.Items.{no_items}
use Rattle.prt_command.specs.Reading.{meaning_of, words}
use Rattle.prt_command.specs.declared.word_at_fault.Place.TheVariants.{Start}
use Rattle.prt_command.proofs.word_at_fault.fault_in_items.Given as goal

abbrev pub invariant-words : goal.invariant-words
invariant-words l =
    (items_fault (meaning_of l.verb).line l.place l.items (words_from l.text l.found) ≡ items_fault (meaning_of l.fn.verb).line Start no_items (words (drop l.fn.from l.fn.text)))
    × IfSome l.found (IsIn l.text)

abbrev pub decreases-words : goal.decreases-words
decreases-words l = length (words_from l.text l.found)
