use Rattle.std.proofs.Common.{◌≡◌, length}
use Rattle.prt_command.specs.Scan.{items_of}
use Rattle.prt_command.specs.Reading.{meaning_of, words}
use Rattle.prt_command.proofs.reader.read_items.Given as goal

abbrev pub invariant-items : goal.invariant-items
invariant-items l = items_of (meaning_of l.verb).line l.items (words l.rest) ≡ items_of (meaning_of l.verb).line l.fn.items (words l.fn.text)

abbrev pub decreases-items : goal.decreases-items
decreases-items l = length l.rest
