use Rattle.std.proofs.Common.{◌≡◌, All, length}
use Rattle.left_right.specs.Sides.{view}
use Rattle.prt_published.specs.Copies.{origin_of}
use Rattle.prt_published.proofs.reader.readers_of.Given as goal

abbrev pub invariant-loop : goal.invariant-loop
invariant-loop l = (l.writer.desk.shown.value ≡ l.initial.writer.desk.shown.value) × (view l.writer.desk.place ≡ origin_of l.writer.desk.shown.value.book) × (l.writer.desk.shown.value ≡ l.known) × (length l.readers.items ≡ l.counter) × All (λ x. x ≡ l.known) l.readers.items
