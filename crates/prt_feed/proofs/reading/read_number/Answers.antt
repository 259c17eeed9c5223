use Rattle.std.proofs.Common.{arith, ◌∙◌, sym}
use Rattle.prt_feed.proofs.Taking.{first_taken}
use Rattle.prt_feed.proofs.reading.read_number.Goals as goal

pub returns-in-Some-clause-number : goal.returns-in-Some-clause-number
returns-in-Some-clause-number g c = first_taken _ _ c.next_line.new.line.items c.in-Some.number (c.next_line.ensures c.if-not-next_line.false) (sym c.as_slice.ensures.value ∙ c.in-Some.ensures) (omega arith)
