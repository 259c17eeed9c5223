use Rattle.std.proofs.Common.{inr, sym}
use Rattle.prt_questions.proofs.Statuses.{both_done}
use Rattle.prt_questions.proofs.importing.import_listing.Goals as goal

pub returns-clause-whole : goal.returns-clause-whole
returns-clause-whole g c = λ done.
    let both = both_done _ _ _ c.or_left.ensures done in
    (c.in-Ok.read.0, (c.in-Ok.read.2.items, c.in-Ok.ensures.made, c.in-Ok.ensures.kept both.1), rw (sym c.in-Ok.ensures.unwritten) (c.print_or_make-made.ensures.whole both.0))

pub returns-clause-at_most : goal.returns-clause-at_most
returns-clause-at_most g c = inr (c.in-Ok.read.0, c.in-Ok.read.2.items, c.in-Ok.ensures.made, rw (sym c.in-Ok.ensures.unwritten) c.print_or_make-made.ensures.at_most)
