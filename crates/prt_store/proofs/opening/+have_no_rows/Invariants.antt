use Rattle.std.specs.Prelude.{length}
use Rattle.prt_store.proofs.opening.+have_no_rows.Given as goal

abbrev pub decreases-have_no_rows : goal.decreases-have_no_rows
decreases-have_no_rows g l = length l.others.now
