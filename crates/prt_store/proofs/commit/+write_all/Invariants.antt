use Rattle.std.specs.Prelude.{length}
use Rattle.prt_store.proofs.commit.+write_all.Given as goal

abbrev pub decreases-write_all : goal.decreases-write_all
decreases-write_all g l = length l.changes.now
