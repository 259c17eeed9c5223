use Rattle.std.specs.Prelude.{length}
use Rattle.prt_version.proofs.several.+make_all.Given as goal

abbrev pub decreases-make_all : goal.decreases-make_all
decreases-make_all l = length l.commands.now
