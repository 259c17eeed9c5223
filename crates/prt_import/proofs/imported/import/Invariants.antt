use Rattle.std.proofs.Common.{length}
use Rattle.prt_import.specs.TableNames.{known_names}
use Rattle.prt_import.proofs.Parts.{SoFar}
use Rattle.prt_import.proofs.imported.import.Given as goal

abbrev pub invariant-loop-line : goal.invariant-loop-line
invariant-loop-line l = SoFar l.draft (known_names l.names) l.number l.text l.rest

abbrev pub decreases-loop-line : goal.decreases-loop-line
decreases-loop-line l = length l.rest
