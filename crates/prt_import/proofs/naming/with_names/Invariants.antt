use Rattle.std.proofs.Common.{◌≡◌, ◌++◌, length}
use Rattle.prt_import.specs.Naming.{pieces, shown_from, with_names}
use Rattle.prt_import.specs.TableNames.{names_of}
use Rattle.prt_import.proofs.naming.with_names.Given as goal

abbrev pub invariant-loop-cut : goal.invariant-loop-cut
invariant-loop-cut l = with_names l.form (names_of l.names) l.fn.text ≡ l.out.items ++ shown_from l.form (names_of l.names) l.before (pieces l.form l.rest)

abbrev pub decreases-loop-cut : goal.decreases-loop-cut
decreases-loop-cut l = length l.rest
