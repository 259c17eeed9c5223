use Rattle.std.proofs.Common.{length}
use Rattle.prt_version.proofs.Runs.{IsCut}
use Rattle.prt_version.proofs.shared_table.tables_of_rows.Given as goal

abbrev pub invariant-loop-first : goal.invariant-loop-first
invariant-loop-first l = IsCut l.rows l.tables.items l.rest

abbrev pub decreases-loop-first : goal.decreases-loop-first
decreases-loop-first l = length l.rest
