use Rattle.prt_rows.proofs.RowTests.{passes_id, passes_key, passes_priority}
use Rattle.prt_rows.proofs.laws.rows_named.Goals as goal

pub returns : goal.returns
returns c = record { key = passes_key; id = passes_id; priority = passes_priority }
