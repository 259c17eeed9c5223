use Rattle.prt_rows.proofs.Selecting.{passes_selector}
use Rattle.prt_rows.proofs.laws.rows_selected.Goals as goal

pub returns : goal.returns
returns c = passes_selector
