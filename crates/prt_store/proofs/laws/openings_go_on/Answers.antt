use Rattle.prt_store.proofs.Adoptions.{goes_on}
use Rattle.prt_store.proofs.laws.openings_go_on.Goals as goal

pub returns : goal.returns
returns c = goes_on
