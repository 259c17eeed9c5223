use Rattle.prt_spelling.proofs.Found.{found_is_spelled}
use Rattle.prt_spelling.proofs.laws.what_is_read_is_spelled.Goals as goal

pub returns : goal.returns
returns c = found_is_spelled
