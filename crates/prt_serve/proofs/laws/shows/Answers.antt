use Rattle.prt_serve.proofs.Sessions.{shows_path}
use Rattle.prt_serve.proofs.laws.shows.Goals as goal

pub returns : goal.returns
returns c = shows_path
