use Rattle.prt_session.proofs.AllOrNone.{all_made_or_none, refused_unchanged}
use Rattle.prt_session.proofs.laws.all_or_none.Goals as goal

pub returns : goal.returns
returns c = record { made = all_made_or_none; unchanged = refused_unchanged }
