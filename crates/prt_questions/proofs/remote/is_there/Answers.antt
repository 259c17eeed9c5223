use Rattle.std.proofs.Common.{refl}
use Rattle.std.specs.Prelude.{codes}
use Rattle.prt_questions.proofs.remote.is_there.Goals as goal

pub reach_to_ask-requires : goal.reach_to_ask-requires
reach_to_ask-requires g c = (codes "route get 127.0.0.1", (_, refl), refl)
