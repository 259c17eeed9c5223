use Rattle.prt_laws.proofs.Desks.{desk_holds_all, list_is_steps, turn_is_steps}
use Rattle.prt_laws.proofs.laws.turn_is_steps.Goals as goal

pub returns : goal.returns
returns c = record { turn = turn_is_steps; list = list_is_steps; holds = desk_holds_all }
