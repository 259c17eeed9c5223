use Rattle.prt_publisher.proofs.Stops.{leaves_a_state}
use Rattle.prt_publisher.proofs.laws.stops_leave_a_state.Goals as goal

pub returns : goal.returns
returns g c = leaves_a_state g.S.Store
