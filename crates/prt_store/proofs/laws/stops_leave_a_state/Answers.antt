use Rattle.prt_store.proofs.Stops.{leaves_a_state, leaves_all_or_none}
use Rattle.prt_store.proofs.laws.stops_leave_a_state.Goals as goal

pub returns-clause-one : goal.returns-clause-one
returns-clause-one g c = leaves_a_state g.S.Store

pub returns-clause-several : goal.returns-clause-several
returns-clause-several g c = leaves_all_or_none g.S.Store
