-- Desks that were opened.
use Rattle.std.specs.Prelude.{◌≡◌}
use Rattle.prt_session.specs.Desk.{DeskState, settled}
use Rattle.prt_version.specs.State.{State}

-- the desk represents this state and no other
pub record IsOpenOn {X : Type 0} (stands : X → DeskState → Type 0) (desk : X) (opened : State) : Type 0 where
  pub there : stands desk (settled opened)
  pub alone : (seen : DeskState) → stands desk seen → seen ≡ settled opened
