-- Commands that are checked and planned over a state.
use Rattle.std.specs.Prelude.{List}
use Rattle.prt_command.specs.declared.request.Command.{Command}
use Rattle.prt_version.specs.Change.{fold}
use Rattle.prt_version.specs.State.{State}

-- the state, and the commands that it accepts one after the other
pub record Planned : Type 0 where
  pub base : State
  pub commands : List Command

-- the state after them
abbrev pub planned_state : Planned → State
planned_state planned = fold planned.base planned.commands
