-- What lines make of a state: a command that is accepted its successor, and anything else the same state.
use Rattle.std.specs.Prelude.{ℕ, List, Option, Some, None, Result, Ok, Err}
use Rattle.prt_refusals.specs.declared.refusal.Refusal.{Refusal}
use Rattle.prt_command.specs.Reading.{reading}
use Rattle.prt_command.specs.declared.request.Request.{Request}
use Rattle.prt_command.specs.declared.request.Request.TheVariants.{Command, Query}
use Rattle.prt_version.specs.Change.{apply, refusal}
use Rattle.prt_version.specs.State.{State}

-- the state after what a line was read as
abbrev pub read_state : State → Result (Option Request) Refusal → State
read_state state (Ok (Some (Command command))) = apply state command
read_state state (Ok (Some (Query query))) = state
read_state state (Ok None) = state
read_state state (Err reason) = state

-- why that is refused: the line's first fault, or what the state refuses its command for
abbrev pub read_refusal : State → Result (Option Request) Refusal → Option Refusal
read_refusal state (Ok (Some (Command command))) = refusal state command
read_refusal state (Ok (Some (Query query))) = None
read_refusal state (Ok None) = None
read_refusal state (Err reason) = Some reason

-- the state after a line, which comes without its newline
abbrev pub line_state : State → List ℕ → State
line_state state line = read_state state (reading line)

-- why a line is refused, if it is
abbrev pub line_refusal : State → List ℕ → Option Refusal
line_refusal state line = read_refusal state (reading line)
