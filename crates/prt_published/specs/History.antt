-- The history of a front: the state that was loaded, and each accepted command. Its one word is the number of commands.
use Rattle.std.specs.Prelude.{ℕ, ◌≡◌, ◌-◌, ◌==◌, true, List, [], ◌∷◌, ◌++◌, length, map, MatchBool}
use Rattle.logbook.specs.Pages.{Book, Cell, Named, Step, View}
use Rattle.prt_command.specs.declared.request.Command.{Command}
use Rattle.prt_version.specs.Accepted.{IsAccepted}
use Rattle.prt_version.specs.State.{State, opening_state}
use Rattle.prt_published.specs.Line.{Line}
use Rattle.prt_published.specs.declared.history.Batch.{Batch}
use Rattle.prt_published.specs.declared.history.Batch.TheVariants.{One, Several}
use Rattle.prt_published.specs.declared.history.Entry.{Entry}
use Rattle.prt_published.specs.declared.history.Entry.TheVariants.{Accepted, Asked, Loaded}

-- ---- a list and its entries

abbrev pub entries : State → List Command → List Entry
entries base list = Loaded base ∷ map Accepted list

abbrev pub base_of : List Entry → State
base_of [] = opening_state
base_of (Loaded state ∷ log) = state
base_of (Accepted command ∷ log) = opening_state
base_of (Asked commands ∷ log) = opening_state

abbrev pub commands_of : List Entry → List Command
commands_of [] = []
commands_of (Loaded state ∷ log) = commands_of log
commands_of (Accepted command ∷ log) = command ∷ commands_of log
commands_of (Asked commands ∷ log) = commands_of log

-- the commands that a step asks for
abbrev pub asked_commands : Entry → List Command
asked_commands (Asked commands) = commands.items
asked_commands (Accepted command) = command ∷ []
asked_commands (Loaded state) = []

-- what the step of a publication asks for
abbrev pub ask_of : Batch → Entry
ask_of (One command) = Accepted command.value
ask_of (Several commands) = Asked commands.value

-- the commands of a publication
abbrev pub commands_in : Batch → List Command
commands_in batch = asked_commands (ask_of batch)

abbrev pub line_of : Book → List Entry → Line
line_of book log = record { book = book; base = base_of log; list = commands_of log }

-- ---- the rule

-- a loaded state, and commands that were accepted one after the other
pub record IsLegal (log : List Entry) : Type 0 where
  pub base : State
  pub list : List Command
  pub is : log ≡ entries base list
  pub accepted : IsAccepted base list

-- the word is the number of commands
pub record IsKept (cells : List Cell) (log : List Entry) : Type 0 where
  pub words : cells ≡ (length log - 1, true) ∷ []
  pub legal : IsLegal log

-- the word of this history
abbrev pub length_of : Book → Named
length_of book = record { tracked = true; key = 0; book = book }

-- each command is added to all that was seen, if the word is as expected
abbrev pub Adds : Step Entry → View Entry ℕ → ℕ → View Entry ℕ → Type 0
Adds step before found after = MatchBool (found == step.old) (after.0 ≡ before.0 ++ map Accepted (asked_commands step.ask)) (Unit {0})
