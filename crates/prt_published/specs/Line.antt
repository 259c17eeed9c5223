-- The published list, as contracts see it: the commands that were accepted since the tables were loaded.
use Rattle.std.specs.Prelude.{◌≡◌, List, [], ◌∷◌, ◌++◌}
use mathlib.Core.List.{IsPrefix}
use Rattle.logbook.specs.Pages.{Book}
use Rattle.prt_command.specs.declared.request.Command.{Command}
use Rattle.prt_version.specs.Change.{fold}
use Rattle.prt_version.specs.State.{State}

-- which front it is of, the state that was loaded, and the commands since then
pub record Line : Type 0 where
  pub book : Book
  pub base : State
  pub list : List Command

-- the state after its commands
abbrev pub line_state : Line → State
line_state line = fold line.base line.list

-- these commands more
abbrev pub grown_by : Line → List Command → Line
grown_by line commands = record line { list = line.list ++ commands }

-- one command more
abbrev pub grown : Line → Command → Line
grown line command = grown_by line (command ∷ [])

-- the later one is of the same front, and its list begins with the whole earlier one
abbrev pub Begins : Line → Line → Type 0
Begins earlier later = (later.book ≡ earlier.book) × (later.base ≡ earlier.base) × IsPrefix earlier.list later.list
