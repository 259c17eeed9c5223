-- The lines of changes.
use Rattle.std.specs.Prelude.{◌≡◌, ℕ, not, List, find, map, Some, Ok}
use Rattle.prt_command.specs.Reading.{reading}
use Rattle.prt_command.specs.declared.request.Command.{Command}
use Rattle.prt_command.specs.declared.request.Request.TheVariants as requests
use Rattle.prt_listing.specs.QueryText.{lines_text}
use Rattle.prt_spelling.specs.Line.{line_by}
use Rattle.prt_spelling.specs.Spelled.{is_spelled}
use Rattle.prt_spelling.specs.declared.form.NameForm.{NameForm}
use Rattle.prt_spelling.specs.declared.form.NameForm.TheVariants.{ByName, ByNumber}
use Rattle.prt_version.specs.State.{State}
use Rattle.prt_diff.specs.Plan.{changes}
use Rattle.prt_diff.specs.declared.fence.Fence.{Fence}
use Rattle.prt_diff.specs.declared.refusal.LineError.{LineError}
use Rattle.prt_diff.specs.declared.refusal.LineError.TheVariants.{NoLine, NoMemory}

-- a line for each command, with its newline
abbrev pub text_by : NameForm → List Command → List ℕ
text_by form commands = lines_text (map (line_by form) commands)

-- the lines with the names of protocols and scopes, for a reader and for a server
abbrev pub commands_text : List Command → List ℕ
commands_text commands = text_by ByName commands

-- the lines with their numbers, for `ip -batch`
abbrev pub batch_text : List Command → List ℕ
batch_text commands = text_by ByNumber commands

abbrev pub changes_text : Fence → State → State → List ℕ
changes_text fence found wanted = batch_text (changes fence found wanted)

-- the line of the command asks for it
abbrev pub IsAskedFor : NameForm → Command → Type 0
IsAskedFor form command = reading (line_by form command) ≡ Ok (Some (requests.Command command))

-- the first command that no line can express
abbrev pub IsWhyNotWritten : List Command → LineError → Type 0
IsWhyNotWritten commands (NoLine command) = find (λ other. not (is_spelled other)) commands ≡ Some command
IsWhyNotWritten commands NoMemory = Unit {0}
