-- What a feed sends: the tables as they are at one number, and each command that is published after it.
use Rattle.std.specs.Prelude.{ℕ, ◌+◌, List, [], ◌∷◌, ◌++◌, codes, decimal}
use Rattle.prt_command.specs.declared.request.Command.{Command}
use Rattle.prt_dump.specs.PutBack.{dump_text}
use Rattle.prt_listing.specs.QueryText.{lines_text}
use Rattle.prt_spelling.specs.Line.{command_line}
use Rattle.prt_version.specs.State.{State}

-- `state` and the number; the lines of a dump; `now`, which no dump has: the tables are whole
abbrev pub opening_text : State → List ℕ
opening_text state = codes "state " ++ decimal state.count ++ codes "\n" ++ dump_text state ++ codes "now\n"

-- the number of a command, a space, and its line
abbrev pub change_line : ℕ → Command → List ℕ
change_line number command = decimal number ++ codes " " ++ command_line command

-- the lines of commands that come one after another, the first of them after this number
abbrev pub change_lines : ℕ → List Command → List (List ℕ)
change_lines number [] = []
change_lines number (command ∷ commands) = change_line (number + 1) command ∷ change_lines (number + 1) commands

-- of a state that was published, and of commands that were published next
abbrev pub feed_text : State → List Command → List ℕ
feed_text state commands = opening_text state ++ lines_text (change_lines state.count commands)
