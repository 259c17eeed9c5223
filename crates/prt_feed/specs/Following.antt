-- What a client knows that executes the lines of a feed.
use Rattle.std.specs.Prelude.{◌≡◌, ◌≢◌, ℕ, ◌+◌, ◌==◌, true, false, List, ◌∷◌, ◌++◌, codes, decimal, length, map, option_map, slice_get}
use Rattle.std.specs.List.{after_first, AllByRecursion as Each}
use Rattle.prt_command.specs.declared.request.Command.{Command}
use Rattle.prt_dump.specs.Dump.{dump_lines}
use Rattle.prt_dump.specs.PutBack.{IsSameButForIds}
use Rattle.prt_feed.specs.Feed.{change_line, change_lines, feed_text}
use Rattle.prt_lines.specs.Chunk.{AreAccepted, has_newline, lines_state, whole_lines}
use Rattle.prt_spelling.specs.Fits.{CommandFits}
use Rattle.prt_spelling.specs.Line.{command_line}
use Rattle.prt_spelling.specs.Spelled.{is_spelled}
use Rattle.prt_version.specs.Change.{fold}
use Rattle.prt_version.specs.State.{State, opening_state}

-- ---- lines that are executed

-- Over what is known each of the lines is accepted, and they make this state, except for ids.
pub record LeadTo (known : State) (lines : List (List ℕ)) (state : State) : Type 0 where
  pub accepted : AreAccepted known lines
  pub same : IsSameButForIds (lines_state known lines) state

-- A line can ask for the command, and its numbers are those of the program's types.
pub record HasLine (command : Command) : Type 0 where
  pub fits : CommandFits command
  pub spelled : is_spelled command ≡ true

-- ---- the lines of a feed

-- the text is these lines, each with a newline, and no line has one within it
pub record AreLinesOf (text : List ℕ) (lines : List (List ℕ)) : Type 0 where
  pub parts : text ≡ whole_lines lines
  pub whole : Each (λ line. has_newline line ≡ false) lines

abbrev pub state_line : ℕ → List ℕ
state_line number = codes "state " ++ decimal number

abbrev pub now_line : List ℕ
now_line = codes "now"

abbrev pub feed_lines : State → List Command → List (List ℕ)
feed_lines state commands = state_line state.count ∷ (dump_lines state ++ (now_line ∷ change_lines state.count commands))

-- what comes in a change's line after its number and the space
abbrev pub after_number : List ℕ → List ℕ
after_number line = after_first (λ b. b == 32) line

-- what a client executes: the lines of the dump, and those of the changes without their numbers
abbrev pub executed_lines : State → List Command → List (List ℕ)
executed_lines state commands = dump_lines state ++ map after_number (change_lines state.count commands)

-- A client that executes the lines of a feed over a new database follows the server.
pub record IsFollowed (state : State) (commands : List Command) : Type 0 where
  -- the lines of the text
  pub lines : AreLinesOf (feed_text state commands) (feed_lines state commands)
  -- the first `now` comes after the dump
  pub now : Each (λ line. line ≢ now_line) (dump_lines state)
  -- after its number a change's line is its command's
  pub changes : map after_number (change_lines state.count commands) ≡ map command_line commands
  -- the changes are numbered on from the state: the one at place k, from 0 on, is k + 1 after it
  pub numbers : (k : ℕ) → slice_get (change_lines state.count commands) k ≡ option_map (change_line (state.count + k + 1)) (slice_get commands k)
  -- the last number is that of the state after the commands
  pub number : (fold state commands).count ≡ state.count + length commands
  -- each executed line is accepted, and they make the state after the commands, except for ids
  pub leads : LeadTo opening_state (executed_lines state commands) (fold state commands)
