-- What the loops over the words of a line and the lines of a file keep.
use Rattle.std.specs.Prelude.{◌≡◌, ℕ, ◌-◌, List, [], ◌∷◌, ◌++◌, length, Result, Ok}
use Rattle.prt_addr.specs.Word.{Word}
use Rattle.prt_refusals.specs.declared.refusal.Refusal.{Refusal}
use Rattle.prt_command.specs.Then.{map_ok}
use Rattle.prt_command.specs.declared.request.Command.{Command}
use Rattle.prt_replay.specs.ReadEvents.{command, events_of_lines, most_events}
use Rattle.prt_replay.specs.declared.event.Event.{Event}

-- These words are a command, which was added to others.
pub record IsAdded (before : List Command) (ws : List Word) (after : List Command) : Type 0 where
  pub last : Command
  pub is : command ws ≡ Ok last
  pub added : after ≡ before ++ last ∷ []

-- the events read so far and those of the lines after them, of which so many may come
abbrev pub with_lines : List Event → ℕ → List (List ℕ) → Result (List Event) Refusal
with_lines read left lines = map_ok (λ others. read ++ others) (events_of_lines left (most_events - length read) lines)
