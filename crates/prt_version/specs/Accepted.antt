-- Commands that were accepted one after the other, and those that are accepted together or not at all.
use Rattle.std.specs.Prelude.{◌≡◌, ◌⊎◌, List, [], ◌∷◌, Option, Some, None, Result, Ok, Err}
use Rattle.prt_refusals.specs.declared.refusal.Refusal.{Refusal}
use Rattle.prt_refusals.specs.declared.refusal.Refusal.TheVariants.{NoMemory}
use Rattle.prt_command.specs.declared.request.Command.{Command}
use Rattle.prt_version.specs.Change.{apply, check, refusal}
use Rattle.prt_version.specs.State.{State}
use Rattle.prt_version.specs.declared.change.Change.{Change}

-- each command is refused for nothing in the state after those before it
abbrev pub IsAccepted : State → List Command → Type 0
IsAccepted state [] = Unit {0}
IsAccepted state (command ∷ commands) = (refusal state command ≡ None) × IsAccepted (apply state command) commands

-- the first of two refusals
abbrev pub or_later : Option Refusal → Option Refusal → Option Refusal
or_later (Some reason) later = Some reason
or_later None later = later

-- the first refusal among commands, each in the state after those before it
abbrev pub refusal_all : State → List Command → Option Refusal
refusal_all state [] = None
refusal_all state (command ∷ commands) = or_later (refusal state command) (refusal_all (apply state command) commands)

-- why such commands are not made: the first refusal among them, or that memory was refused on the way to it
abbrev pub IsRefusedFor : State → List Command → Refusal → Type 0
IsRefusedFor state commands reason = (refusal_all state commands ≡ Some reason) ⊎ (reason ≡ NoMemory)

-- one change before others, if one is made
abbrev pub with_made : Result Change Refusal → List Change → List Change
with_made (Ok made) changes = made ∷ changes
with_made (Err reason) changes = changes

-- the changes that commands make, each of the state after those before it
abbrev pub changes_of : State → List Command → List Change
changes_of state [] = []
changes_of state (command ∷ commands) = with_made (check state command) (changes_of (apply state command) commands)
