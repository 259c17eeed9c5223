-- What a listing becomes as it is brought to tables that change.
use Rattle.std.specs.Prelude.{◌≡◌, ◌⊎◌, ◌+◌, ℕ, Bool, List, [], ◌∷◌, ◌++◌, Option, map}
use Rattle.prt_command.specs.declared.request.Command.{Command}
use Rattle.prt_diff.specs.Between.{end_of}
use Rattle.prt_diff.specs.Text.{changes_text}
use Rattle.prt_diff.specs.declared.fence.Fence.{Fence}
use Rattle.prt_feed.specs.declared.change.Change.{Change}
use Rattle.prt_replies.specs.Written.{Written}
use Rattle.prt_version.specs.Accepted.{IsAccepted}
use Rattle.prt_version.specs.Change.{apply}
use Rattle.prt_version.specs.State.{State}
use Rattle.prt_ask.specs.declared.mirror.Mirror.{Mirror}

-- a listing that was brought to tables
abbrev pub mirror_of : Fence → State → State → Mirror
mirror_of fence found wanted = record { fence = fence; found = end_of fence found wanted; wanted = wanted }

-- and then to those after a command
abbrev pub after_change : Mirror → Command → Mirror
after_change mirror command = mirror_of mirror.fence mirror.found (apply mirror.wanted command)

abbrev pub after_changes : Mirror → List Command → Mirror
after_changes mirror [] = mirror
after_changes mirror (command ∷ commands) = after_changes (after_change mirror command) commands

-- the lines that bring it to the tables after a command
abbrev pub step_text : Mirror → Command → List ℕ
step_text mirror command = changes_text mirror.fence mirror.found (apply mirror.wanted command)

-- and those for one command after the other
abbrev pub steps_text : Mirror → List Command → List ℕ
steps_text mirror [] = []
steps_text mirror (command ∷ commands) = step_text mirror command ++ steps_text (after_change mirror command) commands

-- the commands of changes
abbrev pub commands_of : List Change → List Command
commands_of changes = map (λ change. change.command) changes

-- each change has the number after the one before it, the first the one after this
abbrev pub AreNumbered : ℕ → List Change → Type 0
AreNumbered number [] = Unit {0}
AreNumbered number (change ∷ changes) = (change.number ≡ number + 1) × AreNumbered (number + 1) changes

-- Changes came one after the other, and the lines for them were written in turn; if not all of it went well, a part of the lines.
pub record Follows (old new : Mirror) (changes : List Change) (whole : Bool) (writer0 writer : Option (List ℕ)) : Type 0 where
  pub numbered : AreNumbered old.wanted.count changes
  pub accepted : IsAccepted old.wanted (commands_of changes)
  pub mirror : new ≡ after_changes old (commands_of changes)
  pub written : Written whole writer0 writer (steps_text old (commands_of changes))

-- the change, or none
abbrev pub AreAtMost : Change → List Change → Type 0
AreAtMost change changes = (changes ≡ []) ⊎ (changes ≡ change ∷ [])
