-- What holds of the world after every list of events.
use Rattle.std.specs.Prelude.{◌≡◌, ◌⊎◌, ℕ, ◌+◌, ◌-◌, ◌≤◌, ◌==◌, Bool, List, [], ◌∷◌, ◌++◌, length, take, Some, None, slice_get}
use Rattle.std.specs.List.{list_any}
use Rattle.prt_command.specs.declared.request.Command.{Command}
use Rattle.prt_version.specs.Change.{fold}
use Rattle.prt_version.specs.Select.{select}
use Rattle.prt_version.specs.State.{State, opening_state}
use Rattle.prt_replay.specs.World.{Ack, Lookup, LookerState, World, durable, kept, offline, online, published_version}
use Rattle.prt_replay.specs.declared.outcome.Outcome.{Outcome}
use Rattle.prt_replay.specs.declared.outcome.Outcome.TheVariants.{Reopened}

-- the state of a new database after the first n of these commands
abbrev pub state_after : List Command → ℕ → State
state_after commands n = fold opening_state (take n commands)

-- What is durable is a prefix of what was accepted, which lacks at most the command, or the commands of the file, that
-- were accepted last; what is published is durable, and the registry has noted it or all of it but those.
pub record IsDurable (world : World) : Type 0 where
  pub published_is_durable : world.published ≤ durable world
  pub durable_is_accepted : durable world ≤ length world.accepted
  pub all_or_none : (durable world ≡ length world.accepted) ⊎ (world.accepted ≡ take (durable world) world.accepted ++ world.last)
  pub noted_is_published : world.noted ≤ world.published
  pub all_are_noted : (world.published ≡ world.noted) ⊎ (world.published ≡ world.noted + length world.last)
  pub disk_is_prefix : world.disk ≡ state_after world.accepted (durable world)
  pub published_is_prefix : published_version world ≡ state_after world.accepted world.published

-- The command was accepted under this number, counted from 1, and is durable.
pub record IsAcknowledged (world : World) (ack : Ack) : Type 0 where
  pub counted : 1 ≤ ack.number
  pub is_durable : ack.number ≤ durable world
  pub accepted : slice_get world.accepted (ack.number - 1) ≡ Some ack.command

-- a command of this number was acknowledged
abbrev pub is_acknowledged : List Ack → ℕ → Bool
is_acknowledged acks number = list_any (λ ack. ack.number == number) acks

-- the number of commands when the database was opened last, after one more outcome
abbrev pub opened_count : ℕ → Outcome → ℕ
opened_count count (Reopened number) = number
opened_count count outcome = count

-- and after these outcomes
abbrev pub last_opening : ℕ → List Outcome → ℕ
last_opening count [] = count
last_opening count (outcome ∷ outcomes) = last_opening (opened_count count outcome) outcomes

-- The answer is that of a prefix of the accepted commands which is durable.
pub record IsAnswered (world : World) (lookup : Lookup) : Type 0 where
  pub is_durable : lookup.answer.number ≤ durable world
  pub verdict : lookup.answer.verdict ≡ select (state_after world.accepted lookup.answer.number) lookup.packet

-- What a looker holds is kept, and it has announced that number or a lower one.
abbrev pub IsRetained : World → LookerState → Type 0
IsRetained world offline = Unit {0}
IsRetained world (online announced None) = Unit {0}
IsRetained world (online announced (Some held)) = (announced ≤ held) × (kept world.versions held ≡ Some (state_after world.accepted held))

-- What was acknowledged and answered, and what is durable, stays so in a later world.
pub record Grows (before after : World) : Type 0 where
  pub acks : take (length before.acks) after.acks ≡ before.acks
  pub answers : take (length before.answers) after.answers ≡ before.answers
  pub durable : durable before ≤ durable after
