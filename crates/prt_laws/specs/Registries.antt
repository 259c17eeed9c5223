-- Which worlds a registry of grace periods stands for, and what an event of a looker makes of it.
use Rattle.std.specs.Prelude.{◌≡◌, ◌<◌, ◌++◌, ◌==◌, if◌then◌else◌, ℕ, nat_lt, length, true, false, List, [], ◌∷◌, map, None, Some}
use Rattle.std.specs.List.{AllByRecursion as Each}
use Rattle.prt_grace.specs.Registry.{RegistryState, announced, noted_by, reclaimed, with_place}
use Rattle.prt_grace.specs.declared.limits.TheConstants.{MOST_RETIRED}
use Rattle.prt_grace.specs.declared.place.PlaceState.TheVariants as places
use Rattle.prt_version.specs.State.{State}
use Rattle.prt_replay.specs.World as world
use Rattle.prt_replay.specs.World.{LookerState, Phase as Moment, World, announced_by, has_room, is_stopped, looker_state, offline, online}
use Rattle.prt_replay.specs.World.{published_version, step}
use Rattle.prt_replay.specs.declared.event.Event.{Event}
use Rattle.prt_replay.specs.declared.event.Event.TheVariants as events
use Rattle.prt_laws.specs.Events.{is_going}
use Rattle.prt_laws.specs.Spots.{IsReached}

-- The registry has noted the world's number. Its versions are those that the world keeps, except for one that is published
-- and not noted. Its places announce what the world's lookers do.
pub record IsRegistryOf (r : RegistryState) (w : World) : Type 0 where
  pub noted : r.noted.count ≡ w.noted
  pub below : Each (λ state. state.count < w.noted) r.retired
  pub all : w.versions ≡ r.retired ++ r.noted ∷ (if w.noted == w.published then [] else published_version w ∷ [])
  pub told : map announced r.places ≡ map announced_by w.lookers

-- ---- what an event makes of it

-- an offline looker announces the noted number
abbrev pub brought_online : RegistryState → ℕ → LookerState → RegistryState
brought_online r looker offline = with_place r looker (places.Online r.noted.count)
brought_online r looker (online announced held) = r

-- one that holds a version announces its number
abbrev pub told_number : RegistryState → ℕ → LookerState → RegistryState
told_number r looker offline = r
told_number r looker (online announced None) = r
told_number r looker (online announced (Some held)) = with_place r looker (places.Online held)

abbrev pub taken_offline : RegistryState → ℕ → LookerState → RegistryState
taken_offline r looker offline = r
taken_offline r looker (online announced held) = with_place r looker places.Offline

-- the published version is noted, if that is the publisher's next step
abbrev pub noted_at : RegistryState → State → Moment → RegistryState
noted_at r version (world.Published commands) = noted_by r version
noted_at r version moment = r

-- what an event makes of the registry: only lookers' calls, a reclaim and the note concern it
abbrev pub registry_after : RegistryState → World → Event → RegistryState
registry_after r w (events.Online looker) = brought_online r looker (looker_state w looker)
registry_after r w (events.Announce looker) = told_number r looker (looker_state w looker)
registry_after r w (events.Offline looker) = taken_offline r looker (looker_state w looker)
registry_after r w events.Reclaim = reclaimed r
registry_after r w events.Note = noted_at r (published_version w) w.phase
registry_after r w event = r

-- and what a list of events makes of it
abbrev pub registry_through : RegistryState → World → List Event → RegistryState
registry_through r w [] = r
registry_through r w (event ∷ all) = registry_through (registry_after r w event) (step w event).world all

-- ---- laws

-- The registry's room is the world's.
abbrev pub RoomIsRoom : Type 0
RoomIsRoom = (r : RegistryState) (w : World) → IsReached w → IsRegistryOf r w → has_room w ≡ nat_lt (length r.retired) MOST_RETIRED

-- After each event, while the service runs, the registry stands for the world.
abbrev pub EveryEventKeepsRegistry : Type 0
EveryEventKeepsRegistry = (r : RegistryState) (w : World) (event : Event) → is_going event ≡ true → is_stopped w.phase ≡ false →
    IsReached w → IsRegistryOf r w → IsRegistryOf (registry_after r w event) (step w event).world
