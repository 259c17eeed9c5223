-- What the registry's calls for lookers are in the world.
use Rattle.std.specs.Prelude.{◌≡◌, ℕ, false, true, Option, None, Some}
use Rattle.sqlite.specs.Held.{Held}
use Rattle.sqlite.specs.Store.{Ghosts}
use Rattle.prt_grace.specs.Registry.{RegistryState}
use Rattle.prt_grace.specs.declared.place.Place.{Place}
use Rattle.prt_publisher.specs.Standing.{Standing}
use Rattle.prt_replay.specs.World.{LookerState, World, is_stopped, looker_state, offline, online, step}
use Rattle.prt_replay.specs.declared.event.Event.{Event}
use Rattle.prt_replay.specs.declared.event.Event.TheVariants as events
use Rattle.prt_replay.specs.declared.outcome.Outcome.TheVariants as outcomes
use Rattle.prt_laws.specs.Events.{is_lookers}
use Rattle.prt_laws.specs.Registries.{IsRegistryOf, registry_after}
use Rattle.prt_laws.specs.Publishers.{AreBothOf}
use Rattle.prt_laws.specs.Spots.{IsReached}

-- a looker that has announced this, and holds the version of that number
abbrev pub seat : Option ℕ → Option ℕ → LookerState
seat None held = offline
seat (Some announced) held = online announced held

-- the looker of a place in a world
abbrev pub Sits : Place → Option ℕ → World → Type 0
Sits place held w = looker_state w place.index ≡ seat place.announced held

-- brought online it holds nothing yet
abbrev pub held_online : Option ℕ → Option ℕ → Option ℕ
held_online None held = None
held_online (Some announced) held = held

module _ (r new : RegistryState) (before place : Place) where
  -- A call for a place is this event of its looker: the registry changes by it, and the looker is then where its place says.
  abbrev pub IsCall : Option ℕ → Option ℕ → (ℕ → Event) → Type 0
  IsCall held holds event = (w : World) → is_stopped w.phase ≡ false → IsRegistryOf r w → Sits before held w →
      (new ≡ registry_after r w (event before.index)) × Sits place holds (step w (event before.index)).world

  abbrev pub IsOnline : Type 0
  IsOnline = (held : Option ℕ) → IsCall held (held_online before.announced held) (λ looker. events.Online looker)

  -- if it was offline, that shows this number
  abbrev pub ShowsOnline : ℕ → Type 0
  ShowsOnline number = (w : World) → is_stopped w.phase ≡ false → IsRegistryOf r w → Sits before None w → before.announced ≡ None →
      (step w (events.Online before.index)).outcome ≡ outcomes.Online before.index number

  -- of a looker that holds the version of this number
  abbrev pub IsAnnounce : ℕ → Type 0
  IsAnnounce number = IsCall (Some number) (Some number) (λ looker. events.Announce looker)

  abbrev pub IsOffline : Type 0
  IsOffline = (held : Option ℕ) → IsCall held None (λ looker. events.Offline looker)

-- a reclaim shows how many versions went
abbrev pub ShowsReclaimed : RegistryState → ℕ → Type 0
ShowsReclaimed r number = (w : World) → is_stopped w.phase ≡ false → IsReached w → IsRegistryOf r w →
    (step w events.Reclaim).outcome ≡ outcomes.Reclaimed number

-- a looker that joins is offline, and the registry stands for the same worlds
abbrev pub IsJoin : RegistryState → RegistryState → Place → Type 0
IsJoin r new place = (w : World) → IsRegistryOf r w → IsRegistryOf new w × Sits place None w

-- one that parts goes offline
abbrev pub IsPart : RegistryState → RegistryState → Place → Type 0
IsPart r new place = (held : Option ℕ) (w : World) → is_stopped w.phase ≡ false → IsRegistryOf r w → Sits place held w →
    IsRegistryOf new (step w (events.Offline place.index)).world × (looker_state (step w (events.Offline place.index)).world place.index ≡ offline)

-- Whatever a looker does, or a reclaim, a publisher and its registry stand for the world after it.
abbrev pub EveryLookersEvent : {S : Type 0} → Ghosts S → Type 0
EveryLookersEvent {S} g = (p : Standing (Held S)) (r : RegistryState) (w : World) (event : Event) → is_lookers event ≡ true →
    AreBothOf g p r w → AreBothOf g p (registry_after r w event) (step w event).world
