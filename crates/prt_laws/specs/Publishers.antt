-- Which worlds a publisher stands for.
use Rattle.std.specs.Prelude.{◌≡◌, true, List, []}
use Rattle.sqlite.specs.Held.{Held}
use Rattle.sqlite.specs.Store.{Ghosts}
use Rattle.prt_refusals.specs.declared.refusal.StoreCall.TheVariants as calls
use Rattle.prt_command.specs.declared.request.Command.{Command}
use Rattle.prt_store.specs.Exits.{IsKnown, IsStored, MayLeave}
use Rattle.prt_publisher.specs.Standing.{Standing}
use Rattle.prt_publisher.specs.declared.phase.Phase.{Phase}
use Rattle.prt_publisher.specs.declared.phase.Phase.TheVariants.{Ready, Admitted, Prepared, Committed, Published, Closed}
use Rattle.prt_version.specs.State.{State}
use Rattle.prt_replay.specs.World as world
use Rattle.prt_replay.specs.World.{Phase as Moment, World, has_room, run_from}
use Rattle.prt_replay.specs.declared.event.Event.{Event}
use Rattle.prt_replay.specs.declared.outcome.Outcome.{Outcome}
use Rattle.prt_laws.specs.Registries.{IsRegistryOf}
use Rattle.prt_grace.specs.Registry.{RegistryState}
use Rattle.prt_laws.specs.Spots.{IsAt}
use Rattle.prt_laws.specs.Events.{own, own_outcomes}

-- how far the world is with the publisher's commands
abbrev pub moment_of : Phase → List Command → Moment
moment_of Ready commands = world.Ready
moment_of Admitted commands = world.Ready
moment_of Prepared commands = world.Prepared commands 0 calls.Begin
moment_of Committed commands = world.Committed commands
moment_of Published commands = world.Published commands
moment_of Closed commands = world.Closed

-- the world's disk is what is stored; after a failed commit it is a state that a crash may leave
abbrev pub HasDisk : {S : Type 0} → Ghosts S → Phase → List Command → Held S → State → Type 0
HasDisk g Closed [] tables disk = MayLeave g tables disk
HasDisk g phase commands tables disk = IsStored g tables disk

-- an admitted command has room for one more retired version
abbrev pub SawRoom : Phase → World → Type 0
SawRoom Admitted w = has_room w ≡ true
SawRoom phase w = Unit {0}

pub record IsPublisherOf {S : Type 0} (g : Ghosts S) (p : Standing (Held S)) (w : World) : Type 0 where
  pub place : IsAt (record { line = p.line; disk = w.disk; moment = moment_of p.phase p.commands }) w
  pub stored : IsKnown g p.ours_first p.tables → HasDisk g p.phase p.commands p.tables w.disk
  pub room : SawRoom p.phase w

-- Whatever lookers do between these events: they show this, and lead to a world that the publisher stands for.
abbrev pub Leads : {S : Type 0} → Ghosts S → World → List Event → List Outcome → Standing (Held S) → Type 0
Leads g w written shown new = (all : List Event) → own all ≡ written → (own_outcomes w all ≡ shown) × IsPublisherOf g new (run_from w all)

-- And that world's disk is this state.
abbrev pub LeadsTo : {S : Type 0} → Ghosts S → World → List Event → List Outcome → Standing (Held S) → State → Type 0
LeadsTo g w written shown new left = (all : List Event) → own all ≡ written →
    (own_outcomes w all ≡ shown) × IsPublisherOf g new (run_from w all) × ((run_from w all).disk ≡ left)

-- a world that the publisher stands for, and the registry that a lock shows
abbrev pub AreBothOf : {S : Type 0} → Ghosts S → Standing (Held S) → RegistryState → World → Type 0
AreBothOf g p r w = IsPublisherOf g p w × IsRegistryOf r w
