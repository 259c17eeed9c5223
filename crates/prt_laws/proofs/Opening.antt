-- A database that is opened, first or again.
use Rattle.std.proofs.Common.{◌≡◌, ◌⊎◌, inl, inr, ℕ, ◌+◌, false, List, [], ◌∷◌, length, refl, sym, ap, ◌∙◌, subst, cond, arith}
use Rattle.sqlite.specs.Held.{Held, state}
use Rattle.sqlite.specs.State.{HasCleanDisk}
use Rattle.sqlite.specs.Store.{Ghosts}
use Rattle.prt_refusals.specs.declared.refusal.StoreCall.{StoreCall}
use Rattle.prt_refusals.specs.declared.refusal.StoreCall.TheVariants as calls
use Rattle.prt_command.specs.declared.request.Command.{Command}
use Rattle.prt_published.specs.Line.{Line, line_state}
use Rattle.prt_store.proofs.Accepted.{are_made, are_next}
use Rattle.prt_store.specs.Exits.{IsKnown, IsStored, MayLeave, Spells}
use Rattle.prt_publisher.specs.Standing.{Agrees, Standing, Stands}
use Rattle.prt_publisher.specs.declared.phase.Phase.{Phase}
use Rattle.prt_publisher.specs.declared.phase.Phase.TheVariants.{Ready, Prepared}
use Rattle.prt_store.proofs.Spelled.{spelled_once, stored_once}
use Rattle.prt_rows.specs.Effects.{AreEmpty}
use Rattle.prt_store.specs.Adopted.{Adopts}
use Rattle.prt_store.specs.Stored.{Stores}
use Rattle.std.specs.Prelude.{take}
use Rattle.std.proofs.lemmas.List.{take-take}
use Rattle.prt_replay.specs.Durability.{state_after}
use Rattle.prt_replay.proofs.Phases.{Holds, version_kept}
use Rattle.prt_laws.proofs.Steps.{holds_of, told_opened, Moves, moved, pending}
use Rattle.prt_version.specs.Accepted.{changes_of}
use Rattle.prt_version.specs.Change.{fold}
use Rattle.prt_version.specs.State.{State, opening_state}
use Rattle.prt_replay.specs.World as world
use Rattle.prt_replay.specs.World.{Phase as Moment, Step, World, published_version, run_from, outcomes_from, start, step}
use Rattle.prt_replay.specs.declared.event.Event.{Event}
use Rattle.prt_replay.specs.declared.event.Event.TheVariants as events
use Rattle.prt_replay.specs.declared.event.Fate.TheVariants.{Kept, Lost}
use Rattle.prt_replay.specs.declared.outcome.Outcome.TheVariants as outcomes
use Rattle.prt_replay.proofs.KeptVersions.{kept_alone}
use Rattle.prt_laws.specs.Laws.{AdoptsStopped, BeginsAt, IsCutShort, OpensAgain}
use Rattle.prt_laws.specs.Registries.{IsRegistryOf}
use Rattle.prt_laws.proofs.Registering.{registers_opened, registers_started}
use Rattle.prt_store.proofs.Exits.{next_spelled}
use Rattle.prt_store.proofs.Several.{makes_all_next}
use Rattle.prt_store.specs.Next.{AreNext, put_all}
use Rattle.prt_store.proofs.Stops.{left_by}
use Rattle.prt_grace.specs.Registry.{new_registry}
use Rattle.prt_store.proofs.Adoptions.{opening_stored}
use Rattle.prt_replay.specs.declared.event.Fate.{Fate}
use Rattle.sqlite.specs.Tree.{Trees}
use Rattle.prt_laws.specs.Spots.{IsAt}
use Rattle.prt_laws.specs.Events.{own, own_outcomes, stop_events, stop_outcomes}
use Rattle.prt_laws.specs.Publishers.{HasDisk, SawRoom, IsPublisherOf, moment_of}
use Rattle.prt_laws.proofs.Exits.{ends_at, spot, stands, then_goes, written_at}

-- ---- one event

-- everything stops between store calls: the disk stays
pub stops : (line : Line) (disk : State) (moment : Moment) (w : World) → world.is_stopped moment ≡ false → IsAt (spot line disk moment) w → Moves w (events.Stop Lost) outcomes.Stopped (spot line disk world.Stopped)
stops line disk moment w going h =
    let is : step w (events.Stop Lost) ≡ world.stop w Lost =
    ap (λ m. cond (world.is_stopped m) (world.unmet w) (world.stop w Lost)) h.moment ∙ ap (λ b. cond b (world.unmet w) (world.stop w Lost)) going in
    moved w (events.Stop Lost) (world.stop w Lost) (spot line disk world.Stopped) h.reached is refl h.disk h.shown h.told tt

pub reopens : (line opened : Line) (disk : State) (w : World) → line_state opened ≡ disk → opened.list ≡ [] → IsAt (spot line disk world.Stopped) w → Moves w events.Reopen (outcomes.Reopened (line_state opened).count) (spot opened disk world.Ready)
reopens line opened disk w loaded none h =
    let found : line_state opened ≡ w.disk = loaded ∙ sym h.disk in
    let shown : published_version (world.reopened w) ≡ line_state opened = version_kept (world.reopened w) w.disk.count w.disk (kept_alone w.disk) ∙ sym found in
    let base : opened.base ≡ w.disk = ap (fold opened.base) (sym none) ∙ found in
    let holds : Holds w = holds_of w h.reached in
    let prefix : w.disk ≡ state_after (take w.disk.count w.accepted) w.disk.count = holds.counts.prefix ∙ ap (fold opening_state) (sym (take-take w.disk.count w.disk.count w.accepted (omega arith))) in
    subst (λ n. Moves w events.Reopen (outcomes.Reopened n) (spot opened disk world.Ready)) (ap (λ (s : State). s.count) (sym found))
    (moved w events.Reopen (world.reopen w world.Stopped) (spot opened disk world.Ready) h.reached (ap (world.reopen w) h.moment) refl h.disk shown (told_opened opened (take w.disk.count w.accepted) w.disk base none prefix) tt)

-- ---- publishers

pub open_moment : (phase : Phase) (commands : List Command) → world.is_stopped (moment_of phase commands) ≡ false
open_moment Ready commands = refl
open_moment phase commands = refl

module _ {S : Type 0} (g : Ghosts S) where
  -- a publisher that was opened stores what it publishes
  ready_stored : (new : Standing (Held S)) → new.phase ≡ Ready → Stands g new → IsKnown g new.ours_first new.tables → HasDisk g new.phase new.commands new.tables (line_state new.line)
  ready_stored new ready kept known =
      let held : IsStored g new.tables (line_state new.line) = subst (λ (p : Phase). Agrees g p new.commands (line_state new.line) new.tables) ready (kept known) in
      subst (λ (p : Phase). HasDisk g p new.commands new.tables (line_state new.line)) (sym ready) held

  -- a publisher over a new database stands for the world's start
  pub started : (new : Standing (Held S)) → (new.phase ≡ Ready) × (new.line.list ≡ []) → Stands g new → line_state new.line ≡ opening_state → BeginsAt g new start
  started new first kept fresh =
      let ready : new.phase ≡ Ready = first.0 in
      let none : new.line.list ≡ [] = first.1 in
      let place : IsAt (spot new.line opening_state world.Ready) start = record { reached = ([], refl); moment = refl; disk = refl; shown = sym fresh; told = told_opened new.line [] opening_state (ap (fold new.line.base) (sym none) ∙ fresh) none refl; room = tt } in (
        stands g new start opening_state (subst (λ (p : Phase). IsAt (spot new.line opening_state (moment_of p new.commands)) start) (sym ready) place)
            (λ known. subst (λ (s : State). HasDisk g new.phase new.commands new.tables s) fresh (ready_stored new ready kept known)) (subst (λ (p : Phase). SawRoom p start) (sym ready) tt),
        subst (λ (s : State). IsRegistryOf (new_registry s) start) (sym fresh) registers_started,
      )

  -- three tables without rows, or none, are a new database
  pub fresh_is : (was made : Held S) (opened : State) → AreEmpty (state g was).now → Adopts (state g was).now (state g made).now → Stores (state g made).now opened → opened ≡ opening_state
  fresh_is was made opened empty adopts stores =
      stored_once (state g made).now.schema (state g made).now.schema (state g made).now.trees opened opening_state stores (opening_stored (state g was).now (state g made).now adopts empty)

  -- what a crash leaves is the world's disk, unless a commit failed
  pub left_is : (old : Standing (Held S)) (w : World) → IsPublisherOf g old w → IsKnown g old.ours_first old.tables → (left : State) → MayLeave g old.tables left → (HasDisk g old.phase old.commands old.tables w.disk → IsStored g old.tables w.disk) → left ≡ w.disk
  left_is old w s known left may stored = spelled_once may.0 left w.disk may.2 ((stored (s.stored known)).durable may.0 may.1)

  -- opened again in a world that is stopped
  pub opened_after : (line : Line) (left : State) (new : Standing (Held S)) (v : World) → IsAt (spot line left world.Stopped) v → (new.phase ≡ Ready) × (new.line.list ≡ []) → Stands g new → line_state new.line ≡ left
      → ((step v events.Reopen).outcome ≡ outcomes.Reopened (line_state new.line).count) × BeginsAt g new (step v events.Reopen).world
  opened_after line left new v h first kept found =
      let ready : new.phase ≡ Ready = first.0 in
      let m = reopens line new.line left v found first.1 h in
      let is : step v events.Reopen ≡ world.reopen v world.Stopped = ap (world.reopen v) h.moment in (
        m.0,
        (
          stands g new (step v events.Reopen).world left (subst (λ (p : Phase). IsAt (spot new.line left (moment_of p new.commands)) (step v events.Reopen).world) (sym ready) m.1)
              (λ known. subst (λ (s : State). HasDisk g new.phase new.commands new.tables s) found (ready_stored new ready kept known)) (subst (λ (p : Phase). SawRoom p (step v events.Reopen).world) (sym ready) tt),
          subst (λ (t : Step). IsRegistryOf (new_registry (line_state new.line)) t.world) (sym is) (registers_opened v (line_state new.line) (found ∙ sym h.disk)),
        ),
      )

  -- stopped between calls, and opened again
  pub opened_again : (old new : Standing (Held S)) (w : World) → IsPublisherOf g old w → (new.phase ≡ Ready) × (new.line.list ≡ []) → Stands g new → line_state new.line ≡ w.disk
      → OpensAgain g w new
  opened_again old new w s first kept found =
      let a = stops old.line w.disk (moment_of old.phase old.commands) w (open_moment old.phase old.commands) s.place in
      let v : World = (step w (events.Stop Lost)).world in
      let b = opened_after old.line w.disk new v a.1 first kept found in (
        ap (λ o. o ∷ outcomes_from v (events.Reopen ∷ [])) a.0 ∙ ap (λ o. outcomes.Stopped ∷ o ∷ []) b.0,
        b.1,
      )

-- ---- stopped within a store call

pub stops_kept : (line : Line) (disk : State) (commands : List Command) (done : ℕ) (w : World) → IsAt (spot line disk (world.Prepared commands done calls.Commit)) w
    → Moves w (events.Stop Kept) outcomes.Stopped (spot line (fold (line_state line) commands) world.Stopped)
stops_kept line disk commands done w h =
    let there : Step = record { world = world.with_disk w (world.stopped w Kept (world.Prepared commands done calls.Commit)) world.Stopped; outcome = outcomes.Stopped } in
    let is : step w (events.Stop Kept) ≡ there =
    ap (λ m. cond (world.is_stopped m) (world.unmet w) (record { world = world.with_disk w (world.stopped w Kept m) world.Stopped; outcome = outcomes.Stopped })) h.moment in
    moved w (events.Stop Kept) there (spot line (fold (line_state line) commands) world.Stopped) h.reached is refl (pending line disk w commands done h) h.shown h.told tt

module _ {S : Type 0} (g : Ghosts S) where
  -- Stopped within a store call of a commit: what is left is the published state or, within the commit call alone, the one after the commands. It is on disk in a world that is stopped there.
  pub stopped_at : (old : Standing (Held S)) → old.phase ≡ Prepared → (call : StoreCall) (left : State) → (left ≡ line_state old.line) ⊎ ((call ≡ calls.Commit) × (left ≡ fold (line_state old.line) old.commands))
      → (fate : Fate) × ((w : World) → IsPublisherOf g old w → (all : List Event) → own all ≡ stop_events old.commands call fate → (own_outcomes w all ≡ stop_outcomes old.commands call) × IsAt (spot old.line left world.Stopped) (run_from w all))
  stopped_at old phase call left may =
      ends_at g old phase (λ fate. events.Stop fate) (λ _. outcomes.Stopped) world.Stopped
      (λ line disk some k. then_goes line disk old.commands some k (events.Stop Lost) outcomes.Stopped (spot line disk world.Stopped) (λ w h. stops line disk (world.Prepared old.commands (written_at line disk old.commands k) k) w refl h))
      (λ line disk some. then_goes line disk old.commands some calls.Commit (events.Stop Kept) outcomes.Stopped (spot line (fold (line_state line) old.commands) world.Stopped) (λ w h. stops_kept line disk old.commands (length old.commands) w h))
      call left may

  -- Whatever file is left of a commit that was stopped there encodes the published state or, within the commit call alone,
  -- the one after the commands.
  pub cut_left : (old : Standing (Held S)) (call : StoreCall) (now : Held S) → Stands g old → IsCutShort g old call now → IsKnown g old.ours_first now → (trees : Trees) → (state g now).may_leave trees
      → (left : State) × Spells trees left × ((left ≡ line_state old.line) ⊎ ((call ≡ calls.Commit) × (left ≡ fold (line_state old.line) old.commands)))
  cut_left old call now stood was known trees may =
      let published : State = line_state old.line in
      let commands = old.commands in
      let changes = changes_of published commands in
      let next : State = put_all published changes in
      let number = published.count + length commands in
      let made = are_made published commands was.storable was.accepted in
      let survives = left_by g changes number old.tables now call was.stops in
      let before : HasCleanDisk (state g old.tables) = omega (arith, survives.clean, known.1) in
      let stored : IsStored g old.tables published = subst (λ (p : Phase). Agrees g p commands published old.tables) was.prepared (stood (known.0, before)) in
      let follows : AreNext published changes number = are_next published commands number stored.now.fits.sound was.storable was.accepted refl in
      elim (survives.crash known.1 trees may) [
        | inl found ↦ (published, stored.durable trees found, inl refl)
        | inr it ↦
            let done = it.2 in
            let all = makes_all_next g changes number old.tables done.0 published follows it.1 stored.now done.1 in
            let spells : Spells trees next = subst (λ (t : Trees). Spells t next) (sym done.2) (next_spelled (state g old.tables).now next done.0.schema done.0.trees all) in
            (next, spells, inr (it.0, made.1))
      ]

  -- and it is opened again
  pub stopped_there : (new : Standing (Held S)) (trees : Trees) → (new.phase ≡ Ready) × (new.line.list ≡ []) → Stands g new → ((stored : State) → Spells trees stored → line_state new.line ≡ stored) → AdoptsStopped g trees new
  stopped_there new trees opened kept found old call now stood was known may =
      let cut = cut_left old call now stood was known trees may in
      let left : State = cut.0 in
      let at = stopped_at old was.prepared call left cut.2 in (
        at.0,
        (
          opened.0,
          λ w s all e.
              let there = at.1 w s all e in
              let o = opened_after g old.line left new (run_from w all) there.1 opened kept (found left cut.1) in
              (there.0, o.0, o.1),
        ),
      )
