-- A run with the fates that fit what is left: two worlds that are alike except for what is on disk, as after a call that
-- failed with one fate or the other.
use Rattle.std.proofs.Common.{◌≡◌, ℕ, Bool, true, false, List, [], ◌∷◌, ◌++◌, None, map, refl, sym, ap, ◌∙◌, subst, cond, ◌⊎◌, inl, inr, ◌≤◌, length, arith}
use Rattle.std.specs.List.{AllByRecursion as Each}
use Rattle.prt_refusals.specs.declared.refusal.StoreCall.{StoreCall}
use Rattle.prt_command.specs.declared.request.Command.{Command}
use Rattle.prt_grace.specs.Registry.{RegistryState, new_registry}
use Rattle.prt_rule.specs.declared.packet.Packet.{Packet}
use Rattle.prt_version.specs.State.{State}
use Rattle.prt_replay.specs.World as world
use Rattle.prt_replay.specs.World.{Phase as Moment, LookerState, Step, World, looker_state, offline, online, run_from, step, Ack, Lookup, start}
use Rattle.prt_replay.specs.declared.event.Event.{Event}
use Rattle.prt_replay.specs.declared.event.Event.TheVariants as events
use Rattle.prt_replay.specs.declared.event.Fate.{Fate}
use Rattle.prt_laws.specs.Events.{AsksSome, events_before, fail_events, is_lookers, own, without_fate, asked, stop_events}
use Rattle.prt_laws.specs.Registries.{registry_after, registry_through}
use Rattle.prt_laws.proofs.Woven.{only_calls, heads, own_by, tails, by_own, own_asked}
use Rattle.prt_laws.proofs.Steps.{asked_closed, holds_of, run_more}
use Rattle.std.proofs.lemmas.List.{map-append}
use Rattle.sqlite.specs.Held.{Held, state}
use Rattle.sqlite.specs.Store.{Ghosts}
use Rattle.sqlite.specs.Tree.{Trees}
use Rattle.prt_refusals.specs.declared.refusal.Refusal.TheVariants.{StoreFailed}
use Rattle.prt_published.specs.Line.{line_state}
use Rattle.prt_store.specs.Exits.{IsKnown, IsStored, MayLeave, Spells}
use Rattle.prt_publisher.specs.Standing.{Agrees, Standing}
use Rattle.prt_publisher.specs.declared.phase.Phase.{Phase}
use Rattle.prt_publisher.specs.declared.phase.Phase.TheVariants.{Ready, Admitted, Prepared, Committed, Published, Closed}
use Rattle.prt_replay.specs.Durability.{IsAnswered}
use Rattle.prt_laws.specs.Laws.{BeginsAt, FailsBy, SubmitFailsBy}
use Rattle.prt_laws.specs.Publishers.{AreBothOf, HasDisk}
use Rattle.prt_laws.specs.Runs.{Act, Acts, ActsAll, EveryRunGoesOn, EveryRunLeaves, EveryStopLeaves, HoldsAll, SameButFates, act_answers, act_events, act_receipts, adopted, admitted, answers_of, beside, committed, declined, events_of, failed, looked, noted, planned, prepared, published, receipts_of, refused, seated, shown, stopped, submit_failed, submit_unpublished, submitted, unplanned, unshown}
use Rattle.prt_laws.proofs.Acks.{stopped_none, woven_keeps, list_had, holds_all}
use Rattle.prt_laws.proofs.Between.{moment_stays}
use Rattle.prt_laws.proofs.Exits.{place_in, some_committed}
use Rattle.prt_laws.proofs.Opening.{cut_left, left_is, stopped_at}
use Rattle.prt_laws.proofs.Runs.{acted, leaves_all, ran, run_gave}

-- ---- another disk

-- the world with this on disk, and this pending
abbrev pub with : World → State → State → World
with w disk pending = record w { disk = disk; pending = pending }

-- the same, in what a step leaves
abbrev pub step_with : Step → State → State → Step
step_with s disk pending = record { world = with s.world disk pending; outcome = s.outcome }

module _ (w : World) (d p : State) where
  online_with : (at : ℕ) (state : LookerState) → world.go_online (with w d p) at state ≡ step_with (world.go_online w at state) d p
  online_with at offline = refl
  online_with at (online announced held) = refl

  fetch_with : (at : ℕ) (state : LookerState) → world.fetch (with w d p) at state ≡ step_with (world.fetch w at state) d p
  fetch_with at offline = refl
  fetch_with at (online announced held) = refl

  announce_with : (at : ℕ) (state : LookerState) → world.announce (with w d p) at state ≡ step_with (world.announce w at state) d p
  announce_with at (online announced None) = refl
  announce_with at state = refl

  offline_with : (at : ℕ) (state : LookerState) → world.go_offline (with w d p) at state ≡ step_with (world.go_offline w at state) d p
  offline_with at offline = refl
  offline_with at (online announced held) = refl

  look_with : (packet : Packet) (state : LookerState) → world.look (with w d p) packet state ≡ step_with (world.look w packet state) d p
  look_with packet (online announced None) = refl
  look_with packet state = refl

  unless_with : (s t : Step) (b : Bool) → s ≡ step_with t d p → cond b (world.unmet (with w d p)) s ≡ step_with (cond b (world.unmet w) t) d p
  unless_with s t true is = refl
  unless_with s t false is = is

  -- a looker's event does the same there
  pub beside_with : (event : Event) → is_lookers event ≡ true → step (with w d p) event ≡ step_with (step w event) d p
  beside_with (events.Online at) is = unless_with (world.go_online (with w d p) at (looker_state w at)) (world.go_online w at (looker_state w at)) (world.is_stopped w.phase) (online_with at (looker_state w at))
  beside_with (events.Fetch at) is = unless_with (world.fetch (with w d p) at (looker_state w at)) (world.fetch w at (looker_state w at)) (world.is_stopped w.phase) (fetch_with at (looker_state w at))
  beside_with (events.Announce at) is = unless_with (world.announce (with w d p) at (looker_state w at)) (world.announce w at (looker_state w at)) (world.is_stopped w.phase) (announce_with at (looker_state w at))
  beside_with (events.Offline at) is = unless_with (world.go_offline (with w d p) at (looker_state w at)) (world.go_offline w at (looker_state w at)) (world.is_stopped w.phase) (offline_with at (looker_state w at))
  beside_with (events.Look at packet) is = unless_with (world.look (with w d p) packet (looker_state w at)) (world.look w packet (looker_state w at)) (world.is_stopped w.phase) (look_with packet (looker_state w at))
  beside_with events.Reclaim is = unless_with (world.reclaim (with w d p)) (world.reclaim w) (world.is_stopped w.phase) refl
  beside_with event is = absurd cc

  -- a closed world refuses there, too
  pub closed_with : (event : Event) → AsksSome event → w.phase ≡ world.Closed → step (with w d p) event ≡ step_with (step w event) d p
  closed_with event some is = asked_closed (with w d p) event some is ∙ sym (ap (λ (s : Step). step_with s d p) (asked_closed w event some is))

  -- and is nothing else to the registry
  pub registry_with : (r : RegistryState) (event : Event) → registry_after r (with w d p) event ≡ registry_after r w event
  registry_with r (events.Online at) = refl
  registry_with r event = refl

-- ---- another fate

abbrev pub refated : Fate → Event → Event
refated fate (events.Fail other) = events.Fail fate
refated fate event = event

pub same_without : (fate : Fate) (all : List Event) → map without_fate (map (refated fate) all) ≡ map without_fate all
same_without fate [] = refl
same_without fate (event ∷ all) = ap (λ e. e ∷ map without_fate (map (refated fate) all)) (one event) ∙ ap (λ es. without_fate event ∷ es) (same_without fate all)
  where
    one : (event : Event) → without_fate (refated fate event) ≡ without_fate event
    one (events.Fail other) = refl
    one event = refl

lookers_same : (fate : Fate) (event : Event) → is_lookers event ≡ true → refated fate event ≡ event
lookers_same fate (events.Fail other) is = absurd cc
lookers_same fate event is = refl

-- The same except for the disk, and to the registry the same.
abbrev pub Alike : RegistryState → World → World → List Event → List Event → Type 0
Alike r v w again all = (d : State) × (p : State) × (run_from v again ≡ with (run_from w all) d p) × (registry_through r v again ≡ registry_through r w all)

-- one event more, which leads to worlds that are alike
alike_after : (r : RegistryState) (v w : World) (first second : Event) (again all : List Event) (d p : State) → (step v first).world ≡ with (step w second).world d p → registry_after r v first ≡ registry_after r w second
    → Alike (registry_after r w second) (with (step w second).world d p) (step w second).world again all → Alike r v w (first ∷ again) (second ∷ all)
alike_after r v w first second again all d p is same rest = (
  rest.0,
  rest.1,
  ap (λ (u : World). run_from u again) is ∙ rest.2,
  ap (λ (q : RegistryState). registry_through q (step v first).world again) same ∙ ap (λ (u : World). registry_through (registry_after r w second) u again) is ∙ rest.3,
)

-- lookers' events alone
beside_all : (fate : Fate) (all : List Event) → own all ≡ [] → (r : RegistryState) (w : World) (d p : State) → Alike r (with w d p) w (map (refated fate) all) all
beside_all fate all e r w d p =
    by_own (λ all list. list ≡ [] → (r : RegistryState) (w : World) → Alike r (with w d p) w (map (refated fate) all) all) (λ e r w. (d, p, refl, refl))
    (λ event all is again e r w.
    let same = lookers_same fate event is in
    let there : step (with w d p) (refated fate event) ≡ step_with (step w event) d p = ap (step (with w d p)) same ∙ beside_with w d p event is in
    alike_after r (with w d p) w (refated fate event) event (map (refated fate) all) all d p (ap (λ (s : Step). s.world) there) (ap (registry_after r (with w d p)) same ∙ registry_with w d p r event)
    (again e (registry_after r w event) (step w event).world))
    (λ event all is again e r w. absurd cc)
    all e r w

-- a call that fails leaves the same except for the disk
fail_with : (w : World) (first second : Fate) (moment : Moment) → (d : State) × (p : State) × ((world.fail w first moment).world ≡ with (world.fail w second moment).world d p)
fail_with w first second (world.Prepared commands done next) = (world.stopped w first (world.Prepared commands done next), world.stopped w first (world.Prepared commands done next), refl)
fail_with w first second moment = (w.disk, w.pending, refl)

own_none : (fate : Fate) (all : List Event) → own all ≡ [] → own (map (refated fate) all) ≡ []
own_none fate all e =
    by_own (λ all list. list ≡ [] → own (map (refated fate) all) ≡ []) (λ e. refl)
    (λ event all is again e. own_by (refated fate event) (map (refated fate) all) true (ap is_lookers (lookers_same fate event is) ∙ is) ∙ again e)
    (λ event all is again e. absurd cc)
    all e

-- these are the publisher's own of the list with that fate, and it is alike from each world
abbrev pub Refates : Fate → List Event → List Event → Type 0
Refates fate all list = (r : RegistryState) (w : World) → (own (map (refated fate) all) ≡ list) × Alike r w w (map (refated fate) all) all

-- a looker's event before them
refates_beside : (fate : Fate) (event : Event) (all list : List Event) → is_lookers event ≡ true → Refates fate all list → Refates fate (event ∷ all) list
refates_beside fate event all list is again r w =
    let same = lookers_same fate event is in
    let v : World = (step w event).world in
    let there = again (registry_after r w event) v in (
      own_by (refated fate event) (map (refated fate) all) true (ap is_lookers same ∙ is) ∙ there.0,
      alike_after r w w (refated fate event) event (map (refated fate) all) all v.disk v.pending (ap (λ x. (step w x).world) same) (ap (registry_after r w) same) there.1,
    )

-- a call before them
refates_call : (fate : Fate) (event : Event) (all list : List Event) → events.Call ≡ event → Refates fate all list → Refates fate (event ∷ all) (events.Call ∷ list)
refates_call fate event all list at again = subst (λ (x : Event). Refates fate (x ∷ all) (events.Call ∷ list)) at (λ r w.
    let v : World = (step w events.Call).world in
    let there = again r v in (
      ap (λ xs. events.Call ∷ xs) there.0,
      alike_after r w w events.Call events.Call (map (refated fate) all) all v.disk v.pending refl refl there.1,
    ))

-- the call that fails, and lookers' events after it
refates_fail : (fate other : Fate) (event : Event) (all : List Event) → events.Fail other ≡ event → own all ≡ [] → Refates fate (event ∷ all) (events.Fail fate ∷ [])
refates_fail fate other event all at none = subst (λ (x : Event). Refates fate (x ∷ all) (events.Fail fate ∷ [])) at (λ r w.
    let there = fail_with w fate other w.phase in
    let rest = beside_all fate all none r (step w (events.Fail other)).world there.0 there.1 in (
      ap (λ xs. events.Fail fate ∷ xs) (own_none fate all none),
      alike_after r w w (events.Fail fate) (events.Fail other) (map (refated fate) all) all there.0 there.1 there.2 refl rest,
    ))

-- the own events of a list: calls, and the one that fails
abbrev pub RefatesCalls : Fate → Fate → List Event → Type 0
RefatesCalls fate other all = (calls : List Event) → Each (λ event. events.Call ≡ event) calls → own all ≡ calls ++ events.Fail other ∷ [] → Refates fate all (calls ++ events.Fail fate ∷ [])

refates_own : (fate other : Fate) (event : Event) (all calls : List Event) → Each (λ event. events.Call ≡ event) calls → event ∷ own all ≡ calls ++ events.Fail other ∷ [] → RefatesCalls fate other all → Refates fate (event ∷ all) (calls ++ events.Fail fate ∷ [])
refates_own fate other event all [] each e again = refates_fail fate other event all (heads event (events.Fail other) (own all) [] e) (tails event (events.Fail other) (own all) [] e)
refates_own fate other event all (first ∷ calls) each e again =
    let rest = calls ++ events.Fail other ∷ [] in
    let left = calls ++ events.Fail fate ∷ [] in
    let at : events.Call ≡ event = each.0 ∙ heads event first (own all) rest e in
    subst (λ (x : Event). Refates fate (event ∷ all) (x ∷ left)) each.0 (refates_call fate event all left at (again calls each.1 (tails event first (own all) rest e)))

none_fails : (calls : List Event) (fate : Fate) → [] ≡ calls ++ events.Fail fate ∷ [] → ⊥
none_fails [] fate e = cc
none_fails (first ∷ calls) fate e = cc

refates_calls : (fate other : Fate) (all : List Event) → RefatesCalls fate other all
refates_calls fate other all calls each e =
    by_own (λ all list. (calls : List Event) → Each (λ event. events.Call ≡ event) calls → list ≡ calls ++ events.Fail other ∷ [] → Refates fate all (calls ++ events.Fail fate ∷ [])) (λ calls each e. absurd (none_fails calls other e))
    (λ event all is again calls each e. refates_beside fate event all (calls ++ events.Fail fate ∷ []) is (again calls each e))
    (λ event all is again calls each e. refates_own fate other event all calls each e again)
    all calls each e

-- calls of which the last fails, whatever lookers do between them
pub refates : (fate other : Fate) (all : List Event) (commands : List Command) (call : StoreCall) → own all ≡ fail_events commands call other → Refates fate all (fail_events commands call fate)
refates fate other all commands call e = refates_calls fate other all (events_before commands call) (only_calls (λ event. events.Call ≡ event) refl commands call) e

none_left : (commands : List Command) → 1 ≤ length commands → commands ≡ [] → ⊥
none_left [] some is = omega (arith, some)
none_left (command ∷ commands) some is = cc

same_call : (a b : StoreCall) → StoreFailed a ≡ StoreFailed b → b ≡ a
same_call a b is = cc

-- ---- the same run except for fates

same_events : (again act : List Event) (rest more : List Event) → map without_fate again ≡ map without_fate act → map without_fate rest ≡ map without_fate more → map without_fate (again ++ rest) ≡ map without_fate (act ++ more)
same_events again act rest more first second =
    map-append without_fate again rest
    ∙ ap (λ xs. xs ++ map without_fate rest) first
    ∙ ap (λ xs. map without_fate act ++ xs) second
    ∙ sym (map-append without_fate act more)

same_more : (again act : Act) (rest acts : List Act) → map without_fate (act_events again) ≡ map without_fate (act_events act) → act_receipts again ≡ act_receipts act → act_answers again ≡ act_answers act → SameButFates rest acts → SameButFates (again ∷ rest) (act ∷ acts)
same_more again act rest acts first receipts answers same = record {
  events = same_events (act_events again) (act_events act) (events_of rest) (events_of acts) first same.events;
  receipts = ap (λ xs. xs ++ receipts_of rest) receipts ∙ ap (λ xs. act_receipts act ++ xs) same.receipts;
  answers = ap (λ xs. xs ++ answers_of rest) answers ∙ ap (λ xs. act_answers act ++ xs) same.answers;
}

module _ {S : Type 0} (g : Ghosts S) where
  -- with the fates that fit, the run leads to a world with this on disk
  abbrev Fits : Standing (Held S) → RegistryState → World → List Act → Standing (Held S) → RegistryState → State → Type 0
  Fits old r w acts new after left = (again : List Act) × SameButFates again acts × ActsAll g old r w again new after × ((run_from w (events_of again)).disk ≡ left)

  -- a commit has failed, and nothing was done since, whatever is on disk
  abbrev Idles : Standing (Held S) → RegistryState → World → List Act → Standing (Held S) → RegistryState → Type 0
  Idles old r w acts new after =
      (old.phase ≡ Closed) × (old.commands ≡ []) × (new ≡ old)
      × ((d p : State) → ActsAll g old r (with w d p) acts new after × (run_from (with w d p) (events_of acts) ≡ with (run_from w (events_of acts)) d p))

  -- an act that leaves the publisher as it is, whatever is on disk
  abbrev IsIdle : Standing (Held S) → RegistryState → World → Act → Standing (Held S) → RegistryState → Type 0
  IsIdle old r w act new after = (new ≡ old) × ((d p : State) → Acts g old r (with w d p) act new after × (run_from (with w d p) (act_events act) ≡ with (run_from w (act_events act)) d p))

  idles_more : (old mid new : Standing (Held S)) (r between after : RegistryState) (w : World) (act : Act) (acts : List Act) → IsIdle old r w act mid between → Idles mid between (run_from w (act_events act)) acts new after → Idles old r w (act ∷ acts) new after
  idles_more old mid new r between after w act acts here idle = (
    ap (λ (p : Standing (Held S)). p.phase) (sym here.0) ∙ idle.0,
    ap (λ (p : Standing (Held S)). p.commands) (sym here.0) ∙ idle.1,
    idle.2 ∙ here.0,
    λ d p.
        let x = here.1 d p in
        let y = idle.3 d p in (
          (mid, between, x.0, subst (λ (u : World). ActsAll g mid between u acts new after) (sym x.1) y.0),
          run_more (with w d p) (act_events act) (events_of acts)
              ∙ ap (λ (u : World). run_from u (events_of acts)) x.1
              ∙ y.1
              ∙ ap (λ (u : World). with u d p) (sym (run_more w (act_events act) (events_of acts))),
        ),
  )

  declined_with : (event : Event) → AsksSome event → (reclaims : Bool) (w : World) (d p : State) → w.phase ≡ world.Closed → (step w events.Reclaim).world.phase ≡ world.Closed → (why : _)
      → run_from (with w d p) (act_events (declined event why reclaims)) ≡ with (run_from w (act_events (declined event why reclaims))) d p
  declined_with event some true w d p here then why =
      ap (λ (s : Step). (step s.world event).world) (beside_with w d p events.Reclaim refl) ∙ ap (λ (s : Step). s.world) (closed_with (step w events.Reclaim).world d p event some then)
  declined_with event some false w d p here then why = ap (λ (s : Step). s.world) (closed_with w d p event some here)

  -- ---- the failing exit, with the fate that fits

  refailed : (old mid new : Standing (Held S)) (r between after : RegistryState) (w : World) (again act : Act) (acts : List Act) (left d p : State) → Acts g old r w again mid between → act_receipts again ≡ act_receipts act → act_answers again ≡ act_answers act
      → map without_fate (act_events again) ≡ map without_fate (act_events act) → run_from w (act_events again) ≡ with (run_from w (act_events act)) d p → (run_from w (act_events again)).disk ≡ left
      → Idles mid between (run_from w (act_events act)) acts new after → Fits old r w (act ∷ acts) new after left
  refailed old mid new r between after w again act acts left d p law receipts answers same is disk idle =
      let rest = idle.3 d p in (
        again ∷ acts,
        same_more again act acts acts same receipts answers (record { events = refl; receipts = refl; answers = refl }),
        (mid, between, law, subst (λ (u : World). ActsAll g mid between u acts new after) (sym is) rest.0),
        ap (λ (u : World). u.disk) (run_more w (act_events again) (events_of acts) ∙ ap (λ (u : World). run_from u (events_of acts)) is ∙ rest.1)
            ∙ ap (λ (u : World). u.disk) (sym is)
            ∙ disk,
      )

  -- ---- a run

  module _ (old mid new : Standing (Held S)) (r between after : RegistryState) (w : World) (h : AreBothOf g old r w) (acts : List Act) where
    -- the last act before the publisher idles, or one of those in which it does
    last : (act : Act) → Acts g old r w act mid between → Idles mid between (run_from w (act_events act)) acts new after → IsKnown g new.ours_first new.tables → (left : State) → MayLeave g new.tables left
        → Fits old r w (act ∷ acts) new after left ⊎ Idles old r w (act ∷ acts) new after
    last (beside event) t idle known left may = inr (idles_more old mid new r between after w (beside event) acts (
      t.1,
      λ d p. ((t.0, t.1, t.2 ∙ sym (registry_with w d p r event)), ap (λ (s : Step). s.world) (beside_with w d p event t.0)),
    ) idle)
    last (looked i packet answer) t idle known left may =
        let is = λ (d p : State). beside_with w d p (events.Look i packet) refl in
        inr (idles_more old mid new r between after w (looked i packet answer) acts (
          t.0,
          λ d p. ((t.0, t.1, ap (λ (s : Step). s.outcome) (is d p) ∙ t.2), ap (λ (s : Step). s.world) (is d p)),
        ) idle)
    last (seated i place) t idle known left may = inr (idles_more old mid new r between after w (seated i place) acts (t.2, λ d p. (t, refl)) idle)
    last admitted t idle known left may = absurd (let both : Admitted ≡ Closed = sym t.0 ∙ idle.0 in cc)
    last (declined event why reclaims) t idle known left may =
        let shut : old.phase ≡ Closed = ap (λ (p : Standing (Held S)). p.phase) (sym t.1.0) ∙ idle.0 in
        let place = place_in g old old w h.0 Closed shut in
        let then = moment_stays w events.Reclaim refl place.reached ∙ place.moment in
        inr (idles_more old mid new r between after w (declined event why reclaims) acts (t.1.0, λ d p. (t, declined_with event t.0 reclaims w d p place.moment then why)) idle)
    last (planned event) t idle known left may = absurd (let both : Prepared ≡ Closed = sym t.2.0 ∙ idle.0 in cc)
    last unplanned t idle known left may = absurd (let both : Ready ≡ Closed = sym t.1.1 ∙ idle.0 in cc)
    last (committed all) t idle known left may = absurd (let both : Committed ≡ Closed = sym t.2.0 ∙ idle.0 in cc)
    last (failed call fate other all) t idle known left may =
        let by = t.3.4 (subst (λ (p : Standing (Held S)). IsKnown g p.ours_first p.tables) idle.2 known) left (subst (λ (p : Standing (Held S)). MayLeave g p.tables left) idle.2 may) in
        let law : FailsBy g old mid call by.0 left = subst (λ (k : StoreCall). FailsBy g old mid k by.0 left) (same_call call t.3.2 t.3.3) by.1 in
        let again = map (refated by.0) all in
        let alike = refates by.0 fate all old.commands call t.0 r w in
        inl (refailed old mid new r between after w (failed call by.0 left again) (failed call fate other all) acts left alike.1.0 alike.1.1 (alike.0, t.1 ∙ sym alike.1.3, law, t.3) refl refl (same_without by.0 all) alike.1.2
        (law w h.0 again alike.0).2 idle)
    last shown t idle known left may = absurd (let both : Published ≡ Closed = sym t.1.0 ∙ idle.0 in cc)
    last unshown t idle known left may =
        let some = some_committed old.line w.disk old.commands w (place_in g old old w h.0 Committed t.1) in
        absurd (none_left old.commands some (ap (λ (p : Standing (Held S)). p.commands) (sym t.2.1) ∙ idle.1))
    last (noted commands told more) t idle known left may = absurd (let both : Ready ≡ Closed = sym t.5.0 ∙ idle.0 in cc)
    last (prepared event) t idle known left may = absurd (let both : Prepared ≡ Closed = sym t.3.0 ∙ idle.0 in cc)
    last (published commands told all) t idle known left may = absurd (let both : Ready ≡ Closed = sym t.4.0 ∙ idle.0 in cc)
    last (submitted event told more) t idle known left may = absurd (let both : Ready ≡ Closed = sym t.5.0 ∙ idle.0 in cc)
    last (refused event why) t idle known left may =
        let shut : old.phase ≡ Closed = ap (λ (p : Standing (Held S)). p.phase) (sym t.3.0) ∙ idle.0 in
        let place = place_in g old old w h.0 Closed shut in
        inr (idles_more old mid new r between after w (refused event why) acts (t.3.0, λ d p. (t, ap (λ (s : Step). s.world) (closed_with w d p event t.0 place.moment))) idle)
    last (submit_failed event call fate other more) t idle known left may =
        let by = t.5.4 (subst (λ (p : Standing (Held S)). IsKnown g p.ours_first p.tables) idle.2 known) left (subst (λ (p : Standing (Held S)). MayLeave g p.tables left) idle.2 may) in
        let law : SubmitFailsBy g old mid event call by.0 left = subst (λ (k : StoreCall). SubmitFailsBy g old mid event k by.0 left) (same_call call t.5.2 t.5.3) by.1 in
        let again = map (refated by.0) more in
        let alike = refates by.0 fate more (asked event) call t.1 (registry_after r w event) (step w event).world in
        let own_is = own_asked event again t.0 ∙ ap (λ xs. event ∷ xs) alike.0 in
        inl (refailed old mid new r between after w (submit_failed event call by.0 left again) (submit_failed event call fate other more) acts left alike.1.0 alike.1.1 (t.0, alike.0, t.2, t.3 ∙ sym alike.1.3, law, t.5) refl refl
        (ap (λ xs. without_fate event ∷ xs) (same_without by.0 more)) alike.1.2
        (law w h.0 t.2 (event ∷ again) own_is).2 idle)
    last (submit_unpublished event more) t idle known left may = absurd (none_left (asked event) t.0 (sym t.4.2 ∙ idle.1))
    last (adopted trees) t idle known left may = absurd (let both : Ready ≡ Closed = sym t.2.0 ∙ idle.0 in cc)
    last (stopped call fate all) t idle known left may = absurd (let both : Ready ≡ Closed = sym t.2.0 ∙ idle.0 in cc)

  -- a run fits what is left, or began where it idles
  fits : (acts : List Act) (old new : Standing (Held S)) (r after : RegistryState) (w : World) → AreBothOf g old r w → ActsAll g old r w acts new after → IsKnown g new.ours_first new.tables → (left : State) → MayLeave g new.tables left
      → Fits old r w acts new after left ⊎ Idles old r w acts new after
  fits [] old new r after w h t known left may = at_end old.phase old.commands refl refl (h.0.stored here)
    where
      here : IsKnown g old.ours_first old.tables
      here = subst (λ (p : Standing (Held S)). IsKnown g p.ours_first p.tables) t.0 known

      stored_there : IsStored g old.tables w.disk → Fits old r w [] new after left
      stored_there stored = ([], record { events = refl; receipts = refl; answers = refl }, t, sym (left_is g old w h.0 here left (subst (λ (p : Standing (Held S)). MayLeave g p.tables left) t.0 may) (λ _. stored)))

      at_end : (phase : Phase) (commands : List Command) → old.phase ≡ phase → old.commands ≡ commands → HasDisk g phase commands old.tables w.disk → Fits old r w [] new after left ⊎ Idles old r w [] new after
      at_end Closed [] at under stored = inr (at, under, t.0, λ d p. (t, refl))
      at_end phase commands at under stored = inl (stored_there stored)
  fits (act ∷ acts) old new r after w h t known left may =
      let first = acted g old t.0 r t.1 w act h.0 h.1 t.2 in
      elim (fits acts t.0 new t.1 after (run_from w (act_events act)) (first.0, first.1) t.3 known left may) [
        | inl f ↦ inl (
          act ∷ f.0,
          same_more act act f.0 acts refl refl refl f.1,
          (t.0, t.1, t.2, f.2),
          ap (λ (u : World). u.disk) (run_more w (act_events act) (events_of f.0)) ∙ f.3,
        )
        | inr idle ↦ last old t.0 new r t.1 after w h acts act t.2 idle known left may
      ]

  -- a run on a new file does not begin closed
  run_fits : (acts : List Act) (old new : Standing (Held S)) (after : RegistryState) → BeginsAt g old start → ActsAll g old (new_registry (line_state old.line)) start acts new after → IsKnown g new.ours_first new.tables → (left : State) → MayLeave g new.tables left
      → Fits old (new_registry (line_state old.line)) start acts new after left
  run_fits acts old new after h t known left may = elim (fits acts old new (new_registry (line_state old.line)) after start h t known left may) [
    | inl f ↦ f
    | inr idle ↦ absurd (let both : world.Ready ≡ world.Closed = (place_in g old old start h.0 Closed idle.0).moment in cc)
  ]

  -- whatever may be left encodes a state
  spells_by : (phase : Phase) (commands : List Command) (current : State) (tables : Held S) (trees : Trees) → (state g tables).may_leave trees → Agrees g phase commands current tables → (left : State) × Spells trees left
  spells_by Closed [] current tables trees may held = let found = held.durable trees may in (found.0, found.1)
  spells_by phase commands current tables trees may held = (_, held.durable trees may)

  pub run_leaves : EveryRunLeaves g
  run_leaves acts old new after h t stood known trees may =
      let spelled = spells_by new.phase new.commands (line_state new.line) new.tables trees may (stood known) in
      let left : State = spelled.0 in
      let may_leave : MayLeave g new.tables left = (trees, may, spelled.1) in
      let f = run_fits acts old new after h t known left may_leave in
      let held = leaves_all g f.0 old new after h f.2 known left may_leave (λ _ _. sym f.3) in (
        left,
        spelled.1,
        f.0,
        f.1,
        f.2,
        subst (λ (xs : List Lookup). HoldsAll (run_from start (events_of f.0)) (receipts_of acts) xs left) f.1.answers
            (subst (λ (xs : List Ack). HoldsAll (run_from start (events_of f.0)) xs (answers_of f.0) left) f.1.receipts held),
      )

  -- ---- the file is adopted

  acts_more : (xs ys : List Act) (old mid new : Standing (Held S)) (r between after : RegistryState) (w : World) → ActsAll g old r w xs mid between → ActsAll g mid between (run_from w (events_of xs)) ys new after → ActsAll g old r w (xs ++ ys) new after
  acts_more [] ys old mid new r between after w first rest =
      subst (λ (p : Standing (Held S)). ActsAll g p r w ys new after) first.0 (subst (λ (q : RegistryState). ActsAll g mid q w ys new after) first.1 rest)
  acts_more (x ∷ xs) ys old mid new r between after w first rest = (
    first.0,
    first.1,
    first.2,
    acts_more xs ys first.0 mid new first.1 between after (run_from w (act_events x)) first.3 (subst (λ (u : World). ActsAll g mid between u ys new after) (run_more w (act_events x) (events_of xs)) rest),
  )

  pub run_goes_on : EveryRunGoesOn g
  run_goes_on acts old new last after h t stood known trees may adopts =
      let r = new_registry (line_state old.line) in
      let next = new_registry (line_state last.line) in
      let spelled = spells_by new.phase new.commands (line_state new.line) new.tables trees may (stood known) in
      let f = run_fits acts old new after h t known spelled.0 (trees, may, spelled.1) in
      let v : World = run_from start (events_of f.0) in
      let on_disk : Spells trees v.disk = subst (Spells trees) (sym f.3) spelled.1 in (
        f.0,
        f.1,
        acts_more f.0 (adopted trees ∷ []) old new last r after next start f.2 (last, next, (refl, (known, may, λ _ _. on_disk), adopts), (refl, refl)),
      )

  -- ---- a stop within a store call

  pub stop_leaves : EveryStopLeaves g
  stop_leaves acts old mid after h t stood call now was known trees may =
      let r = new_registry (line_state old.line) in
      let reached = ran g acts old mid r after start h t in
      let cut = cut_left g mid call now stood was known trees may in
      let left : State = cut.0 in
      let at = stopped_at g mid was.prepared call left cut.2 in
      let u : World = run_from start (events_of acts) in (
        left,
        cut.1,
        at.0,
        λ all e.
            let there = at.1 u reached.0.0 all e in
            let v : World = run_from start (events_of acts ++ all) in
            let is : v ≡ run_from u all = run_more start (events_of acts) all in
            let kept : v.acks ≡ receipts_of acts = ap (λ (x : World). x.acks) is ∙ woven_keeps all (stop_events mid.commands call at.0) e (stopped_none mid.commands call at.0) u ∙ reached.1 in
            let given : Each (IsAnswered v) v.answers → Each (IsAnswered v) (answers_of acts) = λ xs. run_gave g (IsAnswered v) acts old mid r after start t (list_had (IsAnswered v) all u (subst (λ (x : World). Each (IsAnswered v) x.answers) is xs)) in
            holds_all v [] (receipts_of acts) (answers_of acts) left (holds_of v (events_of acts ++ all, refl)) (sym (ap (λ (x : World). x.disk) is ∙ there.1.disk)) kept given,
      )
