-- A run of a publisher's calls leads to a world that it stands for, which has acknowledged each receipt.
use Rattle.std.proofs.Common.{◌≡◌, ℕ, true, false, List, [], ◌∷◌, ◌++◌, refl, sym, ap, ◌∙◌, subst}
use Rattle.std.specs.List.{AllByRecursion as Each}
use Rattle.prt_addr.proofs.Each.{each_append}
use Rattle.std.proofs.lemmas.List.{append-nil, append_assoc}
use Rattle.sqlite.specs.Held.{Held, state}
use Rattle.sqlite.specs.Store.{Ghosts}
use Rattle.prt_command.specs.declared.request.Command.{Command}
use Rattle.prt_store.specs.Exits.{IsKnown, IsStored, MayLeave, Spells}
use Rattle.prt_publisher.specs.Standing.{Standing}
use Rattle.prt_publisher.specs.declared.phase.Phase.{Phase}
use Rattle.prt_publisher.specs.declared.phase.Phase.TheVariants.{Ready, Committed, Published, Closed}
use Rattle.prt_version.specs.State.{State}
use Rattle.prt_replay.specs.Durability.{IsAnswered}
use Rattle.prt_replay.specs.declared.outcome.Outcome.TheVariants as outcomes
use Rattle.prt_replay.specs.World as world
use Rattle.prt_replay.specs.World.{Ack, Lookup, World, looker_state, run_from, start, step}
use Rattle.prt_replay.specs.declared.event.Event.{Event}
use Rattle.prt_replay.specs.declared.event.Event.TheVariants as events
use Rattle.prt_replay.specs.declared.event.Fate.TheVariants.{Lost}
use Rattle.prt_published.specs.Line.{grown_by, line_state}
use Rattle.prt_grace.specs.Registry.{RegistryState, new_registry}
use Rattle.prt_grace.specs.declared.place.PlaceState.TheVariants.{Free}
use Rattle.sqlite.specs.Tree.{Trees}
use Rattle.prt_laws.specs.Laws.{BeginsAt}
use Rattle.prt_laws.specs.Registries.{IsRegistryOf, registry_through}
use Rattle.prt_laws.proofs.Exits.{asks_registers, note_goes, place_in, spot}
use Rattle.prt_laws.proofs.Registering.{joins, registers_beside}
use Rattle.prt_laws.specs.Events.{acks_to, asked, commit_events, fail_events, note_events, note_outcomes, own, publish_events, publish_outcomes, stop_events, submit_events, submit_outcomes, unpublished_events, is_going}
use Rattle.prt_laws.specs.Runs.{EveryRunStands, HoldsAll, ActsAll, Act, Acts, adopted, admitted, answers_of, beside, committed, declined, events_of, failed, looked, noted, planned, prepared, published, receipts_of, refused, seated, shown, stopped, submit_failed, submit_unpublished, submitted, act_answers, act_events, act_receipts, unplanned, unshown}
use Rattle.prt_laws.specs.Publishers.{HasDisk, AreBothOf, IsPublisherOf}
use Rattle.prt_laws.proofs.Acks.{asks_none, committed_none, event_keeps, failed_none, list_keeps, lookers_none, stopped_none, woven_acks, woven_keeps, list_had, unless_shows, holds_all, is_ack}
use Rattle.prt_laws.proofs.Desks.{accepted_there, published_there}
use Rattle.prt_laws.proofs.Through.{all_go_on, asks_go_on, committed_go_on, failed_go_on, registers_event, through}
use Rattle.prt_laws.proofs.Joined.{stands_beside}
use Rattle.prt_laws.proofs.Opening.{left_is, open_moment}
use Rattle.prt_laws.proofs.Steps.{holds_of, notes, run_more}
use Rattle.prt_laws.proofs.Woven.{own_asked, woven}

-- ---- runs

module _ {S : Type 0} (g : Ghosts S) where
  abbrev Reaches : Standing (Held S) → RegistryState → World → List Event → List Ack → Type 0
  Reaches new after w list told = IsPublisherOf g new (run_from w list) × IsRegistryOf after (run_from w list) × ((run_from w list).acks ≡ w.acks ++ told)

  kept : {r after : RegistryState} {v : World} → after ≡ r → IsRegistryOf r v → IsRegistryOf after v
  kept {r} {after} {v} is h = subst (λ (q : RegistryState). IsRegistryOf q v) (sym is) h

  runs : (old : Standing (Held S)) (w : World) → IsPublisherOf g old w → world.is_stopped w.phase ≡ false
  runs old w s = ap world.is_stopped s.place.moment ∙ open_moment old.phase old.commands

  -- events of which none acknowledges anything
  silent : (old new : Standing (Held S)) (r after : RegistryState) (w : World) → IsPublisherOf g old w → IsRegistryOf r w → (all list : List Event) → own all ≡ list → Each (λ event. is_going event ≡ true) list → Each (λ event. is_ack event ≡ false) list
      → IsPublisherOf g new (run_from w all) → after ≡ registry_through r w all → Reaches new after w all []
  silent old new r after w s h all list e going none there is =
      (there, kept is (through all (all_go_on all list e going) r w (runs old w s) s.place.reached h), woven_keeps all list e none w ∙ sym (append-nil w.acks))

  pub acted : (old new : Standing (Held S)) (r after : RegistryState) (w : World) (act : Act) → IsPublisherOf g old w → IsRegistryOf r w → Acts g old r w act new after → Reaches new after w (act_events act) (act_receipts act)
  acted old new r after w (beside event) s h t =
      (subst (λ (p : Standing (Held S)). IsPublisherOf g p (step w event).world) (sym t.1) (stands_beside g old w event t.0 s), kept t.2 (registers_beside r w event t.0 (runs old w s) s.place.reached h), list_keeps (event ∷ []) (lookers_none event t.0, tt) w)
  acted old new r after w (looked i packet answer) s h t =
      let event = events.Look i packet in
      (subst (λ (p : Standing (Held S)). IsPublisherOf g p (step w event).world) (sym t.0) (stands_beside g old w event refl s), kept t.1 (registers_event r w s.place.reached h event refl (runs old w s)), list_keeps (event ∷ []) (refl, tt) w)
  acted old new r after w (seated i place) s h t = (subst (λ (p : Standing (Held S)). IsPublisherOf g p w) (sym t.2) s, kept t.3 (joins r w h i place Free (t.1 ∙ sym t.0)), sym (append-nil w.acks))
  acted old new r after w admitted s h t = ((t.1 w (s, h)).0, (t.1 w (s, h)).1, list_keeps (events.Reclaim ∷ []) (refl, tt) w)
  acted old new r after w (declined event why true) s h t =
      let there = t.1.1 w (s, h) in
      (there.1.0, there.1.1, list_keeps (events.Reclaim ∷ event ∷ []) (refl, (asks_none event t.0, tt)) w)
  acted old new r after w (declined event why false) s h t =
      let there = t.1.1 w (s, h) in
      (there.1.0, there.1.1, list_keeps (event ∷ []) (asks_none event t.0, tt) w)
  acted old new r after w (planned event) s h t = ((t.2.1 w s (event ∷ []) (own_asked event [] t.0)).1, kept t.1 (asks_registers event t.0 r w h), list_keeps (event ∷ []) (asks_none event t.0, tt) w)
  acted old new r after w unplanned s h t = ((t.1.2 w s [] refl).1, kept t.0 h, sym (append-nil w.acks))
  acted old new r after w (committed all) s h t =
      let e : own all ≡ commit_events old.commands ++ [] = t.0 ∙ sym (append-nil (commit_events old.commands)) in
      silent old new r after w s h all (commit_events old.commands ++ []) e (committed_go_on old.commands [] tt) (committed_none old.commands [] tt) (t.2.1 w s all t.0).1 t.1
  acted old new r after w (failed call fate left all) s h t = silent old new r after w s h all (fail_events old.commands call fate) t.0 (failed_go_on old.commands call fate) (failed_none old.commands call fate) (t.2 w s all t.0).1 t.1
  acted old new r after w shown s h t = ((t.1.1 w s (events.Publish ∷ []) refl).1, kept t.0 (registers_event r w s.place.reached h events.Publish refl (runs old w s)), list_keeps (events.Publish ∷ []) (refl, tt) w)
  acted old new r after w unshown s h t = ((t.2.2 w s (events.PublishFail ∷ []) refl).1, kept t.0 (registers_event r w s.place.reached h events.PublishFail refl (runs old w s)), list_keeps (events.PublishFail ∷ []) (refl, tt) w)
  acted old new r after w (noted commands told more) s h t =
      let list = events.Note ∷ more in
      let own_is : own list ≡ note_events = ap (λ xs. events.Note ∷ xs) t.2 in
      let v : World = (step w events.Note).world in
      let place = place_in g old old w s Published t.0 in
      let e = t.5.1 w s in
      let law = e.1 list own_is in
      let there = woven list note_events (note_outcomes old.line) (spot old.line w.disk (world.Published old.commands)) (spot old.line w.disk world.Ready) w own_is (note_goes old.line w.disk old.commands) place in
      let number : (line_state old.line).count ≡ (line_state told).count = one_number (line_state old.line).count (line_state told).count (sym there.0 ∙ law.0) in (
        law.1,
        kept (t.4 ∙ ap (λ q. registry_through q v more) e.0) (through list (refl, all_go_on more (events.Ack ∷ []) t.2 (refl, tt)) r w (runs old w s) s.place.reached h),
        woven_acks old.line w.disk old.commands more v t.2 (notes old.line w.disk w old.commands place).1
            ∙ ap (λ acks. acks ++ acks_to (line_state old.line).count old.commands) (event_keeps w events.Note refl)
            ∙ ap (λ n. w.acks ++ acks_to n old.commands) number
            ∙ ap (λ xs. w.acks ++ acks_to (line_state told).count xs) t.1,
      )
    where
      one_number : (a b : ℕ) → outcomes.Noted a ∷ outcomes.Acknowledged a ∷ [] ≡ outcomes.Noted b ∷ outcomes.Acknowledged b ∷ [] → a ≡ b
      one_number a b is = cc
  acted old new r after w (prepared event) s h t = ((t.3.1 w s t.1 (event ∷ []) (own_asked event [] t.0)).1, kept t.2 (asks_registers event t.0 r w h), list_keeps (event ∷ []) (asks_none event t.0, tt) w)
  acted old new r after w (published commands told all) s h t =
      let place = place_in g old old w s Committed t.1 in
      let law = t.4.1 w s all t.0 in
      let there = published_there old.line w.disk w old.commands place all t.0 in
      let line = grown_by old.line old.commands in
      let number : (line_state line).count ≡ (line_state told).count = same_publish (line_state line).count (line_state told).count (sym there.0 ∙ law.0) in (
        law.1,
        kept t.3 (through all (all_go_on all publish_events t.0 (refl, (refl, (refl, tt)))) r w (runs old w s) s.place.reached h),
        there.1 ∙ ap (λ n. w.acks ++ acks_to n old.commands) number ∙ ap (λ xs. w.acks ++ acks_to (line_state told).count xs) t.2,
      )
    where
      same_publish : (a b : ℕ) → publish_outcomes a ≡ publish_outcomes b → a ≡ b
      same_publish a b is = cc
  acted old new r after w (submitted event told more) s h t =
      let some = t.0 in
      let list = event ∷ more in
      let commands = asked event in
      let own_is : own list ≡ submit_events event = own_asked event more some ∙ ap (λ xs. event ∷ xs) t.1 in
      let law = t.5.1 w s t.2 list own_is in
      let place = place_in g old old w s Ready t.4.0 in
      let took = accepted_there old.line w.disk w event some place t.4.1 t.2 more t.1 in
      let number : (line_state told).count ≡ (line_state (grown_by old.line commands)).count = same_submit commands (line_state told).count (line_state (grown_by old.line commands)).count (sym law.0 ∙ took.0) in (
        law.1,
        kept t.3 (through list (asks_go_on event some, all_go_on more (commit_events commands ++ publish_events) t.1 (committed_go_on commands publish_events (refl, (refl, (refl, tt))))) r w (runs old w s) s.place.reached h),
        took.2 ∙ ap (λ n. w.acks ++ acks_to n commands) (sym number),
      )
    where
      same_submit : (commands : List Command) (a b : ℕ) → submit_outcomes commands a ≡ submit_outcomes commands b → a ≡ b
      same_submit commands a b is = cc
  acted old new r after w (refused event why) s h t = ((t.3.1 w s t.1).1, kept t.2 (asks_registers event t.0 r w h), list_keeps (event ∷ []) (asks_none event t.0, tt) w)
  acted old new r after w (submit_failed event call fate left more) s h t =
      let list = event ∷ fail_events (asked event) call fate in
      let own_is : own (event ∷ more) ≡ list = own_asked event more t.0 ∙ ap (λ xs. event ∷ xs) t.1 in
      silent old new r after w s h (event ∷ more) list own_is (asks_go_on event t.0, failed_go_on (asked event) call fate) (asks_none event t.0, failed_none (asked event) call fate) (t.4 w s t.2 (event ∷ more) own_is).1 t.3
  acted old new r after w (submit_unpublished event more) s h t =
      let last = events.PublishFail ∷ [] in
      let own_is : own (event ∷ more) ≡ unpublished_events event = own_asked event more t.0 ∙ ap (λ xs. event ∷ xs) t.1 in
      silent old new r after w s h (event ∷ more) (unpublished_events event) own_is (asks_go_on event t.0, committed_go_on (asked event) last (refl, tt)) (asks_none event t.0, committed_none (asked event) last (refl, tt)) (t.4.3 w s t.2 (event ∷ more) own_is).1 t.3
  acted old new r after w (adopted trees) s h t =
      let there = t.2.1 old w s (spelled_by old.phase old.commands old.tables w.disk trees refl refl t.1.1 t.1.2 (s.stored t.1.0)) in
      (there.1.0, kept t.0 there.1.1, list_keeps (events.Stop Lost ∷ events.Reopen ∷ []) (refl, (refl, tt)) w)
    where
      spelled_by : (phase : Phase) (commands : List Command) (tables : Held S) (disk : State) (trees : Trees) → old.phase ≡ phase → old.commands ≡ commands → (state g tables).may_leave trees → (old.phase ≡ Closed → old.commands ≡ [] → Spells trees disk) → HasDisk g phase commands tables disk → Spells trees disk
      spelled_by Closed [] tables disk trees at under may closed held = closed at under
      spelled_by phase commands tables disk trees at under may closed held = held.durable trees may
  acted old new r after w (stopped call fate all) s h t =
      let there = t.2.1 w s all t.0 in
      let v : World = run_from w all in
      let is : run_from w (all ++ events.Reopen ∷ []) ≡ (step v events.Reopen).world = run_more w all (events.Reopen ∷ []) in (
        subst (IsPublisherOf g new) (sym is) there.2.0,
        kept t.1 (subst (IsRegistryOf (new_registry (line_state new.line))) (sym is) there.2.1),
        ap (λ (u : World). u.acks) is ∙ event_keeps v events.Reopen refl ∙ woven_keeps all (stop_events old.commands call fate) t.0 (stopped_none old.commands call fate) w ∙ sym (append-nil w.acks),
      )

  -- a run leads to a world that the publisher and the registry stand for, with its receipts
  pub ran : EveryRunStands g
  ran [] old new r after w h t = ((subst (λ (p : Standing (Held S)). IsPublisherOf g p w) (sym t.0) h.0, kept t.1 h.1), sym (append-nil w.acks))
  ran (act ∷ acts) old new r after w h t =
      let first = acted old t.0 r t.1 w act h.0 h.1 t.2 in
      let v : World = run_from w (act_events act) in
      let rest = ran acts t.0 new t.1 after v (first.0, first.1) t.3 in
      let more : run_from w (act_events act ++ events_of acts) ≡ run_from v (events_of acts) = run_more w (act_events act) (events_of acts) in (
        subst (AreBothOf g new after) (sym more) rest.0,
        ap (λ (u : World). u.acks) more ∙ rest.1 ∙ ap (λ acks. acks ++ receipts_of acts) first.2 ∙ append_assoc w.acks (act_receipts act) (receipts_of acts),
      )

  -- ---- the answers that its lookers gave are the world's

  module _ (P : Lookup → Type 0) where
    act_gave : (old new : Standing (Held S)) (r after : RegistryState) (w : World) (act : Act) → Acts g old r w act new after → Each P (run_from w (act_events act)).answers → Each P (act_answers act)
    act_gave old new r after w (looked i packet answer) t all = (unless_shows P w packet (looker_state w i) answer (world.is_stopped w.phase) t.2 all, tt)
    act_gave old new r after w act t all = tt

    pub run_gave : (acts : List Act) (old new : Standing (Held S)) (r after : RegistryState) (w : World) → ActsAll g old r w acts new after → Each P (run_from w (events_of acts)).answers → Each P (answers_of acts)
    run_gave [] old new r after w t all = tt
    run_gave (act ∷ acts) old new r after w t all =
        let v : World = run_from w (act_events act) in
        let there : Each P (run_from v (events_of acts)).answers = subst (λ (u : World). Each P u.answers) (run_more w (act_events act) (events_of acts)) all in
        each_append P (act_answers act) (answers_of acts) (act_gave old t.0 r t.1 w act t.2 (list_had P (events_of acts) v there)) (run_gave acts t.0 new t.1 after v t.3 there)

  -- ---- what a crash leaves after a run

  left_in : (phase : Phase) (commands : List Command) (tables : Held S) (disk left : State) → HasDisk g phase commands tables disk → (phase ≡ Closed → commands ≡ [] → left ≡ disk) → (IsStored g tables disk → left ≡ disk) → left ≡ disk
  left_in Closed [] tables disk left h shut stored = shut refl refl
  left_in phase commands tables disk left h shut stored = stored h

  -- after a run, in its world; after a failed commit in that of the state which is left
  pub leaves_all : (acts : List Act) (old new : Standing (Held S)) (after : RegistryState) → BeginsAt g old start → ActsAll g old (new_registry (line_state old.line)) start acts new after
      → IsKnown g new.ours_first new.tables → (left : State) → MayLeave g new.tables left → (new.phase ≡ Closed → new.commands ≡ [] → left ≡ (run_from start (events_of acts)).disk)
      → HoldsAll (run_from start (events_of acts)) (receipts_of acts) (answers_of acts) left
  leaves_all acts old new after h t known left may shut =
      let reached = ran acts old new (new_registry (line_state old.line)) after start h t in
      let v : World = run_from start (events_of acts) in
      let there : IsPublisherOf g new v = reached.0.0 in
      let is : left ≡ v.disk = left_in new.phase new.commands new.tables v.disk left (there.stored known) shut (λ stored. left_is g new v there known left may (λ held. stored)) in
      holds_all v [] (receipts_of acts) (answers_of acts) left (holds_of v there.place.reached) is reached.1 (run_gave (IsAnswered v) acts old new (new_registry (line_state old.line)) after start t)
