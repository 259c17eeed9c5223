-- Each turn of a desk's definition is the world's events.
use Rattle.std.proofs.Common.{◌≡◌, ℕ, ◌+◌, ◌-◌, ◌≤◌, Bool, true, false, List, [], ◌∷◌, ◌++◌, length, Option, Some, None, Result, Ok, Err, refl, sym, ap, ◌∙◌, subst, arith}
use Rattle.std.specs.List.{AllByRecursion as Each}
use Rattle.std.proofs.lemmas.List.{append-nil, append_assoc}
use Rattle.prt_refusals.specs.declared.refusal.Refusal.{Refusal}
use Rattle.prt_refusals.specs.declared.refusal.Refusal.TheVariants as refusals
use Rattle.prt_refusals.specs.declared.refusal.StoreCall.{StoreCall}
use Rattle.prt_refusals.specs.declared.refusal.StoreCall.TheVariants as calls
use Rattle.prt_command.specs.declared.request.Command.{Command}
use Rattle.prt_published.specs.Line.{Line, grown_by, line_state}
use Rattle.prt_session.specs.Desk.{DeskState, ListTurn, Mishap, command_or_refusal, commands_or_refusal, commit_kept, no_memory, no_room, publication_fails, settled, shut, store_fails, submit, submit_all}
use Rattle.prt_session.specs.Session.{Turn}
use Rattle.prt_session.specs.Steps.{reply_of}
use Rattle.prt_version.proofs.Folds.{accepted_all, count_fold, fold_append}
use Rattle.prt_version.specs.Accepted.{IsAccepted, or_later, refusal_all}
use Rattle.prt_version.specs.Change.{fold, refusal}
use Rattle.prt_version.specs.State.{State}
use Rattle.prt_replay.specs.World as world
use Rattle.prt_replay.specs.World.{Phase as Moment, World, has_room, published_version, run_from, step}
use Rattle.prt_replay.specs.declared.event.Event.{Event}
use Rattle.prt_replay.specs.declared.event.Event.TheVariants as events
use Rattle.prt_replay.specs.declared.event.Fate.TheVariants.{Kept, Lost}
use Rattle.prt_replay.specs.declared.outcome.Outcome.{Outcome}
use Rattle.prt_replay.specs.declared.outcome.Outcome.TheVariants as outcomes
use Rattle.prt_laws.specs.Desks.{DeskHoldsAll, HasRoomFor, IsDeskOf, ListIsSteps, TurnIsSteps, Weaves, events_by, list_events_by, moment_between, reply_acks, result_acks, result_after, shown_reply, shown_result, submitted_events}
use Rattle.prt_laws.specs.Events.{AsksSome, acks_to, asked, commit_events, commit_outcomes, fail_events, fail_outcomes, outcomes_before, own, own_outcomes, publish_events, publish_outcomes, submit_outcomes, unpublished_events, write_outcomes}
use Rattle.prt_laws.specs.Spots.{IsAt, Spot}
use Rattle.prt_laws.proofs.Acks.{asks_none, committed_none, event_keeps, failed_none, is_ack, woven_acks, woven_keeps, holds_all}
use Rattle.prt_laws.proofs.Exits.{commit_goes, goes_on, kept_goes, lost_goes, publish_fails, publish_goes, spot}
use Rattle.prt_laws.proofs.Joined.{shown_more, shown_own, split}
use Rattle.prt_laws.proofs.Steps.{Moves, acknowledges, busy, holds_of, line_at, notes, placed, refuses, run_more, shut as closed, takes}
use Rattle.prt_laws.proofs.Woven.{Goes, asks_own, woven}

-- ---- where a desk's world is

pub desk_of : (desk : DeskState) (line : Line) (disk : State) (moment : Moment) (v : World) → IsAt (spot line disk moment) v → moment ≡ moment_between desk.closed → line_state line ≡ desk.published → disk ≡ desk.stored → IsDeskOf desk v
desk_of desk line disk moment v h between published stored = record { reached = h.reached; between = h.moment ∙ between; published = h.shown ∙ published; stored = h.disk ∙ stored }

-- ---- commands that are acknowledged

-- Events up to the note, and then the acknowledgement: they show their outcomes, and acknowledge each of the commands.
acked_there : (first : Spot) (line : Line) (disk : State) (commands : List Command) (rest : List Event) (shown : List Outcome) (v : World) → IsAt first v → Goes first rest shown (spot line disk (world.Noted commands)) → Each (λ event. is_ack event ≡ false) rest
    → (more : List Event) → own more ≡ rest ++ events.Ack ∷ []
    → (own_outcomes v more ≡ shown ++ outcomes.Acknowledged (line_state line).count ∷ []) × IsAt (spot line disk world.Ready) (run_from v more)
    × ((run_from v more).acks ≡ v.acks ++ acks_to (line_state line).count commands)
acked_there first line disk commands rest shown v h goes none more e =
    let n = (line_state line).count in
    let known = spot line disk (world.Noted commands) in
    let ready = spot line disk world.Ready in
    let p = split more rest (events.Ack ∷ []) e in
    let a = woven p.0 rest shown first known v p.3 goes h in
    let u : World = run_from v p.0 in
    let b = woven p.1 (events.Ack ∷ []) (outcomes.Acknowledged n ∷ []) known ready u p.4 (ready, λ x at. acknowledges line disk x commands at, refl) a.1 in
    let ran : run_from v more ≡ run_from u p.1 = ap (run_from v) p.2 ∙ run_more v p.0 p.1 in
    let out : own_outcomes v more ≡ shown ++ outcomes.Acknowledged n ∷ [] =
    ap (own_outcomes v) p.2 ∙ shown_more v p.0 p.1 ∙ ap (λ os. os ++ own_outcomes u p.1) a.0 ∙ ap (λ os. shown ++ os) b.0 in
    let quiet : u.acks ≡ v.acks = woven_keeps p.0 rest p.3 none v in (
      out,
      subst (IsAt ready) (sym ran) b.1,
      ap (λ (x : World). x.acks) ran ∙ woven_acks line disk commands p.1 u p.4 a.1 ∙ ap (λ acks. acks ++ acks_to n commands) quiet,
    )

-- committed commands are published and noted
noted_goes : (line : Line) (disk : State) (commands : List Command)
    → Goes (spot line disk (world.Committed commands)) (events.Publish ∷ events.Note ∷ []) (outcomes.Published (line_state (grown_by line commands)).count ∷ outcomes.Noted (line_state (grown_by line commands)).count ∷ []) (spot (grown_by line commands) disk (world.Noted commands))
noted_goes line disk commands =
    let after : Line = grown_by line commands in
    let n = (line_state after).count in
    let shown = spot after disk (world.Published commands) in
    let known = spot after disk (world.Noted commands) in
    let noting : Goes shown (events.Note ∷ []) (outcomes.Noted n ∷ []) known = (known, λ v at. notes after disk v commands at, refl) in
    goes_on (events.Publish ∷ []) (outcomes.Published n ∷ []) (events.Note ∷ []) (outcomes.Noted n ∷ []) (spot line disk (world.Committed commands)) shown known (publish_goes line disk commands) noting

-- and acknowledged
pub published_there : (line : Line) (disk : State) (w : World) (commands : List Command) → IsAt (spot line disk (world.Committed commands)) w → (all : List Event) → own all ≡ publish_events
    → (own_outcomes w all ≡ publish_outcomes (line_state (grown_by line commands)).count)
    × ((run_from w all).acks ≡ w.acks ++ acks_to (line_state (grown_by line commands)).count commands)
published_there line disk w commands h all e =
    let n = (line_state (grown_by line commands)).count in
    let a =
    acked_there (spot line disk (world.Committed commands)) (grown_by line commands) disk commands (events.Publish ∷ events.Note ∷ []) (outcomes.Published n ∷ outcomes.Noted n ∷ []) w h (noted_goes line disk commands) (refl, (refl, tt)) all e in
    (a.0, a.2)

-- What an event submits and the world takes: they show their outcomes, lead to the version after it, and acknowledge each of the commands.
pub accepted_there : (line : Line) (disk : State) (w : World) (event : Event) → AsksSome event → IsAt (spot line disk world.Ready) w → IsAccepted (line_state line) (asked event) → has_room w ≡ true
    → (more : List Event) → own more ≡ commit_events (asked event) ++ publish_events
    → (own_outcomes w (event ∷ more) ≡ submit_outcomes (asked event) (line_state (grown_by line (asked event))).count)
    × IsAt (spot (grown_by line (asked event)) (fold (line_state line) (asked event)) world.Ready) (run_from w (event ∷ more))
    × ((run_from w (event ∷ more)).acks ≡ w.acks ++ acks_to (line_state (grown_by line (asked event))).count (asked event))
accepted_there line disk w event some h allowed has more e =
    let commands = asked event in
    let next : State = fold (line_state line) commands in
    let after : Line = grown_by line commands in
    let n = (line_state after).count in
    let first = spot line disk (world.Prepared commands 0 calls.Begin) in
    let stored = spot line next (world.Committed commands) in
    let known = spot after next (world.Noted commands) in
    let prepared = takes line disk w event some allowed has h in
    let counted : n ≡ (line_state line).count + length commands = ap (λ (s : State). s.count) (fold_append line.base line.list commands) ∙ count_fold (line_state line) commands allowed in
    let tail = events.Publish ∷ events.Note ∷ [] in
    let seen = outcomes.Published n ∷ outcomes.Noted n ∷ [] in
    let rest = commit_events commands ++ tail in
    let shown = commit_outcomes commands ++ seen in
    let goes : Goes first rest shown known = goes_on (commit_events commands) (commit_outcomes commands) tail seen first stored known (commit_goes line disk commands some) (noted_goes line next commands) in
    let v : World = (step w event).world in
    let e' : own more ≡ rest ++ events.Ack ∷ [] = e ∙ sym (append_assoc (commit_events commands) tail (events.Ack ∷ [])) in
    let a = acked_there first after next commands rest shown v prepared.1 goes (committed_none commands tail (refl, (refl, tt))) more e' in (
      shown_own w event more (asks_own event some)
          ∙ ap (λ o. o ∷ own_outcomes v more) (prepared.0 ∙ ap outcomes.Prepared (sym counted))
          ∙ ap (λ os. outcomes.Prepared n ∷ os) (a.0 ∙ append_assoc (commit_outcomes commands) seen (outcomes.Acknowledged n ∷ [])),
      a.1,
      a.2 ∙ ap (λ acks. acks ++ acks_to n commands) (event_keeps w event (asks_none event some)),
    )

-- ---- what the outcomes of store calls report

told_writes : (before : Result ℕ Refusal) (commands : List Command) (rest : List Outcome) → result_after before (write_outcomes commands ++ rest) ≡ result_after before rest
told_writes before [] rest = refl
told_writes before (command ∷ commands) rest = told_writes before commands rest

told_calls : (before : Result ℕ Refusal) (commands : List Command) (call : StoreCall) (rest : List Outcome) → result_after before (outcomes_before commands call ++ rest) ≡ result_after before rest
told_calls before commands calls.Begin rest = refl
told_calls before commands calls.Write rest = refl
told_calls before commands calls.Count rest = told_writes before commands rest
told_calls before commands calls.Commit rest = ap (result_after before) (append_assoc (write_outcomes commands) (outcomes.Called calls.Count ∷ []) rest) ∙ told_writes before commands (outcomes.Called calls.Count ∷ rest)

told_commit : (before : Result ℕ Refusal) (commands : List Command) (rest : List Outcome) → result_after before (commit_outcomes commands ++ rest) ≡ result_after before rest
told_commit before commands rest = ap (result_after before) (append_assoc (outcomes_before commands calls.Commit) (outcomes.Called calls.Commit ∷ []) rest) ∙ told_calls before commands calls.Commit (outcomes.Called calls.Commit ∷ rest)

-- ---- one turn

module _ (w : World) (event : Event) (some : AsksSome event) where
  -- the commands that it submits
  abbrev its : List Command
  its = asked event

  abbrev Is : ListTurn → List Event → Type 0
  Is turn all = (shown_result (own_outcomes w all) ≡ turn.result) × IsDeskOf turn.desk (run_from w all) × ((run_from w all).acks ≡ w.acks ++ result_acks its turn.result)

  -- a submission and its other events
  submitted : (o : Outcome) (more rest : List Event) (shown : List Outcome) (first last : Spot) → Moves w event o first → own more ≡ rest → Goes first rest shown last
      → (own_outcomes w (event ∷ more) ≡ o ∷ shown) × IsAt last (run_from w (event ∷ more))
  submitted o more rest shown first last m e goes =
      let v : World = (step w event).world in
      let r = woven more rest shown first last v e goes m.1 in
      (shown_own w event more (asks_own event some) ∙ ap (λ x. x ∷ own_outcomes v more) m.0 ∙ ap (λ os. o ∷ os) r.0, r.1)

  -- that acknowledge nothing
  silent : (more rest : List Event) → own more ≡ rest → Each (λ event. is_ack event ≡ false) rest → (run_from w (event ∷ more)).acks ≡ w.acks ++ []
  silent more rest e none = woven_keeps more rest e none (step w event).world ∙ event_keeps w event (asks_none event some) ∙ sym (append-nil w.acks)

  begun : (all rest : List Event) (turn : ListTurn) → Weaves (event ∷ rest) all → ((more : List Event) → own more ≡ rest → Is turn (event ∷ more)) → Is turn all
  begun all rest turn weaves law = subst (λ (es : List Event). Is turn es) (sym weaves.1) (law weaves.0 weaves.2)

  module _ (desk : DeskState) (h : IsDeskOf desk w) where
    -- the world refuses it
    refused : (why : Refusal) (moment : Moment) → moment ≡ moment_between desk.closed → Moves w event (outcomes.Refused why) (spot (line_at w) w.disk moment)
        → (all : List Event) → Weaves (event ∷ []) all → Is (record { result = Err why; desk = desk }) all
    refused why moment between m all weaves = begun all [] (record { result = Err why; desk = desk }) weaves (λ more e.
        let here = spot (line_at w) w.disk moment in
        let r = submitted (outcomes.Refused why) more [] [] here here m e refl in (
          ap shown_result r.0,
          desk_of desk (line_at w) w.disk moment (run_from w (event ∷ more)) r.1 between h.published h.stored,
          silent more [] e tt,
        ))

    -- the place of its world if it is open
    open_there : desk.closed ≡ false → IsAt (spot (line_at w) w.disk world.Ready) w
    open_there is_open = placed w world.Ready h.reached (h.between ∙ ap moment_between is_open) tt

    -- nothing is submitted for lack of memory
    unread : desk.closed ≡ false → (all : List Event) → Weaves [] all → Is (record { result = Err refusals.NoMemory; desk = desk }) all
    unread is_open all weaves =
        let here = spot (line_at w) w.disk world.Ready in
        let r = woven all [] [] here here w weaves refl (open_there is_open) in (
          ap shown_result r.0,
          desk_of desk (line_at w) w.disk world.Ready (run_from w all) r.1 (ap moment_between (sym is_open)) h.published h.stored,
          woven_keeps all [] weaves tt w ∙ sym (append-nil w.acks),
        )

    refused_open : (why : Refusal) → desk.closed ≡ false → refusal_all desk.published its ≡ Some why → (all : List Event) → Weaves (event ∷ []) all → Is (record { result = Err why; desk = desk }) all
    refused_open why is_open reason all weaves =
        refused why world.Ready (ap moment_between (sym is_open)) (refuses (line_at w) w.disk w event why some (ap (λ (s : State). refusal_all s its) h.published ∙ reason) (open_there is_open)) all weaves

    refused_shut : desk.closed ≡ true → (all : List Event) → Weaves (event ∷ []) all → Is (record { result = Err refusals.Closed; desk = desk }) all
    refused_shut is all weaves =
        refused refusals.Closed world.Closed (ap moment_between (sym is)) (closed (line_at w) w.disk w event some (placed w world.Closed h.reached (h.between ∙ ap moment_between is) tt)) all weaves

    module _ (is_open : desk.closed ≡ false) (accepted : IsAccepted desk.published its) where
      allowed : IsAccepted (published_version w) its
      allowed = subst (λ (s : State). IsAccepted s its) (sym h.published) accepted

      next_is : fold (published_version w) its ≡ fold desk.published its
      next_is = ap (λ (s : State). fold s its) h.published

      module _ (has : has_room w ≡ true) where
        abbrev first : Spot
        first = spot (line_at w) w.disk (world.Prepared its 0 calls.Begin)

        abbrev number : ℕ
        number = (published_version w).count + length its

        prepared : Moves w event (outcomes.Prepared number) first
        prepared = takes (line_at w) w.disk w event some allowed has (open_there is_open)

        -- a failing exit: closed, with this state on disk
        fails : (why : Refusal) (rest : List Event) (shown : List Outcome) (disk stored : State) → Goes first rest shown (spot (line_at w) disk world.Closed) → disk ≡ stored
            → shown_result (outcomes.Prepared number ∷ shown) ≡ Err why → Each (λ event. is_ack event ≡ false) rest
            → (all : List Event) → Weaves (event ∷ rest) all → Is (record { result = Err why; desk = shut desk stored }) all
        fails why rest shown disk stored goes is told none all weaves = begun all rest (record { result = Err why; desk = shut desk stored }) weaves (λ more e.
            let r = submitted (outcomes.Prepared number) more rest shown first (spot (line_at w) disk world.Closed) prepared e goes in (
              ap shown_result r.0 ∙ told,
              desk_of (shut desk stored) (line_at w) disk world.Closed (run_from w (event ∷ more)) r.1 refl h.published is,
              silent more rest e none,
            ))

        accepts : (all : List Event) → Weaves (submitted_events event None) all → Is (submit_all desk its None) all
        accepts all weaves = begun all (commit_events its ++ publish_events) (submit_all desk its None) weaves (λ more e.
            let line : Line = grown_by (line_at w) its in
            let r = accepted_there (line_at w) w.disk w event some (open_there is_open) allowed has more e in
            let last : (line_state line).count ≡ (fold desk.published its).count = ap (λ (s : State). s.count) next_is in (
              ap shown_result r.0 ∙ told_commit (Err refusals.NoMemory) its (publish_outcomes (line_state line).count) ∙ ap Ok last,
              desk_of (settled (fold desk.published its)) line (fold (published_version w) its) world.Ready (run_from w (event ∷ more)) r.1 refl next_is next_is,
              r.2 ∙ ap (λ n. w.acks ++ acks_to n its) last,
            ))

        store_failed : (call : StoreCall) → (all : List Event) → Weaves (event ∷ fail_events its call Lost) all → Is (record { result = Err (refusals.StoreFailed call); desk = shut desk desk.stored }) all
        store_failed call all weaves =
            fails (refusals.StoreFailed call) (fail_events its call Lost) (fail_outcomes its call) w.disk desk.stored (lost_goes (line_at w) w.disk its some call) h.stored
            (told_calls (Err refusals.NoMemory) its call (outcomes.Refused (refusals.StoreFailed call) ∷ [])) (failed_none its call Lost) all weaves

        kept : (all : List Event) → Weaves (submitted_events event (Some commit_kept)) all → Is (submit_all desk its (Some commit_kept)) all
        kept all weaves =
            fails (refusals.StoreFailed calls.Commit) (fail_events its calls.Commit Kept) (fail_outcomes its calls.Commit) (fold (published_version w) its) (fold desk.published its) (kept_goes (line_at w) w.disk its some) next_is
            (told_calls (Err refusals.NoMemory) its calls.Commit (outcomes.Refused (refusals.StoreFailed calls.Commit) ∷ [])) (failed_none its calls.Commit Kept) all weaves

        unpublished : (all : List Event) → Weaves (unpublished_events event) all → Is (submit_all desk its (Some publication_fails)) all
        unpublished all weaves =
            let next : State = fold (published_version w) its in
            let last = outcomes.Refused refusals.NotPublished ∷ [] in
            let goes =
            goes_on (commit_events its) (commit_outcomes its) (events.PublishFail ∷ []) last first (spot (line_at w) next (world.Committed its)) (spot (line_at w) next world.Closed) (commit_goes (line_at w) w.disk its some) (publish_fails (line_at w) next its) in
            fails refusals.NotPublished (commit_events its ++ events.PublishFail ∷ []) (commit_outcomes its ++ last) next (fold desk.published its) goes next_is
            (told_commit (Err refusals.NoMemory) its last) (committed_none its (events.PublishFail ∷ []) (refl, tt)) all weaves

      by_mishap : (mishap : Option Mishap) → HasRoomFor w mishap → (all : List Event) → Weaves (submitted_events event mishap) all → Is (submit_all desk its mishap) all
      by_mishap None room all weaves = accepts room all weaves
      by_mishap (Some no_room) room all weaves = refused refusals.Busy world.Ready (ap moment_between (sym is_open)) (busy (line_at w) w.disk w event some allowed room (open_there is_open)) all weaves
      by_mishap (Some no_memory) room all weaves = unread is_open all weaves
      by_mishap (Some (store_fails call)) room all weaves = store_failed room call all weaves
      by_mishap (Some commit_kept) room all weaves = kept room all weaves
      by_mishap (Some publication_fails) room all weaves = unpublished room all weaves

-- ---- the turn of commands together

module _ (w : World) (commands : List Command) (some : 1 ≤ length commands) (desk : DeskState) (h : IsDeskOf desk w) where
  abbrev all_event : Event
  all_event = events.SubmitAll commands

  list_by : (shuts : Bool) (reason : Option Refusal) (mishap : Option Mishap) → desk.closed ≡ shuts → refusal_all desk.published commands ≡ reason → (desk.closed ≡ false → refusal_all desk.published commands ≡ None → HasRoomFor w mishap)
      → (all : List Event) → Weaves (list_events_by commands shuts reason mishap) all → Is w all_event some (commands_or_refusal desk commands shuts reason mishap) all
  list_by true reason mishap is asked room all weaves = refused_shut w all_event some desk h is all weaves
  list_by false (Some why) (Some no_memory) is asked room all weaves = unread w all_event some desk h is all weaves
  list_by false (Some why) mishap is asked room all weaves = refused_open w all_event some desk h why is asked all weaves
  list_by false None mishap is asked room all weaves = by_mishap w all_event some desk h is (accepted_all desk.published commands asked) mishap (room is asked) all weaves

pub list_is_steps : ListIsSteps
list_is_steps desk w commands mishap some h room all weaves = list_by w commands some desk h desk.closed (refusal_all desk.published commands) mishap refl refl room all weaves

-- ---- the turn of one command

-- the result as a reply
abbrev as_turn : ListTurn → Turn DeskState
as_turn turn = record { reply = reply_of turn.result; desk = turn.desk }

as_one : (desk : DeskState) (command : Command) (mishap : Option Mishap) → as_turn (submit_all desk (command ∷ []) mishap) ≡ submit desk command mishap
as_one desk command None = refl
as_one desk command (Some no_room) = refl
as_one desk command (Some mishap) = refl

acks_as_one : (command : Command) (result : Result ℕ Refusal) → result_acks (command ∷ []) result ≡ reply_acks command (reply_of result)
acks_as_one command (Ok last) = let same : last - 0 ≡ last = omega arith in ap (λ n. record { number = n; command = command } ∷ []) same
acks_as_one command (Err reason) = refl

module _ (w : World) (command : Command) where
  abbrev one_event : Event
  one_event = events.Submit command

  asks_one : AsksSome one_event
  asks_one = omega arith

  abbrev IsTurn : Turn DeskState → List Event → Type 0
  IsTurn turn all = (shown_reply (own_outcomes w all) ≡ turn.reply) × IsDeskOf turn.desk (run_from w all) × ((run_from w all).acks ≡ w.acks ++ reply_acks command turn.reply)

  turned : (turn : ListTurn) (all : List Event) → Is w one_event asks_one turn all → IsTurn (as_turn turn) all
  turned turn all is = (ap reply_of is.0, is.1, is.2 ∙ ap (λ acks. w.acks ++ acks) (acks_as_one command turn.result))

  module _ (desk : DeskState) (h : IsDeskOf desk w) where
    by_reason : (shuts : Bool) (reason : Option Refusal) (mishap : Option Mishap) → desk.closed ≡ shuts → refusal desk.published command ≡ reason → (desk.closed ≡ false → refusal desk.published command ≡ None → HasRoomFor w mishap)
        → (all : List Event) → Weaves (events_by command shuts reason mishap) all → IsTurn (command_or_refusal desk command shuts reason mishap) all
    by_reason true reason mishap is asked room all weaves = turned (record { result = Err refusals.Closed; desk = desk }) all (refused_shut w one_event asks_one desk h is all weaves)
    by_reason false (Some why) mishap is asked room all weaves =
        turned (record { result = Err why; desk = desk }) all (refused_open w one_event asks_one desk h why is (ap (λ (r : Option Refusal). or_later r None) asked) all weaves)
    by_reason false None mishap is asked room all weaves =
        subst (λ (turn : Turn DeskState). IsTurn turn all) (as_one desk command mishap)
        (turned (submit_all desk (command ∷ []) mishap) all (by_mishap w one_event asks_one desk h is (asked, tt) mishap (room is asked) all weaves))

pub turn_is_steps : TurnIsSteps
turn_is_steps desk w command mishap h room all weaves = by_reason w command desk h desk.closed (refusal desk.published command) mishap refl refl room all weaves

pub desk_holds_all : DeskHoldsAll
desk_holds_all desk w h = holds_all w [] w.acks w.answers desk.stored (holds_of w h.reached) (sym h.stored) refl (λ all. all)
