-- An atomic file is a list of the world's events, and so are scripts and files, one after the other.
use Rattle.std.proofs.Common.{◌≡◌, ◌⊎◌, inl, inr, ℕ, zero, suc, ◌+◌, ◌≤◌, Bool, true, false, List, [], ◌∷◌, ◌++◌, Option, Some, None, Result, Ok, Err, length, refl, sym, ap, ◌∙◌, subst, arith}
use Rattle.std.specs.List.{AllByRecursion as Each}
use Rattle.std.proofs.lemmas.List.{append-nil, append_assoc}
use Rattle.prt_refusals.specs.declared.refusal.Refusal.{Refusal}
use Rattle.prt_refusals.specs.declared.refusal.Refusal.TheVariants.{Busy}
use Rattle.prt_command.specs.declared.request.Command.{Command}
use Rattle.prt_session.proofs.Collected.{collected_told, found}
use Rattle.prt_session.specs.Atomic.{accepted_after, after_reading, list_replies, collected}
use Rattle.prt_session.specs.Desk.{DeskState, ListTurn, Mishap, commands_or_refusal, commands_turn, no_memory, no_room, settled}
use Rattle.prt_session.specs.Session.{replies}
use Rattle.prt_replies.specs.declared.reply.Reply.{Reply}
use Rattle.prt_replies.specs.declared.reply.Reply.TheVariants.{Accepted, Refused}
use Rattle.prt_version.proofs.Folds.{accepted_all, count_fold}
use Rattle.prt_version.specs.Accepted.{refusal_all}
use Rattle.prt_version.specs.Change.{fold}
use Rattle.prt_version.specs.State.{State, opening_state}
use Rattle.prt_replay.specs.Durability.{IsAnswered}
use Rattle.prt_replay.specs.World.{Ack, World, acks_after, published_version, run_from, start, step}
use Rattle.prt_replay.specs.declared.event.Event.{Event}
use Rattle.prt_replay.specs.declared.event.Event.TheVariants as events
use Rattle.prt_replay.specs.declared.event.Fate.TheVariants.{Lost}
use Rattle.prt_replay.proofs.Claims.{answered_of}
use Rattle.prt_laws.specs.Desks.{AreOffline, Does, FileIsRun, HasRoomFor, IsDeskOf, Sessions, SessionsHold, ShowsFile, ShowsList, Work, WorkTells, accepted_by, file, joined, list_events, list_events_by, read_commands, replies_acks, result_acks, script, work_acks}
use Rattle.prt_laws.specs.Events.{own}
use Rattle.prt_laws.specs.Spots.{IsReached}
use Rattle.prt_laws.proofs.Acks.{acks_from, event_keeps, list_had, holds_all}
use Rattle.prt_laws.proofs.Desks.{list_is_steps}
use Rattle.prt_laws.proofs.Scripts.{Reaches, lines_tell, list_seats, nothing_done, plain_list, reclaimed, reopened_desk, script_is_run}
use Rattle.prt_laws.proofs.Steps.{holds_of, reached_run, run_more}

-- ---- the numbers that the replies report

accepted_first : (n k : ℕ) → accepted_after n (suc k) ≡ Accepted (n + 1) ∷ accepted_after (n + 1) k
accepted_first n zero = refl
accepted_first n (suc k) =
    let number : n + suc (suc k) ≡ n + 1 + suc k = omega arith in
    ap (λ told. told ++ Accepted (n + suc (suc k)) ∷ []) (accepted_first n k) ∙ ap (λ m. Accepted (n + 1) ∷ (accepted_after (n + 1) k ++ Accepted m ∷ [])) number

accepted_acks : (commands : List Command) (n : ℕ) → replies_acks commands (accepted_after n (length commands)) ≡ acks_after n commands
accepted_acks [] n = refl
accepted_acks (command ∷ commands) n = ap (replies_acks (command ∷ commands)) (accepted_first n (length commands)) ∙ ap (λ acks. record { number = n + 1; command = command } ∷ acks) (accepted_acks commands (n + 1))

no_reply : (commands : List Command) → replies_acks commands [] ≡ []
no_reply [] = refl
no_reply (command ∷ commands) = refl

refused_acks : (commands : List Command) (why : Refusal) → replies_acks commands (Refused why ∷ []) ≡ []
refused_acks [] why = refl
refused_acks (command ∷ commands) why = no_reply commands

-- a list that is made has the numbers after that of the desk
last_is : (desk : DeskState) (commands : List Command) (shuts : Bool) (reason : Option Refusal) (mishap : Option Mishap) (last : ℕ) → refusal_all desk.published commands ≡ reason → (commands_or_refusal desk commands shuts reason mishap).result ≡ Ok last → last ≡ desk.published.count + length commands
last_is desk commands false None None last asked is = let same : (fold desk.published commands).count ≡ last = cc in sym same ∙ count_fold desk.published commands (accepted_all desk.published commands asked)
last_is desk commands false None (Some no_room) last asked is = absurd cc
last_is desk commands false (Some why) (Some no_room) last asked is = absurd cc
last_is desk commands shuts reason mishap last asked is = absurd cc

told_acks : (desk : DeskState) (commands : List Command) (result : Result ℕ Refusal) → ((last : ℕ) → result ≡ Ok last → last ≡ desk.published.count + length commands) → result_acks commands result ≡ replies_acks commands (list_replies desk commands result)
told_acks desk commands (Ok last) number = sym (acks_from commands desk.published.count last (number last refl)) ∙ sym (accepted_acks commands desk.published.count)
told_acks desk commands (Err why) number = sym (refused_acks commands why)

-- ---- commands together

module _ (w : World) (desk : DeskState) (h : IsDeskOf desk w) (all : AreOffline w) (commands : List Command) (some : 1 ≤ length commands) where
  abbrev Turned : Option Mishap → ListTurn → Type 0
  Turned mishap turn = Reaches w (λ part. ShowsList w part commands mishap turn.result) turn.desk (result_acks commands turn.result)

  acted : (mishap : Option Mishap) → (desk.closed ≡ false → refusal_all desk.published commands ≡ None → HasRoomFor (step w events.Reclaim).world mishap) → Turned mishap (commands_turn desk commands mishap)
  acted mishap room =
      let v : World = (step w events.Reclaim).world in
      let list = list_events desk commands mishap in
      let is = plain_list commands desk.closed (refusal_all desk.published commands) mishap some in
      let there = reclaimed w desk h all in
      let t = list_is_steps desk v commands mishap some there.0 room list is.1 in
      let written : own list ≡ list_events_by commands desk.closed (refusal_all (published_version w) commands) mishap = is.2 ∙ ap (λ (s : State). list_events_by commands desk.closed (refusal_all s commands) mishap) (sym h.published) in
      let kept : v.acks ≡ w.acks = event_keeps w events.Reclaim refl in (
        events.Reclaim ∷ list,
        inl (desk.closed, h.between, written, t.0),
        t.1,
        list_seats list is.0 v ∙ there.1,
        t.2 ∙ ap (λ acks. acks ++ result_acks commands (commands_turn desk commands mishap).result) kept,
      )

  -- refused for want of room, unless for another reason
  without_room : (shuts : Bool) (reason : Option Refusal) → desk.closed ≡ shuts → refusal_all desk.published commands ≡ reason → Turned (Some no_room) (commands_turn desk commands (Some no_room))
  without_room true reason is asked = acted (Some no_room) (λ closed _. absurd (let both : true ≡ false = sym is ∙ closed in cc))
  without_room false (Some why) is asked = acted (Some no_room) (λ _ allowed. absurd (let both : Some why ≡ None = sym asked ∙ allowed in cc))
  without_room false None is asked =
      let turn : commands_turn desk commands (Some no_room) ≡ record { result = Err Busy; desk = desk } =
      ap (λ b. commands_or_refusal desk commands b (refusal_all desk.published commands) (Some no_room)) is ∙ ap (λ r. commands_or_refusal desk commands false r (Some no_room)) asked in
      subst (Turned (Some no_room)) (sym turn) ([], inr (refl, refl, refl), h, all, sym (append-nil w.acks))

  turned : (mishap : Option Mishap) → Turned mishap (commands_turn desk commands mishap)
  turned (Some no_room) = without_room desk.closed (refusal_all desk.published commands) refl refl
  turned (Some no_memory) = acted (Some no_memory) (λ _ _. tt)
  turned mishap = acted mishap (λ _ _. (reclaimed w desk h all).2)

-- ---- an atomic file

module _ (w : World) (desk : DeskState) (h : IsDeskOf desk w) (all : AreOffline w) where
  abbrev Filed : Option Reply → List Command → Option Mishap → Type 0
  Filed refused commands mishap =
      Reaches w (λ part. ShowsFile desk w part refused commands mishap (after_reading desk refused commands mishap).replies) (after_reading desk refused commands mishap).desk (replies_acks commands (after_reading desk refused commands mishap).replies)

  submitted_all : (commands : List Command) (mishap : Option Mishap) → Filed None commands mishap
  submitted_all [] mishap = nothing_done w desk h all (λ part. ShowsFile desk w part None [] mishap []) (refl, refl)
  submitted_all (command ∷ commands) mishap =
      let list = command ∷ commands in
      let t = turned w desk h all list (omega arith) mishap in
      let result = (commands_turn desk list mishap).result in (
        t.0,
        (result, t.1, refl),
        t.2,
        t.3,
        t.4 ∙ ap (λ acks. w.acks ++ acks) (told_acks desk list result (λ last is. last_is desk list desk.closed (refusal_all desk.published list) mishap last refl is)),
      )

  filed : (refused : Option Reply) (commands : List Command) (mishap : Option Mishap) → (refused ≡ None) ⊎ ((why : Refusal) × (refused ≡ Some (Refused why))) → Filed refused commands mishap
  filed refused commands mishap (inl none) = subst (λ (r : Option Reply). Filed r commands mishap) (sym none) (submitted_all commands mishap)
  filed refused commands mishap (inr is) =
      let told = Refused is.0 ∷ [] in
      let done = nothing_done w desk h all (λ part. ShowsFile desk w part (Some (Refused is.0)) commands mishap told) (refl, refl) in
      subst (λ (r : Option Reply). Filed r commands mishap) (sym is.1)
      (subst (λ (acks : List Ack). Reaches w (λ part. ShowsFile desk w part (Some (Refused is.0)) commands mishap told) desk acks) (sym (refused_acks commands is.0)) done)

pub file_is_run : FileIsRun
file_is_run desk w input mishaps mishap h all = filed w desk h all _ (read_commands input mishaps) mishap (found (replies (collected input mishaps)) (collected_told input mishaps))

-- ---- scripts and files, one after the other

-- some events lead to a world of the desk after it, without lookers, which acknowledged what its replies do, and hold each
-- answer that it reports
abbrev Worked : World → Work → DeskState → Type 0
Worked w work desk =
    (list : List Event) × IsDeskOf desk (run_from w list) × AreOffline (run_from w list) × ((run_from w list).acks ≡ w.acks ++ work_acks work)
    × ((v : World) → Each (IsAnswered v) (run_from w list).answers → WorkTells (IsAnswered v) work)

worked : (work : Work) (before after : DeskState) (w : World) → IsDeskOf before w → AreOffline w → Does before work after → Worked w work after
worked (script xs) before after w h all does =
    let run = script_is_run xs before after w h all does in
    (joined run.0, run.2, run.3, run.4, λ v had. lines_tell (IsAnswered v) xs w run.0 run.1 had)
worked (file input mishaps mishap told) before after w h all does =
    let run = file_is_run before w input mishaps mishap h all in (
      run.0,
      subst (λ (d : DeskState). IsDeskOf d (run_from w run.0)) (sym does.1) run.2,
      run.3,
      run.4 ∙ ap (λ replies. w.acks ++ replies_acks (read_commands input mishaps) replies) (sym does.0),
      λ v had. tt,
    )

-- some events lead to a world with this on disk, which acknowledged what replies do and gave the answers that they report
abbrev Holding : World → List Work → State → Type 0
Holding w works left = (v : World) × (list : List Event) × (v ≡ run_from w list) × (v.disk ≡ left) × (v.acks ≡ w.acks ++ accepted_by works) × Each (WorkTells (IsAnswered v)) works

sessions_from : (works : List Work) (stored left : State) (w : World) → IsDeskOf (settled stored) w → AreOffline w → Sessions stored works left → Holding w works left
sessions_from [] stored left w h all is = (w, [], refl, h.stored ∙ sym is, sym (append-nil w.acks), tt)
sessions_from (work ∷ works) stored left w h all s =
    let desk : DeskState = s.0 in
    let run = worked work (settled stored) desk w h all s.1 in
    let u : World = run_from w run.0 in
    let again = reopened_desk desk u run.1 in
    let opening = events.Stop Lost ∷ events.Reopen ∷ [] in
    let rest = sessions_from works desk.stored left (run_from u opening) again.0 again.1 s.2 in
    let v : World = rest.0 in
    let list = opening ++ rest.1 in
    let more : v ≡ run_from u list = rest.2 ∙ sym (run_more u opening rest.1) in
    let whole : v ≡ run_from w (run.0 ++ list) = more ∙ sym (run_more w run.0 list) in
    let reached : IsReached v = subst IsReached (sym whole) (reached_run w (run.0 ++ list) h.reached) in
    let had : Each (IsAnswered v) u.answers = list_had (IsAnswered v) list u (subst (λ (x : World). Each (IsAnswered v) x.answers) more (answered_of v (holds_of v reached))) in (
      v,
      run.0 ++ list,
      whole,
      rest.3,
      rest.4 ∙ ap (λ acks. acks ++ accepted_by works) (again.2 ∙ run.3) ∙ append_assoc w.acks (work_acks work) (accepted_by works),
      (run.4 v had, rest.5),
    )

pub sessions_hold : SessionsHold
sessions_hold works left s =
    let there = sessions_from works opening_state left start (record { reached = ([], refl); between = refl; published = refl; stored = refl }) refl s in
    let v : World = there.0 in
    let reached : IsReached v = (there.1, there.2) in
    (v, reached, there.3, there.4, holds_all v [] (accepted_by works) v.answers left (holds_of v reached) (sym there.3) there.4 (λ all. all), there.5)
