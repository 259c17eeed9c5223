-- The lines of a script are a list of the world's events.
use Rattle.std.proofs.Common.{◌≡◌, inl, inr, ℕ, ◌≤◌, Bool, true, false, not, ◌&&◌, List, [], ◌∷◌, ◌++◌, Option, Some, None, Result, Ok, Err, get_or, length, map, replicate, set, refl, sym, ap, ◌∙◌, subst, cond, arith}
use Rattle.std.specs.Prelude.{codes, filter, nat_lt}
use Rattle.std.specs.List.{AllByRecursion as Each, list_any}
use Rattle.std.proofs.lemmas.List.{append-nil, append_assoc}
use Rattle.prt_addr.proofs.Each.{each_implies}
use Rattle.prt_refusals.specs.declared.refusal.Refusal.{Refusal}
use Rattle.prt_refusals.specs.declared.refusal.Refusal.TheVariants.{Busy, NoMemory}
use Rattle.prt_refusals.specs.declared.refusal.StoreCall.TheVariants as calls
use Rattle.prt_command.specs.Reading.{reading}
use Rattle.prt_command.specs.declared.request.Command.{Command}
use Rattle.prt_command.specs.declared.request.Query.{Query}
use Rattle.prt_command.specs.declared.request.Query.TheVariants.{Get, RouteShow, RuleShow}
use Rattle.prt_command.specs.declared.request.Request.{Request}
use Rattle.prt_command.specs.declared.request.Request.TheVariants as requests
use Rattle.prt_published.specs.Line.{Line}
use Rattle.prt_grace.specs.GracePeriod.{is_retired, may_hold}
use Rattle.prt_grace.specs.declared.limits.TheConstants.{MOST_RETIRED, PLACES}
use Rattle.prt_listing.specs.AnswerText.{answer_text}
use Rattle.prt_listing.specs.QueryText.{query_text}
use Rattle.prt_rule.specs.declared.packet.Packet.{Packet}
use Rattle.prt_session.specs.Desk.{DeskState, Mishap, command_or_refusal, command_turn, commit_kept, no_memory, no_room, publication_fails, query_turn, request_turn, settled, store_fails}
use Rattle.prt_session.specs.Session as session
use Rattle.prt_session.specs.Session.{Exchange, Turn, turn_on}
use Rattle.prt_replies.specs.declared.reply.Reply.{Reply}
use Rattle.prt_replies.specs.declared.reply.Reply.TheVariants.{Answered, Refused, Silent}
use Rattle.prt_version.specs.Change.{refusal}
use Rattle.prt_version.specs.State.{State}
use Rattle.prt_version.specs.declared.answer.Answer.{Answer}
use Rattle.prt_replay.specs.World as world
use Rattle.prt_replay.specs.World.{Phase as Moment, Ack, LookerState, Lookup, Step, World, announced_by, has_room, looker_state, offline, online, outcomes_from, published_version, run_from, step}
use Rattle.prt_replay.specs.declared.event.Event.{Event}
use Rattle.prt_replay.specs.declared.event.Event.TheVariants as events
use Rattle.prt_replay.specs.declared.event.Fate.TheVariants.{Kept, Lost}
use Rattle.prt_replay.specs.declared.outcome.Outcome.{Outcome}
use Rattle.prt_replay.specs.declared.outcome.Outcome.TheVariants as outcomes
use Rattle.prt_replay.proofs.History.{stays}
use Rattle.prt_replay.proofs.KeptVersions.{each_replicate}
use Rattle.prt_laws.specs.Desks.{AllTell, AnswersOrNot, AreOffline, DeskHasRoom, HasRoomFor, IsDeskOf, Lines, ReopenedDesk, ScriptIsRun, ShowsAnswer, ShowsReply, ShowsTurn, Tells, Weaves, accepted_in, desk_events, events_by, joined, list_events_by, lookup_events, lookup_outcomes, moment_between, reply_acks, request_acks, submitted_events}
use Rattle.prt_laws.specs.Events.{AsksSome, asked, commit_events, fail_events, is_lookers, own, publish_events}
use Rattle.prt_laws.specs.Spots.{HasRoom, IsAt}
use Rattle.prt_laws.proofs.Acks.{event_keeps, list_had, unless_shows}
use Rattle.prt_laws.proofs.Between.{stays_there}
use Rattle.prt_laws.proofs.Woven.{calls_then, committed_then, own_all, own_asked}
use Rattle.prt_laws.proofs.Desks.{desk_of, turn_is_steps}
use Rattle.prt_laws.proofs.Exits.{spot}
use Rattle.prt_laws.proofs.Keeping.{Keeps, is_storing, storing_keeps}
use Rattle.prt_laws.proofs.Looking.{runs}
use Rattle.prt_laws.proofs.Opening.{reopens, stops}
use Rattle.prt_laws.proofs.Steps.{line_at, placed, reached_run, run_more}

-- ---- a desk's events leave lookers as they are

abbrev Seats : World → Step → Type 0
Seats = Keeps (λ w. w.lookers)

publish_seats : (w : World) (moment : Moment) → Seats w (world.publish w moment)
publish_seats w (world.Committed commands) = refl
publish_seats w moment = refl

note_seats : (w : World) (moment : Moment) → Seats w (world.note w moment)
note_seats w (world.Published commands) = refl
note_seats w moment = refl

ack_seats : (w : World) (moment : Moment) → Seats w (world.acknowledge w moment)
ack_seats w (world.Noted commands) = refl
ack_seats w moment = refl

abbrev pub is_command : Event → Bool
is_command events.Publish = true
is_command events.Note = true
is_command events.Ack = true
is_command event = is_storing event

command_own : (event : Event) → is_command event ≡ true → is_lookers event ≡ false
command_own events.Call is = refl
command_own event is = cc

asks_command : (event : Event) → AsksSome event → is_command event ≡ true
asks_command (events.Submit command) some = refl
asks_command (events.SubmitAll commands) some = refl
asks_command event some = absurd (omega (arith, some))

pub event_seats : (w : World) (event : Event) → is_command event ≡ true → Seats w (step w event)
event_seats w events.Publish is = publish_seats w w.phase
event_seats w events.Note is = note_seats w w.phase
event_seats w events.Ack is = ack_seats w w.phase
event_seats w event is = storing_keeps (λ w. w.lookers) (λ w accepted last disk pending moment. refl) w event is

pub list_seats : (list : List Event) → Each (λ event. is_command event ≡ true) list → (w : World) → (run_from w list).lookers ≡ w.lookers
list_seats [] all w = refl
list_seats (event ∷ list) all w = list_seats list all.1 (step w event).world ∙ event_seats w event all.0

-- ---- the events of a turn, with no looker between

-- they are a command's, and in turn
abbrev pub IsPlain : List Event → Type 0
IsPlain list = Each (λ event. is_command event ≡ true) list × Weaves list list × (own list ≡ list)

commands_own : (list : List Event) → Each (λ event. is_command event ≡ true) list → own list ≡ list
commands_own list all = own_all list (each_implies (λ event. is_command event ≡ true) (λ event. is_lookers event ≡ false) command_own list all)

-- what an event submits, and events of a command after it
plain_with : (event : Event) (list : List Event) → AsksSome event → Each (λ event. is_command event ≡ true) list → IsPlain (event ∷ list)
plain_with event list some all =
    let own_is = commands_own list all in
    ((asks_command event some, all), (list, refl, own_is), own_asked event list some ∙ ap (λ xs. event ∷ xs) own_is)

plain_submitted : (event : Event) (mishap : Option Mishap) → AsksSome event → IsPlain (submitted_events event mishap)
plain_submitted event None some = plain_with event (commit_events (asked event) ++ publish_events) some (committed_then (λ event. is_command event ≡ true) refl (asked event) publish_events (refl, (refl, (refl, tt))))
plain_submitted event (Some no_room) some = plain_with event [] some tt
plain_submitted event (Some no_memory) some = (tt, refl, refl)
plain_submitted event (Some (store_fails call)) some = plain_with event (fail_events (asked event) call Lost) some (calls_then (λ event. is_command event ≡ true) refl (asked event) call (events.Fail Lost ∷ []) (refl, tt))
plain_submitted event (Some commit_kept) some = plain_with event (fail_events (asked event) calls.Commit Kept) some (calls_then (λ event. is_command event ≡ true) refl (asked event) calls.Commit (events.Fail Kept ∷ []) (refl, tt))
plain_submitted event (Some publication_fails) some = plain_with event (commit_events (asked event) ++ events.PublishFail ∷ []) some (committed_then (λ event. is_command event ≡ true) refl (asked event) (events.PublishFail ∷ []) (refl, tt))

plain : (command : Command) (shuts : Bool) (reason : Option Refusal) (mishap : Option Mishap) → IsPlain (events_by command shuts reason mishap)
plain command true reason mishap = plain_with (events.Submit command) [] (omega arith) tt
plain command false (Some why) mishap = plain_with (events.Submit command) [] (omega arith) tt
plain command false None mishap = plain_submitted (events.Submit command) mishap (omega arith)

pub plain_list : (commands : List Command) (shuts : Bool) (reason : Option Refusal) (mishap : Option Mishap) → 1 ≤ length commands → IsPlain (list_events_by commands shuts reason mishap)
plain_list commands true reason mishap some = plain_with (events.SubmitAll commands) [] some tt
plain_list commands false (Some why) (Some no_memory) some = (tt, refl, refl)
plain_list commands false (Some why) mishap some = plain_with (events.SubmitAll commands) [] some tt
plain_list commands false None mishap some = plain_submitted (events.SubmitAll commands) mishap some

-- ---- a reclaim if no looker is online

none_holds : (n : ℕ) (lookers : List LookerState) → Each (λ looker. looker ≡ offline) lookers → list_any (may_hold n) (map announced_by lookers) ≡ false
none_holds n [] all = refl
none_holds n (looker ∷ lookers) all = subst (λ (l : LookerState). list_any (may_hold n) (map announced_by (l ∷ lookers)) ≡ false) (sym all.0) (none_holds n lookers all.1)

none_stays : (p q : State → Bool) (versions : List State) → ((state : State) → q state ≡ not (p state)) → filter p (filter q versions) ≡ []
none_stays p q [] is = refl
none_stays p q (state ∷ versions) is = by (p state) refl (none_stays p q versions is)
  where
    by : (b : Bool) → p state ≡ b → filter p (filter q versions) ≡ [] → filter p (filter q (state ∷ versions)) ≡ []
    by true here rest = ap (λ b. filter p (cond b (state ∷ filter q versions) (filter q versions))) (is state ∙ ap not here) ∙ rest
    by false here rest = ap (λ b. filter p (cond b (state ∷ filter q versions) (filter q versions))) (is state ∙ ap not here) ∙ ap (λ b. cond b (state ∷ filter p (filter q versions)) (filter p (filter q versions))) here ∙ rest

stays_by : (b : Bool) → not (b && true) ≡ not b
stays_by true = refl
stays_by false = refl

room_then : (w : World) → AreOffline w → has_room (world.reclaim w).world ≡ true
room_then w none =
    let told = map announced_by w.lookers in
    let all : Each (λ looker. looker ≡ offline) w.lookers = subst (λ (ls : List LookerState). Each (λ looker. looker ≡ offline) ls) (sym none) (each_replicate (λ looker. looker ≡ offline) PLACES offline refl) in
    let p = λ (state : State). is_retired w.noted state.count in
    let q = λ (state : State). stays w.noted told state.count in
    let left : (state : State) → q state ≡ not (p state) = λ state. ap (λ b. not (p state && not b)) (none_holds state.count w.lookers all) ∙ stays_by (p state) in
    ap (λ (xs : List State). nat_lt (length xs) MOST_RETIRED) (none_stays p q w.versions left)

-- ---- one looker's lookup

-- a looker that went online, fetched and went offline again sits as before
seat_back : (lookers : List LookerState) (up held : LookerState) → lookers ≡ replicate PLACES offline → set (set (set lookers 0 up) 0 held) 0 offline ≡ replicate PLACES offline
seat_back lookers up held is = ap (λ (ls : List LookerState). set (set (set ls 0 up) 0 held) 0 offline) is

-- the first looker of a world without one that is online looks a packet up, and that shows the answer of the published version
abbrev LooksUp : World → Packet → Type 0
LooksUp w packet =
    (outcomes_from w (lookup_events packet) ≡ lookup_outcomes w (world.answer_by (published_version w) packet))
    × (run_from w (lookup_events packet)
    ≡ record w {
      lookers = set (set (set w.lookers 0 (online w.noted None)) 0 (online w.noted (Some w.published))) 0 offline;
      answers = w.answers ++ record { packet = packet; answer = world.answer_by (published_version w) packet } ∷ [];
    })

looks_up : (w : World) (packet : Packet) → world.is_stopped w.phase ≡ false → AreOffline w → LooksUp w packet
looks_up w packet going all =
    let up = online w.noted None in
    let held = online w.noted (Some w.published) in
    let answer : Answer = world.answer_by (published_version w) packet in
    let a : World = world.with_looker w 0 up in
    let b : World = world.with_looker a 0 held in
    let c : World = record b { answers = w.answers ++ record { packet = packet; answer = answer } ∷ [] } in
    let rest = events.Look 0 packet ∷ events.Offline 0 ∷ [] in
    let first : step w (events.Online 0) ≡ world.go_online w 0 offline = runs w (world.go_online w 0 (looker_state w 0)) going ∙ ap (λ (ls : List LookerState). world.go_online w 0 (get_or ls 0 offline)) all in
    let second : step a (events.Fetch 0) ≡ world.fetch a 0 up = runs a (world.fetch a 0 (looker_state a 0)) going ∙ ap (λ (ls : List LookerState). world.fetch a 0 (get_or (set ls 0 up) 0 offline)) all in
    let third : step b (events.Look 0 packet) ≡ world.look b packet held = runs b (world.look b packet (looker_state b 0)) going ∙ ap (λ (ls : List LookerState). world.look b packet (get_or (set (set ls 0 up) 0 held) 0 offline)) all in
    let last : step c (events.Offline 0) ≡ world.go_offline c 0 held = runs c (world.go_offline c 0 (looker_state c 0)) going ∙ ap (λ (ls : List LookerState). world.go_offline c 0 (get_or (set (set ls 0 up) 0 held) 0 offline)) all in (
      ap (λ (s : Step). s.outcome ∷ outcomes_from s.world (events.Fetch 0 ∷ rest)) first
          ∙ ap (λ (s : Step). outcomes.Online 0 w.noted ∷ s.outcome ∷ outcomes_from s.world rest) second
          ∙ ap (λ (s : Step). outcomes.Online 0 w.noted ∷ outcomes.Fetched 0 w.published ∷ s.outcome ∷ outcomes_from s.world (events.Offline 0 ∷ [])) third
          ∙ ap (λ (s : Step). outcomes.Online 0 w.noted ∷ outcomes.Fetched 0 w.published ∷ outcomes.Answered answer ∷ s.outcome ∷ []) last,
      ap (λ (s : Step). run_from s.world (events.Fetch 0 ∷ rest)) first ∙ ap (λ (s : Step). run_from s.world rest) second ∙ ap (λ (s : Step). run_from s.world (events.Offline 0 ∷ [])) third ∙ ap (λ (s : Step). s.world) last,
    )

-- ---- one line

-- a desk's world is between commands, and not stopped
going : (b : Bool) → world.is_stopped (moment_between b) ≡ false
going true = refl
going false = refl

between_there : (w : World) (desk : DeskState) → IsDeskOf desk w → IsAt (spot (line_at w) w.disk (moment_between desk.closed)) w
between_there w desk h = placed w (moment_between desk.closed) h.reached h.between (asked desk.closed)
  where
    asked : (b : Bool) → HasRoom w (moment_between b)
    asked true = tt
    asked false = tt

-- some events that show this lead to a world of that desk, without lookers, and acknowledge these
abbrev pub Reaches : World → (List Event → Type 0) → DeskState → List Ack → Type 0
Reaches w Part desk acks = (list : List Event) × Part list × IsDeskOf desk (run_from w list) × AreOffline (run_from w list) × ((run_from w list).acks ≡ w.acks ++ acks)

-- those of a command's turn
abbrev Turned : World → Command → Option Mishap → Turn DeskState → Type 0
Turned w command mishap turn = Reaches w (λ list. ShowsTurn w list command mishap turn.reply) turn.desk (reply_acks command turn.reply)

module _ (w : World) (desk : DeskState) (h : IsDeskOf desk w) (all : AreOffline w) where
  pub nothing_done : (Part : List Event → Type 0) → Part [] → Reaches w Part desk []
  nothing_done Part part = ([], part, h, all, sym (append-nil w.acks))

  -- a reclaim leaves the desk's world as it is, with room
  pub reclaimed : IsDeskOf desk (step w events.Reclaim).world × AreOffline (step w events.Reclaim).world × (has_room (step w events.Reclaim).world ≡ true)
  reclaimed =
      let moment = moment_between desk.closed in
      let runs : world.is_stopped w.phase ≡ false = ap world.is_stopped h.between ∙ going desk.closed in
      let is : step w events.Reclaim ≡ world.reclaim w = ap (λ b. cond b (world.unmet w) (world.reclaim w)) runs in
      let there = stays_there (spot (line_at w) w.disk moment) w events.Reclaim refl (between_there w desk h) in (
        desk_of desk (line_at w) w.disk moment (step w events.Reclaim).world there refl h.published h.stored,
        subst (λ (s : Step). AreOffline s.world) (sym is) all,
        ap (λ (s : Step). has_room s.world) is ∙ room_then w all,
      )

  acted : (command : Command) (mishap : Option Mishap) → (desk.closed ≡ false → refusal desk.published command ≡ None → HasRoomFor (step w events.Reclaim).world mishap) → Turned w command mishap (command_turn desk command mishap)
  acted command mishap room =
      let v : World = (step w events.Reclaim).world in
      let list = desk_events desk command mishap in
      let is = plain command desk.closed (refusal desk.published command) mishap in
      let t = turn_is_steps desk v command mishap reclaimed.0 room list is.1 in
      let written : own list ≡ events_by command desk.closed (refusal (published_version w) command) mishap = is.2 ∙ ap (λ (s : State). events_by command desk.closed (refusal s command) mishap) (sym h.published) in
      let kept : v.acks ≡ w.acks = event_keeps w events.Reclaim refl in (
        events.Reclaim ∷ list,
        inl (desk.closed, h.between, written, t.0),
        t.1,
        list_seats list is.0 v ∙ reclaimed.1,
        t.2 ∙ ap (λ acks. acks ++ reply_acks command (command_turn desk command mishap).reply) kept,
      )

  -- refused for want of room, unless for another reason
  without_room : (command : Command) (shuts : Bool) (reason : Option Refusal) → desk.closed ≡ shuts → refusal desk.published command ≡ reason → Turned w command (Some no_room) (command_turn desk command (Some no_room))
  without_room command true reason is asked = acted command (Some no_room) (λ closed _. absurd (let both : true ≡ false = sym is ∙ closed in cc))
  without_room command false (Some why) is asked = acted command (Some no_room) (λ _ allowed. absurd (let both : Some why ≡ None = sym asked ∙ allowed in cc))
  without_room command false None is asked =
      let turn : command_turn desk command (Some no_room) ≡ record { reply = Refused Busy; desk = desk } =
      ap (λ b. command_or_refusal desk command b (refusal desk.published command) (Some no_room)) is ∙ ap (λ r. command_or_refusal desk command false r (Some no_room)) asked in
      subst (Turned w command (Some no_room)) (sym turn) ([], inr (refl, refl, refl), h, all, sym (append-nil w.acks))

  commanded : (command : Command) (mishap : Option Mishap) → Turned w command mishap (command_turn desk command mishap)
  commanded command (Some no_room) = without_room command desk.closed (refusal desk.published command) refl refl
  commanded command (Some no_memory) = acted command (Some no_memory) (λ _ _. tt)
  commanded command mishap = acted command mishap (λ _ _. reclaimed.2)

  -- a lookup shows the answer of the published version, and leaves all but the answers as they were
  looked : (packet : Packet) → Reaches w (λ list. ShowsAnswer w list (Get packet) (Answered (query_text desk.published (Get packet)))) desk []
  looked packet =
      let answer : Answer = world.answer_by (published_version w) packet in
      let l = looks_up w packet (ap world.is_stopped h.between ∙ going desk.closed) all in (
        lookup_events packet,
        (refl, answer, l.0, ap (λ (s : State). Answered (answer_text (world.answer_by s packet) ++ codes "\n")) (sym h.published)),
        record { reached = reached_run w (lookup_events packet) h.reached; between = ap (λ (v : World). v.phase) l.1 ∙ h.between; published = ap published_version l.1 ∙ h.published; stored = ap (λ (v : World). v.disk) l.1 ∙ h.stored },
        ap (λ (v : World). v.lookers) l.1 ∙ seat_back w.lookers (online w.noted None) (online w.noted (Some w.published)) all,
        ap (λ (v : World). v.acks) l.1 ∙ sym (append-nil w.acks),
      )

  answered : (query : Query) → Reaches w (λ list. ShowsAnswer w list query (Answered (query_text desk.published query))) desk []
  answered (RouteShow selector) = nothing_done (λ list. ShowsAnswer w list (RouteShow selector) (Answered (query_text desk.published (RouteShow selector)))) (refl, ap (λ (s : State). Answered (query_text s (RouteShow selector))) (sym h.published))
  answered RuleShow = nothing_done (λ list. ShowsAnswer w list RuleShow (Answered (query_text desk.published RuleShow))) (refl, ap (λ (s : State). Answered (query_text s RuleShow)) (sym h.published))
  answered (Get packet) = looked packet

  queried : (query : Query) (mishap : Option Mishap) → Reaches w (λ list. AnswersOrNot w list query mishap (query_turn desk query mishap).reply) (query_turn desk query mishap).desk []
  queried query (Some no_memory) = nothing_done (λ list. AnswersOrNot w list query (Some no_memory) (Refused NoMemory)) (refl, refl)
  queried query mishap = answered query

  lined : (asked : Result (Option Request) Refusal) (mishap : Option Mishap)
      → Reaches w (λ list. ShowsReply w list asked mishap (turn_on request_turn desk asked mishap).reply) (turn_on request_turn desk asked mishap).desk (request_acks asked (turn_on request_turn desk asked mishap).reply)
  lined (Err reason) mishap = nothing_done (λ list. ShowsReply w list (Err reason) mishap (Refused reason)) (refl, refl)
  lined (Ok None) mishap = nothing_done (λ list. ShowsReply w list (Ok None) mishap Silent) (refl, refl)
  lined (Ok (Some (requests.Command command))) mishap = commanded command mishap
  lined (Ok (Some (requests.Query query))) mishap = queried query mishap

-- ---- a script

pub script_is_run : ScriptIsRun
unfolding session.line_turn
script_is_run [] before after w h all path = subst (λ (d : DeskState). (parts : List (List Event)) × Lines w [] parts × IsDeskOf d (run_from w (joined parts)) × AreOffline (run_from w (joined parts)) × ((run_from w (joined parts)).acks ≡ w.acks ++ [])) (sym path) ([], refl, h, all, sym (append-nil w.acks))
script_is_run (x ∷ xs) before after w h all path =
    let first = lined w before h all (reading x.line) x.mishap in
    let v : World = run_from w first.0 in
    let rest = script_is_run xs (turn_on request_turn before (reading x.line) x.mishap).desk after v first.2 first.3 path.2 in
    let ran : run_from w (first.0 ++ joined rest.0) ≡ run_from v (joined rest.0) = run_more w first.0 (joined rest.0) in
    let told : (run_from w first.0).acks ≡ w.acks ++ request_acks (reading x.line) x.reply = first.4 ∙ ap (λ reply. w.acks ++ request_acks (reading x.line) reply) (sym path.1) in (
      first.0 ∷ rest.0,
      (subst (λ (reply : Reply). ShowsReply w first.0 (reading x.line) x.mishap reply) (sym path.1) first.1, rest.1),
      subst (IsDeskOf after) (sym ran) rest.2,
      subst AreOffline (sym ran) rest.3,
      ap (λ (u : World). u.acks) ran ∙ rest.4 ∙ ap (λ acks. acks ++ accepted_in xs) told ∙ append_assoc w.acks (request_acks (reading x.line) x.reply) (accepted_in xs),
    )

pub desk_has_room : DeskHasRoom
desk_has_room desk w h all = (reclaimed w desk h all).2

-- ---- opened again

pub reopened_desk : ReopenedDesk
reopened_desk desk w h =
    let moment = moment_between desk.closed in
    let a = stops (line_at w) w.disk moment w (going desk.closed) (between_there w desk h) in
    let v : World = (step w (events.Stop Lost)).world in
    let opened : Line = record { book = (line_at w).book; base = w.disk; list = [] } in
    let b = reopens (line_at w) opened w.disk v refl refl a.1 in
    let is : step v events.Reopen ≡ world.reopen v world.Stopped = ap (world.reopen v) a.1.moment in (
      desk_of (settled desk.stored) opened w.disk world.Ready (step v events.Reopen).world b.1 refl h.stored h.stored,
      subst (λ (s : Step). AreOffline s.world) (sym is) refl,
      event_keeps v events.Reopen refl ∙ event_keeps w (events.Stop Lost) refl,
    )

-- ---- the answers that replies report

module _ (P : Lookup → Type 0) where
  get_tells : (w : World) (part : List Event) (packet : Packet) (reply : Reply) → ShowsAnswer w part (Get packet) reply → Each P (run_from w part).answers → Tells P (Ok (Some (requests.Query (Get packet)))) reply
  get_tells w part packet reply shows all =
      let b : World = run_from w (events.Online 0 ∷ events.Fetch 0 ∷ []) in
      let c : World = (step b (events.Look 0 packet)).world in
      let given : Each P (run_from c (events.Offline 0 ∷ [])).answers = subst (λ (list : List Event). Each P (run_from w list).answers) shows.0 all in
      let shown : (step b (events.Look 0 packet)).outcome ≡ outcomes.Answered shows.1 = ap (λ (os : List Outcome). get_or os 2 outcomes.Nothing) (sym (ap (outcomes_from w) shows.0) ∙ shows.2) in
      let held = unless_shows P b packet (looker_state b 0) shows.1 (world.is_stopped b.phase) shown (list_had P (events.Offline 0 ∷ []) c given) in
      subst (Tells P (Ok (Some (requests.Query (Get packet))))) (sym shows.3) (shows.1, refl, held)

  query_tells : (w : World) (part : List Event) (query : Query) (reply : Reply) → ShowsAnswer w part query reply → Each P (run_from w part).answers → Tells P (Ok (Some (requests.Query query))) reply
  query_tells w part (RouteShow selector) reply shows all = tt
  query_tells w part RuleShow reply shows all = tt
  query_tells w part (Get packet) reply shows all = get_tells w part packet reply shows all

  query_or_not : (w : World) (part : List Event) (query : Query) (mishap : Option Mishap) (reply : Reply) → AnswersOrNot w part query mishap reply → Each P (run_from w part).answers → Tells P (Ok (Some (requests.Query query))) reply
  query_or_not w part query (Some no_memory) reply shows all = subst (Tells P (Ok (Some (requests.Query query)))) (sym shows.1) (unanswered query)
    where
      unanswered : (query : Query) → Tells P (Ok (Some (requests.Query query))) (Refused NoMemory)
      unanswered (Get packet) = tt
      unanswered query = tt
  query_or_not w part query mishap reply shows all = query_tells w part query reply shows all

  line_tells : (w : World) (part : List Event) (asked : Result (Option Request) Refusal) (mishap : Option Mishap) (reply : Reply) → ShowsReply w part asked mishap reply → Each P (run_from w part).answers → Tells P asked reply
  line_tells w part (Err reason) mishap reply shows all = tt
  line_tells w part (Ok None) mishap reply shows all = tt
  line_tells w part (Ok (Some (requests.Command command))) mishap reply shows all = tt
  line_tells w part (Ok (Some (requests.Query query))) mishap reply shows all = query_or_not w part query mishap reply shows all

  pub lines_tell : (xs : List (Exchange Mishap)) (w : World) (parts : List (List Event)) → Lines w xs parts → Each P (run_from w (joined parts)).answers → AllTell P xs
  lines_tell [] w parts lines all = tt
  lines_tell (x ∷ xs) w [] lines all = absurd lines
  lines_tell (x ∷ xs) w (part ∷ parts) lines all =
      let v : World = run_from w part in
      let there : Each P (run_from v (joined parts)).answers = subst (λ (u : World). Each P u.answers) (run_more w part (joined parts)) all in
      (line_tells w part (reading x.line) x.mishap x.reply lines.0 (list_had P (joined parts) v there), lines_tell xs v parts lines.1 there)
