-- The turns of a desk's definition, beside the world's events.
use Rattle.std.specs.Prelude.{find, ℕ, ◌≤◌, length, ◌≡◌, ◌⊎◌, ◌++◌, Bool, true, false, List, [], ◌∷◌, replicate, Option, Some, None, Result, Ok, Err, codes, ⊤}
use Rattle.std.specs.List.{AllByRecursion as Each}
use Rattle.prt_refusals.specs.declared.refusal.Refusal.{Refusal}
use Rattle.prt_refusals.specs.declared.refusal.Refusal.TheVariants.{Busy, NoMemory}
use Rattle.prt_refusals.specs.declared.refusal.StoreCall.TheVariants.{Commit}
use Rattle.prt_command.specs.Reading.{reading}
use Rattle.prt_command.specs.declared.request.Command.{Command}
use Rattle.prt_command.specs.declared.request.Query.{Query}
use Rattle.prt_command.specs.declared.request.Query.TheVariants.{Get}
use Rattle.prt_command.specs.declared.request.Request.{Request}
use Rattle.prt_command.specs.declared.request.Request.TheVariants as requests
use Rattle.prt_grace.specs.declared.limits.TheConstants.{PLACES}
use Rattle.prt_listing.specs.AnswerText.{answer_text}
use Rattle.prt_listing.specs.QueryText.{query_text}
use Rattle.prt_rule.specs.declared.packet.Packet.{Packet}
use Rattle.prt_session.specs.Atomic.{atomic_output, collected, list_replies}
use Rattle.prt_session.specs.Desk.{Befalls, DeskState, Mishap, command_turn, commands_turn, commit_kept, no_memory, no_room, publication_fails}
use Rattle.prt_session.specs.Desk.{request_turn, settled, store_fails}
use Rattle.prt_replies.specs.Reply.{is_refused}
use Rattle.prt_replies.specs.Input.{Input}
use Rattle.prt_session.specs.Session.{Exchange, Path, replies}
use Rattle.prt_session.specs.Steps.{reply_of}
use Rattle.prt_replies.specs.declared.reply.Reply.{Reply}
use Rattle.prt_replies.specs.declared.reply.Reply.TheVariants.{Accepted, Answered, Refused, Silent}
use Rattle.prt_version.specs.Accepted.{refusal_all}
use Rattle.prt_version.specs.Change.{refusal}
use Rattle.prt_version.specs.State.{State, opening_state}
use Rattle.prt_version.specs.declared.answer.Answer.{Answer}
use Rattle.prt_replay.specs.Durability.{IsAnswered}
use Rattle.prt_replay.specs.World as world
use Rattle.prt_replay.specs.World.{Ack, Lookup, Phase as Moment, World, has_room, offline, outcomes_from, published_version, run_from, step}
use Rattle.prt_replay.specs.declared.event.Event.{Event}
use Rattle.prt_replay.specs.declared.event.Event.TheVariants as events
use Rattle.prt_replay.specs.declared.event.Fate.TheVariants.{Kept, Lost}
use Rattle.prt_replay.specs.declared.outcome.Outcome.{Outcome}
use Rattle.prt_replay.specs.declared.outcome.Outcome.TheVariants as outcomes
use Rattle.prt_laws.specs.Events.{acks_to, asked, fail_events, own, own_outcomes, submit_events, unpublished_events}
use Rattle.prt_laws.specs.Runs.{HoldsAll}
use Rattle.prt_laws.specs.Spots.{IsReached}

-- ---- a desk and a world

-- between commands
abbrev pub moment_between : Bool → Moment
moment_between true = world.Closed
moment_between false = world.Ready

-- The world publishes what the desk does, has on disk what is stored there, and is closed if the desk is.
pub record IsDeskOf (desk : DeskState) (w : World) : Type 0 where
  pub reached : IsReached w
  pub between : w.phase ≡ moment_between desk.closed
  pub published : published_version w ≡ desk.published
  pub stored : w.disk ≡ desk.stored

-- ---- one turn

-- the events of what is refused for nothing, by what befalls it
abbrev pub submitted_events : Event → Option Mishap → List Event
submitted_events event None = submit_events event
submitted_events event (Some no_room) = event ∷ []
submitted_events event (Some no_memory) = []
submitted_events event (Some (store_fails call)) = event ∷ fail_events (asked event) call Lost
submitted_events event (Some commit_kept) = event ∷ fail_events (asked event) Commit Kept
submitted_events event (Some publication_fails) = unpublished_events event

abbrev pub events_by : Command → Bool → Option Refusal → Option Mishap → List Event
events_by command true reason mishap = events.Submit command ∷ []
events_by command false (Some reason) mishap = events.Submit command ∷ []
events_by command false None mishap = submitted_events (events.Submit command) mishap

-- the events of a turn
abbrev pub desk_events : DeskState → Command → Option Mishap → List Event
desk_events desk command mishap = events_by command desk.closed (refusal desk.published command) mishap

-- of commands together: if memory is refused at the one that is refused, or at one before it, nothing is submitted
abbrev pub list_events_by : List Command → Bool → Option Refusal → Option Mishap → List Event
list_events_by commands true reason mishap = events.SubmitAll commands ∷ []
list_events_by commands false (Some reason) (Some no_memory) = []
list_events_by commands false (Some reason) mishap = events.SubmitAll commands ∷ []
list_events_by commands false None mishap = submitted_events (events.SubmitAll commands) mishap

abbrev pub list_events : DeskState → List Command → Option Mishap → List Event
list_events desk commands mishap = list_events_by commands desk.closed (refusal_all desk.published commands) mishap

-- the world has room if the command is to find some, and none if it is to find none
abbrev pub HasRoomFor : World → Option Mishap → Type 0
HasRoomFor w (Some no_room) = has_room w ≡ false
HasRoomFor w (Some no_memory) = Unit {0}
HasRoomFor w mishap = has_room w ≡ true

-- The first of these events, and the others in turn, whatever lookers do after the first.
abbrev pub Weaves : List Event → List Event → Type 0
Weaves [] all = own all ≡ []
Weaves (event ∷ list) all = (more : List Event) × (all ≡ event ∷ more) × (own more ≡ list)

-- what the last outcome reports of the commands: the number of the last, or why none is made
abbrev pub result_by : Result ℕ Refusal → Outcome → Result ℕ Refusal
result_by before (outcomes.Acknowledged number) = Ok number
result_by before (outcomes.Refused reason) = Err reason
result_by before outcome = before

abbrev pub result_after : Result ℕ Refusal → List Outcome → Result ℕ Refusal
result_after before [] = before
result_after before (outcome ∷ outcomes) = result_after (result_by before outcome) outcomes

-- and all that was shown: if nothing was, memory was refused
abbrev pub shown_result : List Outcome → Result ℕ Refusal
shown_result outcomes = result_after (Err NoMemory) outcomes

-- as a reply
abbrev pub shown_reply : List Outcome → Reply
shown_reply outcomes = reply_of (shown_result outcomes)

-- the acknowledgement that a reply is
abbrev pub reply_acks : Command → Reply → List Ack
reply_acks command (Accepted number) = record { number = number; command = command } ∷ []
reply_acks command reply = []

-- Each turn of a command is the world's events: they show its reply, lead to a world of the desk that it leaves, and
-- acknowledge the command if the reply does.
abbrev pub TurnIsSteps : Type 0
TurnIsSteps = (desk : DeskState) (w : World) (command : Command) (mishap : Option Mishap) → IsDeskOf desk w →
    (desk.closed ≡ false → refusal desk.published command ≡ None → HasRoomFor w mishap)
    → (all : List Event) → Weaves (desk_events desk command mishap) all
    → (shown_reply (own_outcomes w all) ≡ (command_turn desk command mishap).reply) × IsDeskOf (command_turn desk command mishap).desk (run_from w all)
    × ((run_from w all).acks ≡ w.acks ++ reply_acks command (command_turn desk command mishap).reply)

-- the acknowledgements that a result is
abbrev pub result_acks : List Command → Result ℕ Refusal → List Ack
result_acks commands (Ok last) = acks_to last commands
result_acks commands (Err reason) = []

-- So is each turn of commands that are made together or not at all: if the result is a number each of them is acknowledged,
-- under its own.
abbrev pub ListIsSteps : Type 0
ListIsSteps = (desk : DeskState) (w : World) (commands : List Command) (mishap : Option Mishap) → 1 ≤ length commands → IsDeskOf desk w
    → (desk.closed ≡ false → refusal_all desk.published commands ≡ None → HasRoomFor w mishap)
    → (all : List Event) → Weaves (list_events desk commands mishap) all
    → (shown_result (own_outcomes w all) ≡ (commands_turn desk commands mishap).result) × IsDeskOf (commands_turn desk commands mishap).desk (run_from w all)
    × ((run_from w all).acks ≡ w.acks ++ result_acks commands (commands_turn desk commands mishap).result)

-- ---- a script

-- no looker is online
abbrev pub AreOffline : World → Type 0
AreOffline w = w.lookers ≡ replicate PLACES offline

abbrev pub request_acks : Result (Option Request) Refusal → Reply → List Ack
request_acks (Ok (Some (requests.Command command))) reply = reply_acks command reply
request_acks request reply = []

-- the commands that the replies acknowledge, with the numbers that they report
abbrev pub accepted_in : {M : Type 0} → List (Exchange M) → List Ack
accepted_in {M} [] = []
accepted_in {M} (x ∷ xs) = request_acks (reading x.line) x.reply ++ accepted_in xs

-- The events of a command, by what befalls it, show its reply. Only a refusal as busy is none, for lack of a looker: then nothing is done.
abbrev pub ShowsTurn : World → List Event → Command → Option Mishap → Reply → Type 0
ShowsTurn w part command mishap reply =
    ((closed : Bool) × (w.phase ≡ moment_between closed)
    × (own part ≡ events_by command closed (refusal (published_version w) command) mishap) × (shown_reply (own_outcomes w part) ≡ reply))
    ⊎ ((mishap ≡ Some no_room) × (reply ≡ Refused Busy) × (part ≡ []))

-- one looker's lookup of a packet
abbrev pub lookup_events : Packet → List Event
lookup_events packet = events.Online 0 ∷ events.Fetch 0 ∷ events.Look 0 packet ∷ events.Offline 0 ∷ []

abbrev pub lookup_outcomes : World → Answer → List Outcome
lookup_outcomes w answer = outcomes.Online 0 w.noted ∷ outcomes.Fetched 0 w.published ∷ outcomes.Answered answer ∷ outcomes.Offline 0 ∷ []

-- `route get` is a lookup, which shows the answer that the reply reports. A listing is one of the published version, and no
-- event.
abbrev pub ShowsAnswer : World → List Event → Query → Reply → Type 0
ShowsAnswer w part (Get packet) reply =
    (part ≡ lookup_events packet) × (answer : Answer) × (outcomes_from w part ≡ lookup_outcomes w answer)
    × (reply ≡ Answered (answer_text answer ++ codes "\n"))
ShowsAnswer w part query reply = (part ≡ []) × (reply ≡ Answered (query_text (published_version w) query))

-- a query that gets no memory does nothing
abbrev pub AnswersOrNot : World → List Event → Query → Option Mishap → Reply → Type 0
AnswersOrNot w part query (Some no_memory) reply = (part ≡ []) × (reply ≡ Refused NoMemory)
AnswersOrNot w part query mishap reply = ShowsAnswer w part query reply

-- the part of one line
abbrev pub ShowsReply : World → List Event → Result (Option Request) Refusal → Option Mishap → Reply → Type 0
ShowsReply w part (Err reason) mishap reply = (part ≡ []) × (reply ≡ Refused reason)
ShowsReply w part (Ok None) mishap reply = (part ≡ []) × (reply ≡ Silent)
ShowsReply w part (Ok (Some (requests.Command command))) mishap reply = ShowsTurn w part command mishap reply
ShowsReply w part (Ok (Some (requests.Query query))) mishap reply = AnswersOrNot w part query mishap reply

-- each line has its part of the events
abbrev pub Lines : World → List (Exchange Mishap) → List (List Event) → Type 0
Lines w [] parts = parts ≡ []
Lines w (x ∷ xs) [] = ⊥
Lines w (x ∷ xs) (part ∷ parts) = ShowsReply w part (reading x.line) x.mishap x.reply × Lines (run_from w part) xs parts

abbrev pub joined : List (List Event) → List Event
joined [] = []
joined (part ∷ parts) = part ++ joined parts

-- any mishap may befall a line
abbrev pub Exchanges : DeskState → List (Exchange Mishap) → DeskState → Type 0
Exchanges before xs after = Path request_turn (Befalls (λ mishap. ⊤)) before xs after

-- The lines of a script are lists of events which show their replies. No looker is online between them. They lead to a world of
-- the desk after them, and acknowledge what the replies do.
abbrev pub ScriptIsRun : Type 0
ScriptIsRun = (xs : List (Exchange Mishap)) (before after : DeskState) (w : World) → IsDeskOf before w → AreOffline w → Exchanges before xs after
    → (parts : List (List Event)) × Lines w xs parts
    × IsDeskOf after (run_from w (joined parts)) × AreOffline (run_from w (joined parts)) × ((run_from w (joined parts)).acks ≡ w.acks ++ accepted_in xs)

-- ---- an atomic file

-- The events of commands together, by what befalls them, show how they end. Only a refusal as busy is none, for lack of a looker: then nothing is done.
abbrev pub ShowsList : World → List Event → List Command → Option Mishap → Result ℕ Refusal → Type 0
ShowsList w part commands mishap result =
    ((closed : Bool) × (w.phase ≡ moment_between closed)
    × (own part ≡ list_events_by commands closed (refusal_all (published_version w) commands) mishap)
    × (shown_result (own_outcomes w part) ≡ result))
    ⊎ ((mishap ≡ Some no_room) × (result ≡ Err Busy) × (part ≡ []))

-- A file whose reading was refused does nothing, and neither does one without a command.
abbrev pub ShowsFile : DeskState → World → List Event → Option Reply → List Command → Option Mishap → List Reply → Type 0
ShowsFile desk w part (Some refused) commands mishap told = (part ≡ []) × (told ≡ refused ∷ [])
ShowsFile desk w part None [] mishap told = (part ≡ []) × (told ≡ [])
ShowsFile desk w part None (command ∷ commands) mishap told =
    (result : Result ℕ Refusal) × ShowsList w part (command ∷ commands) mishap result × (told ≡ list_replies desk (command ∷ commands) result)

-- the commands that the replies acknowledge, with the numbers that they report
abbrev pub replies_acks : List Command → List Reply → List Ack
replies_acks [] replies = []
replies_acks (command ∷ commands) [] = []
replies_acks (command ∷ commands) (reply ∷ replies) = reply_acks command reply ++ replies_acks commands replies

-- how its reading was refused, and what it collected
abbrev pub reading_refused : Input → List (Option Mishap) → Option Reply
reading_refused input mishaps = find is_refused (replies (collected input mishaps))

abbrev pub read_commands : Input → List (Option Mishap) → List Command
read_commands input mishaps = (collected input mishaps).desk

-- An atomic file is a list of events too, which shows its replies: that of its commands together, or none. It leads to a world of
-- the desk after the file, and acknowledges what the replies do.
abbrev pub FileIsRun : Type 0
FileIsRun = (desk : DeskState) (w : World) (input : Input) (mishaps : List (Option Mishap)) (mishap : Option Mishap) → IsDeskOf desk w → AreOffline w
    → (part : List Event) × ShowsFile desk w part (reading_refused input mishaps) (read_commands input mishaps) mishap
    (atomic_output desk input mishaps mishap).replies
    × IsDeskOf (atomic_output desk input mishaps mishap).desk (run_from w part) × AreOffline (run_from w part)
    × ((run_from w part).acks ≡ w.acks ++ replies_acks (read_commands input mishaps) (atomic_output desk input mishaps mishap).replies)

-- ---- between them

-- Such a world has room once it has reclaimed: it refuses no command as busy.
abbrev pub DeskHasRoom : Type 0
DeskHasRoom = (desk : DeskState) (w : World) → IsDeskOf desk w → AreOffline w → has_room (step w events.Reclaim).world ≡ true

-- A desk whose stored state is opened again is a world that was stopped and reopened.
abbrev pub ReopenedDesk : Type 0
ReopenedDesk = (desk : DeskState) (w : World) → IsDeskOf desk w →
    IsDeskOf (settled desk.stored) (run_from w (events.Stop Lost ∷ events.Reopen ∷ []))
    × AreOffline (run_from w (events.Stop Lost ∷ events.Reopen ∷ []))
    × ((run_from w (events.Stop Lost ∷ events.Reopen ∷ [])).acks ≡ w.acks)

-- In each world of a desk, what is stored holds every command that was acknowledged.
abbrev pub DeskHoldsAll : Type 0
DeskHoldsAll = (desk : DeskState) (w : World) → IsDeskOf desk w → HoldsAll w w.acks w.answers desk.stored

-- ---- scripts and atomic files on one database

-- What a run of the program does: a script, or an atomic file, with what befalls it and what it replies.
pub data Work : Type 0 where
  script : (xs : List (Exchange Mishap)) → Work
  file : (input : Input) → (mishaps : List (Option Mishap)) → (mishap : Option Mishap) → (told : List Reply) → Work

abbrev pub Does : DeskState → Work → DeskState → Type 0
Does before (script xs) after = Exchanges before xs after
Does before (file input mishaps mishap told) after =
    (told ≡ (atomic_output before input mishaps mishap).replies) × (after ≡ (atomic_output before input mishaps mishap).desk)

-- Each begins at an open desk on what the one before left stored.
abbrev pub Sessions : State → List Work → State → Type 0
Sessions stored [] left = left ≡ stored
Sessions stored (work ∷ works) left = (desk : DeskState) × Does (settled stored) work desk × Sessions desk.stored works left

-- the commands that its replies acknowledge
abbrev pub work_acks : Work → List Ack
work_acks (script xs) = accepted_in xs
work_acks (file input mishaps mishap told) = replies_acks (read_commands input mishaps) told

abbrev pub accepted_by : List Work → List Ack
accepted_by [] = []
accepted_by (work ∷ works) = work_acks work ++ accepted_by works

-- if the reply answers a `route get`, this holds of the packet and the answer that it reports
abbrev pub Tells : (Lookup → Type 0) → Result (Option Request) Refusal → Reply → Type 0
Tells P (Ok (Some (requests.Query (Get packet)))) (Answered text) =
    (answer : Answer) × (text ≡ answer_text answer ++ codes "\n") × P (record { packet = packet; answer = answer })
Tells P request reply = Unit {0}

abbrev pub AllTell : (Lookup → Type 0) → List (Exchange Mishap) → Type 0
AllTell P xs = Each (λ x. Tells P (reading x.line) x.reply) xs

-- an atomic file has no query
abbrev pub WorkTells : (Lookup → Type 0) → Work → Type 0
WorkTells P (script xs) = AllTell P xs
WorkTells P (file input mishaps mishap told) = Unit {0}

-- What any number of scripts and atomic files on a new database leave is on disk in a world that acknowledged what their replies
-- do. It holds all of that, and the version by which each `route get` was answered.
abbrev pub SessionsHold : Type 0
SessionsHold = (works : List Work) (left : State) → Sessions opening_state works left →
    (v : World) × IsReached v × (v.disk ≡ left) × (v.acks ≡ accepted_by works)
    × HoldsAll v (accepted_by works) v.answers left × Each (WorkTells (IsAnswered v)) works
