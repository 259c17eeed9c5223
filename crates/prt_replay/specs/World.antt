-- What a service, its disk and its lookers hold, and what one event does to them. Lookers announce the versions that they
-- may hold, and a version goes when nobody can hold it any more: Desnoyers et al. 2012.
use Rattle.std.specs.Prelude.{ℕ, ◌+◌, ◌-◌, ◌==◌, nat_lt, Bool, true, false, if◌then◌else◌, List, [], ◌∷◌, ◌++◌, length, map, take, filter, find}
use Rattle.std.specs.Prelude.{replicate, slice_index_or, slice_set, Option, Some, None, unwrap_or}
use Rattle.prt_refusals.specs.declared.refusal.Refusal.{Refusal}
use Rattle.prt_refusals.specs.declared.refusal.Refusal.TheVariants as refusals
use Rattle.prt_refusals.specs.declared.refusal.StoreCall.{StoreCall}
use Rattle.prt_refusals.specs.declared.refusal.StoreCall.TheVariants as calls
use Rattle.prt_command.specs.declared.request.Command.{Command}
use Rattle.prt_grace.specs.GracePeriod.{after_reclaim, is_retired}
use Rattle.prt_grace.specs.declared.limits.TheConstants.{MOST_RETIRED, PLACES}
use Rattle.prt_rule.specs.declared.packet.Packet.{Packet}
use Rattle.prt_version.specs.Accepted.{refusal_all}
use Rattle.prt_version.specs.Change.{fold}
use Rattle.prt_version.specs.Select.{select}
use Rattle.prt_version.specs.State.{State, opening_state}
use Rattle.prt_version.specs.declared.answer.Answer.{Answer}
use Rattle.prt_replay.specs.declared.event.Event.{Event}
use Rattle.prt_replay.specs.declared.event.Event.TheVariants as events
use Rattle.prt_replay.specs.declared.event.Fate.{Fate}
use Rattle.prt_replay.specs.declared.event.Fate.TheVariants.{Kept}
use Rattle.prt_replay.specs.declared.outcome.Outcome.{Outcome}
use Rattle.prt_replay.specs.declared.outcome.Outcome.TheVariants as outcomes

-- ---- the world

-- How far the commands that are under way together have come.
pub data Phase : Type 0 where
  -- no command is under way
  Ready : Phase
  -- the commands were checked; the rows of so many of them are written, and this store call is the next
  Prepared : (commands : List Command) → (written : ℕ) → (next : StoreCall) → Phase
  -- the transaction of the commands is committed
  Committed : (commands : List Command) → Phase
  -- the version after the commands is published
  Published : (commands : List Command) → Phase
  -- the registry has noted that version
  Noted : (commands : List Command) → Phase
  -- a store call or a publication failed, and no command is accepted any more
  Closed : Phase
  -- the service is stopped
  Stopped : Phase

-- A looker: offline, or online with the number that it announced and that of the version which it holds, if it holds one.
pub data LookerState : Type 0 where
  offline : LookerState
  online : (announced : ℕ) → (held : Option ℕ) → LookerState

-- A command that was acknowledged, with its number.
pub record Ack : Type 0 where
  pub number : ℕ
  pub command : Command

-- A packet that was looked up, with the answer.
pub record Lookup : Type 0 where
  pub packet : Packet
  pub answer : Answer

pub record World : Type 0 where
  -- the commands that were accepted, in order
  pub accepted : List Command
  -- the commands that were accepted last, together; [] after an opening, until there are some
  pub last : List Command
  pub disk : State
  -- what the open transaction holds; the same as the disk if none is open
  pub pending : State
  pub phase : Phase
  -- the numbers of the version that was published last, and of the one that the registry noted last
  pub published : ℕ
  pub noted : ℕ
  -- the versions that are kept; the number of each is its count
  pub versions : List State
  pub lookers : List LookerState
  -- every acknowledgement and every answer that was given
  pub acks : List Ack
  pub answers : List Lookup

-- a new database, opened
abbrev pub start : World
start = record {
  accepted = [];
  last = [];
  disk = opening_state;
  pending = opening_state;
  phase = Ready;
  published = 0;
  noted = 0;
  versions = opening_state ∷ [];
  lookers = replicate PLACES offline;
  acks = [];
  answers = [];
}

-- how many commands are durable
abbrev pub durable : World → ℕ
durable world = world.disk.count

-- the version of a number, if it is kept
abbrev pub kept : List State → ℕ → Option State
kept versions number = find (λ state. state.count == number) versions

-- the version of a number that is kept, as every number is that is asked for; otherwise that of a new database
abbrev pub version : World → ℕ → State
version world number = unwrap_or (kept world.versions number) opening_state

abbrev pub published_version : World → State
published_version world = version world world.published

-- the state of a looker
abbrev pub looker_state : World → ℕ → LookerState
looker_state world looker = slice_index_or world.lookers looker offline

-- ---- what an event does

-- The world after an event, and what the event shows.
pub record Step : Type 0 where
  pub world : World
  pub outcome : Outcome

-- an event whose condition fails changes nothing
abbrev pub unmet : World → Step
unmet world = record { world = world; outcome = outcomes.Nothing }

-- ---- commands that are made together

-- one more version can be retired
abbrev pub has_room : World → Bool
has_room world = nat_lt (length (filter (λ state. is_retired world.noted state.count) world.versions)) MOST_RETIRED

-- the commands are under way, unless there is a reason to refuse one of them, or no room
abbrev pub prepare : World → List Command → Option Refusal → Bool → Step
prepare world commands (Some reason) room = record { world = world; outcome = outcomes.Refused reason }
prepare world commands None false = record { world = world; outcome = outcomes.Refused refusals.Busy }
prepare world commands None true =
    record { world = record world { phase = Prepared commands 0 calls.Begin }; outcome = outcomes.Prepared (world.published + length commands) }

abbrev pub submit : World → List Command → Phase → Step
submit world [] phase = unmet world
submit world (first ∷ more) Ready = prepare world (first ∷ more) (refusal_all (published_version world) (first ∷ more)) (has_room world)
submit world (first ∷ more) Closed = record { world = world; outcome = outcomes.Refused refusals.Closed }
submit world (first ∷ more) phase = unmet world

-- ---- a store call

abbrev pub with_count : ℕ → State → State
with_count count state = record state { count = count }

-- the transaction begins, and the commands are accepted
abbrev pub begun : World → List Command → World
begun world commands = record world { accepted = world.accepted ++ commands; last = commands; pending = world.disk; phase = Prepared commands 0 calls.Write }

-- the call after so many writes of so many
abbrev pub call_after : ℕ → ℕ → StoreCall
call_after done all = if nat_lt done all then calls.Write else calls.Count

-- the rows of one command more are written, under the old count
abbrev pub written : World → List Command → ℕ → World
written world commands done = record world {
  pending = with_count world.disk.count (fold world.disk (take (done + 1) commands));
  phase =
      Prepared commands (done + 1) (call_after (done + 1) (length commands));
}

-- the count is written
abbrev pub counted : World → List Command → World
counted world commands = record world {
  pending = with_count (world.disk.count + length commands) world.pending;
  phase =
      Prepared commands (length commands) calls.Commit;
}

abbrev pub committed : World → List Command → World
committed world commands = record world { disk = world.pending; phase = Committed commands }

-- the next store call succeeds
abbrev pub call : World → Phase → Step
call world (Prepared commands done calls.Begin) = record { world = begun world commands; outcome = outcomes.Called calls.Begin }
call world (Prepared commands done calls.Write) = record { world = written world commands done; outcome = outcomes.Called calls.Write }
call world (Prepared commands done calls.Count) = record { world = counted world commands; outcome = outcomes.Called calls.Count }
call world (Prepared commands done calls.Commit) = record { world = committed world commands; outcome = outcomes.Called calls.Commit }
call world phase = unmet world

-- ---- a stop

-- what a stop leaves on the disk: within the commit call all that is pending, or nothing of it
abbrev pub stopped : World → Fate → Phase → State
stopped world Kept (Prepared commands done calls.Commit) = world.pending
stopped world fate phase = world.disk

-- the disk after a stop, and no transaction
abbrev pub with_disk : World → State → Phase → World
with_disk world state phase = record world { disk = state; pending = state; phase = phase }

-- the next store call fails: whether the commands are durable is reported to nobody
abbrev pub fail : World → Fate → Phase → Step
fail world fate (Prepared commands done next) =
    record {
      world = with_disk world (stopped world fate (Prepared commands done next)) Closed;
      outcome =
          outcomes.Refused (refusals.StoreFailed next);
    }
fail world fate phase = unmet world

abbrev pub stop : World → Fate → Step
stop world fate = record { world = with_disk world (stopped world fate world.phase) Stopped; outcome = outcomes.Stopped }

-- opened again: the accepted commands are the durable ones, and nothing is left of versions and lookers but the disk's
abbrev pub reopened : World → World
reopened world = record {
  accepted = take (durable world) world.accepted;
  last = [];
  disk = world.disk;
  pending = world.disk;
  phase = Ready;
  published = durable world;
  noted = durable world;
  versions = world.disk ∷ [];
  lookers = replicate PLACES offline;
  acks = world.acks;
  answers = world.answers;
}

abbrev pub reopen : World → Phase → Step
reopen world Closed = record { world = reopened world; outcome = outcomes.Reopened (durable world) }
reopen world Stopped = record { world = reopened world; outcome = outcomes.Reopened (durable world) }
reopen world phase = unmet world

-- ---- the version of committed commands

abbrev pub publish : World → Phase → Step
publish world (Committed commands) = record {
  world = record world { versions = world.versions ++ fold (published_version world) commands ∷ []; published = durable world; phase = Published commands };
  outcome = outcomes.Published (durable world);
}
publish world phase = unmet world

abbrev pub fail_publication : World → Phase → Step
fail_publication world (Committed commands) = record { world = record world { phase = Closed }; outcome = outcomes.Refused refusals.NotPublished }
fail_publication world phase = unmet world

-- the registry notes the published version, which retires the one before
abbrev pub note : World → Phase → Step
note world (Published commands) = record { world = record world { noted = world.published; phase = Noted commands }; outcome = outcomes.Noted world.published }
note world phase = unmet world

-- each command with its number, the first with the one after n
abbrev pub acks_after : ℕ → List Command → List Ack
acks_after n [] = []
acks_after n (command ∷ commands) = record { number = n + 1; command = command } ∷ acks_after (n + 1) commands

-- each command is acknowledged with its own number; the last number is shown
abbrev pub acknowledge : World → Phase → Step
acknowledge world (Noted commands) = record {
  world = record world { acks = world.acks ++ acks_after (world.published - length commands) commands; phase = Ready };
  outcome = outcomes.Acknowledged world.published;
}
acknowledge world phase = unmet world

-- ---- lookers

abbrev pub with_looker : World → ℕ → LookerState → World
with_looker world looker state = record world { lookers = slice_set world.lookers looker state }

-- announces the noted number, and holds nothing
abbrev pub go_online : World → ℕ → LookerState → Step
go_online world looker offline = record { world = with_looker world looker (online world.noted None); outcome = outcomes.Online looker world.noted }
go_online world looker state = unmet world

-- holds the published version
abbrev pub fetch : World → ℕ → LookerState → Step
fetch world looker (online announced held) =
    record { world = with_looker world looker (online announced (Some world.published)); outcome = outcomes.Fetched looker world.published }
fetch world looker offline = unmet world

-- announces the number of the version that it holds
abbrev pub announce : World → ℕ → LookerState → Step
announce world looker (online announced (Some held)) =
    record { world = with_looker world looker (online held (Some held)); outcome = outcomes.Announced looker held }
announce world looker state = unmet world

abbrev pub go_offline : World → ℕ → LookerState → Step
go_offline world looker (online announced held) = record { world = with_looker world looker offline; outcome = outcomes.Offline looker }
go_offline world looker offline = unmet world

-- the answer of a version
abbrev pub answer_by : State → Packet → Answer
answer_by state packet = record { number = state.count; verdict = select state packet }

-- looks a packet up in the version that it holds
abbrev pub look : World → Packet → LookerState → Step
look world packet (online announced (Some held)) = record {
  world = record world { answers = world.answers ++ record { packet = packet; answer = answer_by (version world held) packet } ∷ [] };
  outcome = outcomes.Answered (answer_by (version world held) packet);
}
look world packet state = unmet world

-- ---- reclaiming

-- the number that an online looker announced
abbrev pub announced_by : LookerState → Option ℕ
announced_by offline = None
announced_by (online announced held) = Some announced

-- the versions that a looker may hold, and those that are not retired
abbrev pub kept_versions : World → List State
kept_versions world = after_reclaim (λ state. state.count) world.noted (map announced_by world.lookers) world.versions

abbrev pub reclaim : World → Step
reclaim world = record {
  world = record world { versions = kept_versions world };
  outcome = outcomes.Reclaimed (length world.versions - length (kept_versions world));
}

-- ---- one event, and many

abbrev pub is_stopped : Phase → Bool
is_stopped Stopped = true
is_stopped phase = false

abbrev pub unless_stopped : World → Step → Step
unless_stopped world step = if is_stopped world.phase then unmet world else step

abbrev pub step : World → Event → Step
step world (events.Submit command) = submit world (command ∷ []) world.phase
step world (events.SubmitAll commands) = submit world commands world.phase
step world events.Call = call world world.phase
step world (events.Fail fate) = fail world fate world.phase
step world events.Publish = publish world world.phase
step world events.PublishFail = fail_publication world world.phase
step world events.Note = note world world.phase
step world events.Ack = acknowledge world world.phase
step world (events.Online looker) = unless_stopped world (go_online world looker (looker_state world looker))
step world (events.Fetch looker) = unless_stopped world (fetch world looker (looker_state world looker))
step world (events.Announce looker) = unless_stopped world (announce world looker (looker_state world looker))
step world (events.Offline looker) = unless_stopped world (go_offline world looker (looker_state world looker))
step world (events.Look looker packet) = unless_stopped world (look world packet (looker_state world looker))
step world events.Reclaim = unless_stopped world (reclaim world)
step world (events.Stop fate) = unless_stopped world (stop world fate)
step world events.Reopen = reopen world world.phase

-- the world after these events
abbrev pub run_from : World → List Event → World
run_from world [] = world
run_from world (event ∷ events) = run_from (step world event).world events

-- what each of them shows
abbrev pub outcomes_from : World → List Event → List Outcome
outcomes_from world [] = []
outcomes_from world (event ∷ events) = (step world event).outcome ∷ outcomes_from (step world event).world events
