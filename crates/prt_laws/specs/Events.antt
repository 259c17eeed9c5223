-- The events of a publisher's calls, apart from those of lookers.
use Rattle.std.specs.Prelude.{ℕ, ◌≤◌, ◌-◌, ◌++◌, Bool, true, false, not, if◌then◌else◌, List, [], ◌∷◌, filter, length}
use Rattle.prt_refusals.specs.declared.refusal.Refusal.TheVariants as refusals
use Rattle.prt_refusals.specs.declared.refusal.StoreCall.{StoreCall}
use Rattle.prt_refusals.specs.declared.refusal.StoreCall.TheVariants as calls
use Rattle.prt_command.specs.declared.request.Command.{Command}
use Rattle.prt_published.specs.Line.{Line, line_state}
use Rattle.prt_replay.specs.World.{Ack, World, step}
use Rattle.prt_replay.specs.declared.event.Event.{Event}
use Rattle.prt_replay.specs.declared.event.Event.TheVariants as events
use Rattle.prt_replay.specs.declared.event.Fate.{Fate}
use Rattle.prt_replay.specs.declared.event.Fate.TheVariants.{Lost}
use Rattle.prt_replay.specs.declared.outcome.Outcome.{Outcome}
use Rattle.prt_replay.specs.declared.outcome.Outcome.TheVariants as outcomes

-- ---- the events of lookers, and the publisher's own

-- the commands that an event submits
abbrev pub asked : Event → List Command
asked (events.Submit command) = command ∷ []
asked (events.SubmitAll commands) = commands
asked event = []

-- it submits one command, or those of a file
abbrev pub AsksSome : Event → Type 0
AsksSome event = 1 ≤ length (asked event)

-- an event of a looker, or a reclaim
abbrev pub is_lookers : Event → Bool
is_lookers (events.Online looker) = true
is_lookers (events.Fetch looker) = true
is_lookers (events.Announce looker) = true
is_lookers (events.Offline looker) = true
is_lookers (events.Look looker packet) = true
is_lookers events.Reclaim = true
is_lookers event = false

-- no stop, and no opening
abbrev pub is_going : Event → Bool
is_going (events.Stop fate) = false
is_going events.Reopen = false
is_going event = true

-- the same event, whichever fate a failure has
abbrev pub without_fate : Event → Event
without_fate (events.Fail fate) = events.Fail Lost
without_fate event = event

-- the publisher's own, in order
abbrev pub own : List Event → List Event
own list = filter (λ event. not (is_lookers event)) list

-- and what they show
abbrev pub own_outcomes : World → List Event → List Outcome
own_outcomes w [] = []
own_outcomes w (event ∷ list) =
    if is_lookers event then own_outcomes (step w event).world list else (step w event).outcome ∷ own_outcomes (step w event).world list

-- ---- the events of each call, and what they show

-- the rows of each command are written
abbrev pub write_events : List Command → List Event
write_events [] = []
write_events (command ∷ commands) = events.Call ∷ write_events commands

abbrev pub write_outcomes : List Command → List Outcome
write_outcomes [] = []
write_outcomes (command ∷ commands) = outcomes.Called calls.Write ∷ write_outcomes commands

-- the calls before this one: of the writes before the first
abbrev pub events_before : List Command → StoreCall → List Event
events_before commands calls.Begin = []
events_before commands calls.Write = events.Call ∷ []
events_before commands calls.Count = events.Call ∷ write_events commands
events_before commands calls.Commit = events.Call ∷ (write_events commands ++ events.Call ∷ [])

abbrev pub outcomes_before : List Command → StoreCall → List Outcome
outcomes_before commands calls.Begin = []
outcomes_before commands calls.Write = outcomes.Called calls.Begin ∷ []
outcomes_before commands calls.Count = outcomes.Called calls.Begin ∷ write_outcomes commands
outcomes_before commands calls.Commit = outcomes.Called calls.Begin ∷ (write_outcomes commands ++ outcomes.Called calls.Count ∷ [])

-- all of them
abbrev pub commit_events : List Command → List Event
commit_events commands = events_before commands calls.Commit ++ events.Call ∷ []

abbrev pub commit_outcomes : List Command → List Outcome
commit_outcomes commands = outcomes_before commands calls.Commit ++ outcomes.Called calls.Commit ∷ []

-- The calls before the one that fails. Which of the writes fails is not reported: nothing is kept whichever it is, and the
-- first is taken.
abbrev pub fail_events : List Command → StoreCall → Fate → List Event
fail_events commands call fate = events_before commands call ++ events.Fail fate ∷ []

abbrev pub fail_outcomes : List Command → StoreCall → List Outcome
fail_outcomes commands call = outcomes_before commands call ++ outcomes.Refused (refusals.StoreFailed call) ∷ []

-- whether it reclaims before it tests for room
abbrev pub reclaim_events : Bool → List Event
reclaim_events true = events.Reclaim ∷ []
reclaim_events false = []

abbrev pub note_events : List Event
note_events = events.Note ∷ events.Ack ∷ []

abbrev pub note_outcomes : Line → List Outcome
note_outcomes told = outcomes.Noted (line_state told).count ∷ outcomes.Acknowledged (line_state told).count ∷ []

-- everything stops within this store call
abbrev pub stop_events : List Command → StoreCall → Fate → List Event
stop_events commands call fate = events_before commands call ++ events.Stop fate ∷ []

abbrev pub stop_outcomes : List Command → StoreCall → List Outcome
stop_outcomes commands call = outcomes_before commands call ++ outcomes.Stopped ∷ []

-- ---- the calls with a domain

abbrev pub publish_events : List Event
publish_events = events.Publish ∷ note_events

abbrev pub publish_outcomes : ℕ → List Outcome
publish_outcomes number = outcomes.Published number ∷ outcomes.Noted number ∷ outcomes.Acknowledged number ∷ []

-- commands that are acknowledged, from the event that submits them
abbrev pub submit_events : Event → List Event
submit_events event = event ∷ (commit_events (asked event) ++ publish_events)

abbrev pub submit_outcomes : List Command → ℕ → List Outcome
submit_outcomes commands number = outcomes.Prepared number ∷ (commit_outcomes commands ++ publish_outcomes number)

-- those that are stored, and whose publication is refused
abbrev pub unpublished_events : Event → List Event
unpublished_events event = event ∷ (commit_events (asked event) ++ events.PublishFail ∷ [])

abbrev pub unpublished_outcomes : List Command → ℕ → List Outcome
unpublished_outcomes commands number = outcomes.Prepared number ∷ (commit_outcomes commands ++ outcomes.Refused refusals.NotPublished ∷ [])

-- the acknowledgements of commands of which the last has this number
abbrev pub acks_to : ℕ → List Command → List Ack
acks_to last [] = []
acks_to last (command ∷ commands) = record { number = last - length commands; command = command } ∷ acks_to last commands
