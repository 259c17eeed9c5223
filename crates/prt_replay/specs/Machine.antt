-- What a replay keeps, and what it computes: the registry and the lookers' places in it, and versions.
use Rattle.std.specs.Prelude.{◌≡◌, ℕ, zero, suc, ◌-◌, ◌<◌, ◌&&◌, ◌++◌, nat_lt, Bool, true, false, if◌then◌else◌, List, [], ◌∷◌, length, map}
use Rattle.std.specs.Prelude.{replicate, slice_index_or, slice_set, Option, Some, None}
use Rattle.prt_refusals.specs.declared.refusal.Refusal.{Refusal}
use Rattle.prt_refusals.specs.declared.refusal.Refusal.TheVariants as refusals
use Rattle.prt_refusals.specs.declared.refusal.StoreCall.TheVariants as calls
use Rattle.prt_command.specs.declared.request.Command.{Command}
use Rattle.prt_grace.specs.Registry.{RegistryState, announcing, reclaimed, with_noted, with_place}
use Rattle.prt_grace.specs.declared.limits.TheConstants.{MOST_RETIRED, PLACES}
use Rattle.prt_grace.specs.declared.place.Place.{Place}
use Rattle.prt_grace.specs.declared.place.PlaceState.TheVariants as places
use Rattle.prt_rule.specs.declared.packet.Packet.{Packet}
use Rattle.prt_version.specs.Accepted.{refusal_all}
use Rattle.prt_version.specs.Change.{fold}
use Rattle.prt_version.specs.State.{State}
use Rattle.prt_replay.specs.declared.stage.Stage.{Stage}
use Rattle.prt_replay.specs.declared.stage.Stage.TheVariants.{Ready, Prepared, Committed, Published, Noted, Closed, Stopped}
use Rattle.prt_replay.specs.World.{answer_by}
use Rattle.prt_replay.specs.declared.event.Event.{Event}
use Rattle.prt_replay.specs.declared.event.Event.TheVariants as events
use Rattle.prt_replay.specs.declared.event.Fate.{Fate}
use Rattle.prt_replay.specs.declared.event.Fate.TheVariants.{Kept}
use Rattle.prt_replay.specs.declared.outcome.Outcome.{Outcome}
use Rattle.prt_replay.specs.declared.outcome.Outcome.TheVariants as outcomes

-- ---- lookers

-- A looker's place in the registry, and the version that it holds.
pub record SeatState : Type 0 where
  pub place : Place
  pub held : Option State

pub record LookersState : Type 0 where
  pub registry : RegistryState
  pub seats : List SeatState

-- each looker has the place of its number
pub record AreSeated (registry : RegistryState) (seats : List SeatState) : Type 0 where
  pub all : length seats ≡ PLACES
  pub placed : registry.places ≡ map (λ seat. announcing seat.place.announced) seats
  pub numbered : (i : ℕ) (past : SeatState) → i < PLACES → (slice_index_or seats i past).place.index ≡ i

abbrev pub offline_place : ℕ → Place
offline_place index = record { index = index; announced = None }

abbrev pub empty_seat : ℕ → SeatState
empty_seat index = record { place = offline_place index; held = None }

abbrev pub seat_of : LookersState → ℕ → SeatState
seat_of lookers looker = slice_index_or lookers.seats looker (empty_seat looker)

-- the number that a looker has announced
abbrev pub announced_at : LookersState → ℕ → Option ℕ
announced_at lookers looker = (seat_of lookers looker).place.announced

-- the looker announces this, and holds that
abbrev pub sit : LookersState → ℕ → Option ℕ → Option State → LookersState
sit lookers looker announced held = record {
  registry = with_place lookers.registry looker (announcing announced);
  seats = slice_set lookers.seats looker (record { place = record (seat_of lookers looker).place { announced = announced }; held = held });
}

-- the looker holds that
abbrev pub hold : LookersState → ℕ → Option State → LookersState
hold lookers looker held = record {
  registry = lookers.registry;
  seats =
      slice_set lookers.seats looker (record { place = (seat_of lookers looker).place; held = held });
}

abbrev pub with_registry : LookersState → RegistryState → LookersState
with_registry lookers registry = record { registry = registry; seats = lookers.seats }

-- the number of the version that the looker holds, which it can announce if it is online with that number or a lower one
abbrev pub announceable : Option ℕ → Option State → Option ℕ
announceable None held = None
announceable (Some before) None = None
announceable (Some before) (Some state) = if nat_lt state.count before then None else Some state.count

abbrev pub can_announce : LookersState → ℕ → Option ℕ
can_announce lookers looker = announceable (announced_at lookers looker) (seat_of lookers looker).held

-- so many lookers, offline
unfoldable pub seats_below : ℕ → List SeatState
seats_below zero = []
seats_below (suc n) = seats_below n ++ empty_seat n ∷ []

-- all lookers, offline, beside a registry in which this version is noted
abbrev pub new_lookers : State → LookersState
new_lookers state = record {
  registry = record { noted = state; retired = []; places = replicate PLACES places.Offline };
  seats = seats_below PLACES;
}

-- ---- the replay

pub record MachineState : Type 0 where
  pub lookers : LookersState
  pub published : State
  pub disk : State
  -- the version after the commands that are under way
  pub next : State
  pub stage : Stage

pub record MachineStep : Type 0 where
  pub machine : MachineState
  pub outcome : Outcome

abbrev pub opened : State → MachineState
opened state = record { lookers = new_lookers state; published = state; disk = state; next = state; stage = Ready }

abbrev pub idle : MachineState → MachineStep
idle machine = record { machine = machine; outcome = outcomes.Nothing }

abbrev pub prepare_all : MachineState → List Command → Option Refusal → Bool → MachineStep
prepare_all machine commands (Some reason) room = record { machine = machine; outcome = outcomes.Refused reason }
prepare_all machine commands None false = record { machine = machine; outcome = outcomes.Refused refusals.Busy }
prepare_all machine commands None true =
    record {
      machine = record machine { next = fold machine.published commands; stage = Prepared (length commands) calls.Begin };
      outcome =
          outcomes.Prepared (fold machine.published commands).count;
    }

abbrev pub submit_by : MachineState → List Command → Stage → MachineStep
submit_by machine commands Ready =
    prepare_all machine commands (refusal_all machine.published commands) (nat_lt (length machine.lookers.registry.retired) MOST_RETIRED)
submit_by machine commands Closed = record { machine = machine; outcome = outcomes.Refused refusals.Closed }
submit_by machine commands stage = idle machine

-- no commands are nothing to submit
abbrev pub submit_some : MachineState → List Command → MachineStep
submit_some machine [] = idle machine
submit_some machine (first ∷ more) = submit_by machine (first ∷ more) machine.stage

abbrev pub at_stage : MachineState → Stage → Outcome → MachineStep
at_stage machine stage outcome = record { machine = record machine { stage = stage }; outcome = outcome }

-- the rows of a command are written, if those of so many were still to be
abbrev pub after_write : ℕ → Stage
after_write left = if nat_lt 1 left then Prepared (left - 1) calls.Write else Prepared 0 calls.Count

-- the version after the commands is durable
abbrev pub commit_by : MachineState → MachineStep
commit_by machine = record { machine = record machine { disk = machine.next; stage = Committed }; outcome = outcomes.Called calls.Commit }

abbrev pub call_by : MachineState → Stage → MachineStep
call_by machine (Prepared left calls.Begin) = at_stage machine (Prepared left calls.Write) (outcomes.Called calls.Begin)
call_by machine (Prepared left calls.Write) = at_stage machine (after_write left) (outcomes.Called calls.Write)
call_by machine (Prepared left calls.Count) = at_stage machine (Prepared left calls.Commit) (outcomes.Called calls.Count)
call_by machine (Prepared left calls.Commit) = commit_by machine
call_by machine stage = idle machine

-- what a stop leaves on the disk
abbrev pub left_by : MachineState → Fate → Stage → State
left_by machine Kept (Prepared left calls.Commit) = machine.next
left_by machine fate stage = machine.disk

abbrev pub fail_by : MachineState → Fate → Stage → MachineStep
fail_by machine fate (Prepared left next) =
    record {
      machine = record machine { disk = left_by machine fate (Prepared left next); stage = Closed };
      outcome =
          outcomes.Refused (refusals.StoreFailed next);
    }
fail_by machine fate stage = idle machine

abbrev pub stop_by : MachineState → Fate → MachineStep
stop_by machine fate = record { machine = record machine { disk = left_by machine fate machine.stage; stage = Stopped }; outcome = outcomes.Stopped }

abbrev pub reopen_by : MachineState → Stage → MachineStep
reopen_by machine Closed = record { machine = opened machine.disk; outcome = outcomes.Reopened machine.disk.count }
reopen_by machine Stopped = record { machine = opened machine.disk; outcome = outcomes.Reopened machine.disk.count }
reopen_by machine stage = idle machine

abbrev pub publish_by : MachineState → Stage → MachineStep
publish_by machine Committed =
    record { machine = record machine { published = machine.disk; stage = Published }; outcome = outcomes.Published machine.disk.count }
publish_by machine stage = idle machine

abbrev pub fail_publication_by : MachineState → Stage → MachineStep
fail_publication_by machine Committed = at_stage machine Closed (outcomes.Refused refusals.NotPublished)
fail_publication_by machine stage = idle machine

-- there is room for one more retired version, and the published version is later than the noted one
abbrev pub can_note : MachineState → Bool
can_note machine = nat_lt (length machine.lookers.registry.retired) MOST_RETIRED && nat_lt machine.lookers.registry.noted.count machine.published.count

abbrev pub note_if : MachineState → Bool → MachineStep
note_if machine true = record {
  machine =
      record machine { lookers = with_registry machine.lookers (with_noted machine.lookers.registry machine.published); stage = Noted };
  outcome = outcomes.Noted machine.published.count;
}
note_if machine false = idle machine

abbrev pub note_by : MachineState → Stage → MachineStep
note_by machine Published = note_if machine (can_note machine)
note_by machine stage = idle machine

abbrev pub acknowledge_by : MachineState → Stage → MachineStep
acknowledge_by machine Noted = at_stage machine Ready (outcomes.Acknowledged machine.published.count)
acknowledge_by machine stage = idle machine

abbrev pub with_lookers : MachineState → LookersState → Outcome → MachineStep
with_lookers machine lookers outcome = record { machine = record machine { lookers = lookers }; outcome = outcome }

abbrev pub online_by : MachineState → ℕ → Option ℕ → MachineStep
online_by machine looker None =
    with_lookers machine (sit machine.lookers looker (Some machine.lookers.registry.noted.count) None)
    (outcomes.Online looker machine.lookers.registry.noted.count)
online_by machine looker (Some announced) = idle machine

abbrev pub fetch_by : MachineState → ℕ → Option ℕ → MachineStep
fetch_by machine looker None = idle machine
fetch_by machine looker (Some announced) =
    with_lookers machine (hold machine.lookers looker (Some machine.published)) (outcomes.Fetched looker machine.published.count)

abbrev pub announce_by : MachineState → ℕ → Option ℕ → MachineStep
announce_by machine looker None = idle machine
announce_by machine looker (Some number) =
    with_lookers machine (sit machine.lookers looker (Some number) (seat_of machine.lookers looker).held) (outcomes.Announced looker number)

abbrev pub offline_by : MachineState → ℕ → Option ℕ → MachineStep
offline_by machine looker None = idle machine
offline_by machine looker (Some announced) = with_lookers machine (sit machine.lookers looker None None) (outcomes.Offline looker)

abbrev pub look_by : MachineState → Packet → Option State → MachineStep
look_by machine packet None = idle machine
look_by machine packet (Some state) = record { machine = machine; outcome = outcomes.Answered (answer_by state packet) }

abbrev pub reclaim_by : MachineState → MachineStep
reclaim_by machine = with_lookers machine (with_registry machine.lookers (reclaimed machine.lookers.registry))
    (outcomes.Reclaimed (length machine.lookers.registry.retired - length (reclaimed machine.lookers.registry).retired))

abbrev pub is_stopped_at : Stage → Bool
is_stopped_at Stopped = true
is_stopped_at stage = false

abbrev pub while_running : MachineState → MachineStep → MachineStep
while_running machine step = if is_stopped_at machine.stage then idle machine else step

-- an event of a looker, a reclaim or a stop
abbrev pub running_step : MachineState → Event → MachineStep
running_step machine (events.Online looker) = online_by machine looker (announced_at machine.lookers looker)
running_step machine (events.Fetch looker) = fetch_by machine looker (announced_at machine.lookers looker)
running_step machine (events.Announce looker) = announce_by machine looker (can_announce machine.lookers looker)
running_step machine (events.Offline looker) = offline_by machine looker (announced_at machine.lookers looker)
running_step machine (events.Look looker packet) = look_by machine packet (seat_of machine.lookers looker).held
running_step machine events.Reclaim = reclaim_by machine
running_step machine (events.Stop fate) = stop_by machine fate
running_step machine event = idle machine

abbrev pub machine_step : MachineState → Event → MachineStep
machine_step machine (events.Submit command) = submit_some machine (command ∷ [])
machine_step machine (events.SubmitAll commands) = submit_some machine commands
machine_step machine events.Call = call_by machine machine.stage
machine_step machine (events.Fail fate) = fail_by machine fate machine.stage
machine_step machine events.Publish = publish_by machine machine.stage
machine_step machine events.PublishFail = fail_publication_by machine machine.stage
machine_step machine events.Note = note_by machine machine.stage
machine_step machine events.Ack = acknowledge_by machine machine.stage
machine_step machine events.Reopen = reopen_by machine machine.stage
machine_step machine event = while_running machine (running_step machine event)

-- what each event shows
unfoldable pub machine_outcomes : MachineState → List Event → List Outcome
machine_outcomes machine [] = []
machine_outcomes machine (event ∷ events) = (machine_step machine event).outcome ∷ machine_outcomes (machine_step machine event).machine events
