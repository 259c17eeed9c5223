-- What a replay answers, and what a run of it reads and writes.
use Rattle.std.specs.Prelude.{◌≡◌, ◌⊎◌, ℕ, nat_lt, Bool, true, false, List, [], ◌++◌, length, codes, Option, Some, None, IfSome, Result, Ok, Err}
use Rattle.prt_refusals.specs.Refusal.{refusal_text}
use Rattle.prt_refusals.specs.declared.refusal.Refusal.{Refusal}
use Rattle.prt_refusals.specs.declared.refusal.Refusal.TheVariants.{NoMemory, ReadFault, TooManyLines, WriteFault}
use Rattle.prt_command.specs.Requests.{refuse_if}
use Rattle.prt_command.specs.Then.{◌>>=◌}
use Rattle.prt_replies.specs.Input.{Input, end_of_input, is_fault}
use Rattle.prt_replies.specs.Written.{Written}
use Rattle.prt_replies.specs.declared.script_end.ScriptEnd.{ScriptEnd}
use Rattle.prt_replay.specs.ReadEvents.{events_of, longest_replay}
use Rattle.prt_replay.specs.TraceText.{trace_text}
use Rattle.prt_replay.specs.World.{outcomes_from, start}
use Rattle.prt_replay.specs.declared.event.Event.{Event}

-- ---- what a replay file is answered with

-- the trace of the events, or the line of the refusal
abbrev pub answer_to : Result (List Event) Refusal → List ℕ
answer_to (Ok events) = trace_text (outcomes_from start events)
answer_to (Err reason) = refusal_text reason ++ codes "\n"

abbrev pub replay_text : List ℕ → List ℕ
replay_text bytes = answer_to (events_of bytes)

-- ---- a run of a replay

-- the events of an input, or why it has none: it is too long, it can't be read to its end, or one of its lines is refused
abbrev pub input_events : Input → Result (List Event) Refusal
input_events input =
    refuse_if (nat_lt longest_replay (length input.bytes)) TooManyLines >>= λ _.
    refuse_if (is_fault input.ending) ReadFault >>= λ _.
    events_of input.bytes

-- The input is all that the reader had, up to its fault if one came.
pub record IsAllOf (reader0 : Option (List ℕ)) (input : Input) : Type 0 where
  -- what is still there after a fault
  pub beyond : List ℕ
  pub bytes_before : IfSome reader0 (λ bytes. bytes ≡ input.bytes ++ beyond)
  pub whole : input.ending ≡ end_of_input → beyond ≡ []

-- The file that the reader had has these events, or none for this reason; if memory is refused, none for that.
pub record Finds (reader0 : Option (List ℕ)) (found : Result (List Event) Refusal) : Type 0 where
  pub input : Input
  pub is_all : IsAllOf reader0 input
  pub found_is : (found ≡ input_events input) ⊎ (found ≡ Err NoMemory)

-- a refusal other than for a fault of the reader
abbrev pub is_refusal : {X : Type 0} → Result X Refusal → Bool
is_refusal {X} (Ok x) = false
is_refusal {X} (Err ReadFault) = false
is_refusal {X} (Err reason) = true

-- the fault of a run, if all of the answer was written or if it was not
abbrev pub fault_by : {X : Type 0} → Bool → Result X Refusal → Option Refusal
fault_by {X} false found = Some WriteFault
fault_by {X} true (Err ReadFault) = Some ReadFault
fault_by {X} true found = None

-- A replay was run: the writer got the trace of the events of the file, or the line of the refusal in its place; or a part of that, if the writer failed.
pub record ReplayIs (reader0 writer0 writer : Option (List ℕ)) (end : ScriptEnd) : Type 0 where
  pub found : Result (List Event) Refusal
  pub finds : Finds reader0 found
  pub is_written : Bool
  pub wrote : Written is_written writer0 writer (answer_to found)
  pub refused_is : end.refused ≡ is_refusal found
  pub fault_is : end.fault ≡ fault_by is_written found
