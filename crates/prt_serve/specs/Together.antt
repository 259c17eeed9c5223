-- What serving an atomic script does: its commands are made together, at the number that was expected, or none of them is.
use Rattle.std.specs.Prelude.{◌≡◌, ◌-◌, ◌≤◌, ◌<◌, ◌^◌, ◌⊎◌, ℕ, Bool, true, false, List, [], ◌++◌, Option, Some, None, IfSome, is_some, Result, Ok}
use Rattle.std.specs.Prelude.{Err, codes, if◌then◌else◌, length}
use Rattle.prt_command.specs.declared.request.Command.{Command}
use Rattle.prt_published.specs.Line.{Begins, Line}
use Rattle.prt_refusals.specs.declared.refusal.Refusal.{Refusal}
use Rattle.prt_refusals.specs.declared.refusal.Refusal.TheVariants.{ReadFault, WriteFault}
use Rattle.prt_replies.specs.Reply.{replies_text, reply_text}
use Rattle.prt_replies.specs.ScriptEnd.{fault_after, refused_after}
use Rattle.prt_replies.specs.Written.{Written}
use Rattle.prt_replies.specs.declared.reply.Reply.{Reply}
use Rattle.prt_replies.specs.declared.reply.Reply.TheVariants.{Refused}
use Rattle.prt_replies.specs.declared.script_end.ScriptEnd.{ScriptEnd}
use Rattle.prt_serve.specs.ScriptHeader.{HasHeader, HasDrained, at_line, is_as_many}
use Rattle.prt_serve.specs.Requests.{number_of}
use Rattle.prt_serve.specs.declared.script_header.ScriptHeader.{ScriptHeader}
use Rattle.prt_service.specs.Service.{EndsWithAll, IsAfter, IsServiceRefusal, IsWhyNotMade}
use Rattle.prt_service.specs.declared.submit_error.SubmitError.{SubmitError}
use Rattle.prt_service.specs.declared.submit_error.SubmitError.TheVariants as why
use Rattle.prt_session.specs.Atomic.{ReadIs, accepted_after}
use Rattle.prt_session.specs.Steps.{AreSubmittable}

-- ---- what comes of the commands

-- what came of a script's commands: the number of the last, nothing for none, or why they were not made
abbrev pub Outcome : Type 0
Outcome = Result (Option ℕ) SubmitError

-- Commands are made with a receipt of a list that ends with them, and is known from then on; if they were to be made at a number,
-- the list had this number before them. Commands that are not made leave what is known.
abbrev pub Comes : Option ℕ → (known0 known : Line) → List Command → Outcome → Type 0
Comes expected known0 known commands (Ok None) = (commands ≡ []) × (known ≡ known0)
Comes expected known0 known commands (Ok (Some last)) =
    (1 ≤ length commands) × ((receipt : Line) × (last ≡ number_of receipt) × EndsWithAll receipt.list commands
    × IfSome expected (λ number. IsAfter number commands receipt)
    × Begins receipt known × Begins known0 known)
Comes expected known0 known commands (Err (why.Refused reason)) = (1 ≤ length commands) × IsServiceRefusal reason × (known ≡ known0)
Comes expected known0 known commands (Err (why.Moved number)) = IsWhyNotMade expected (why.Moved number) × (known ≡ known0)

-- the number of the last is one of 64 bits
abbrev pub FitsNumbers : Outcome → Type 0
FitsNumbers (Ok (Some last)) = last < 2 ^ 64
FitsNumbers _ = Unit {0}

-- ---- what is written of it

-- `ok N` for each of this many commands, up to the number of the last; the refusal; or the line `at N`
abbrev pub outcome_text : ℕ → Outcome → List ℕ
outcome_text count (Ok None) = []
outcome_text count (Ok (Some last)) = replies_text (accepted_after (last - count) count)
outcome_text count (Err (why.Refused reason)) = reply_text (Refused reason)
outcome_text count (Err (why.Moved number)) = at_line number ++ codes "\n"

-- whether the commands were not made, for another reason than a fault
abbrev pub outcome_refused : Outcome → Bool
outcome_refused (Ok made) = false
outcome_refused (Err (why.Refused reason)) = refused_after false (Refused reason)
outcome_refused (Err (why.Moved number)) = true

-- the fault for which they were not made
abbrev pub outcome_fault : Outcome → Option Refusal
outcome_fault (Ok made) = None
outcome_fault (Err (why.Refused reason)) = fault_after None (Refused reason)
outcome_fault (Err (why.Moved number)) = None

-- The outcome was written; if not all of it went well, a part of it.
pub record ToldIs (count : ℕ) (came : Outcome) (writer0 writer : Option (List ℕ)) (end : ScriptEnd) : Type 0 where
  pub whole : Bool
  pub wrote : Written whole writer0 writer (outcome_text count came)
  pub refused_is : end.refused ≡ outcome_refused came
  pub fault_is : end.fault ≡ (if whole then outcome_fault came else Some WriteFault)

-- ---- a script

-- Nothing was refused, and the commands were submitted, if there are any.
pub record IsSubmitted (expected : Option ℕ) (known0 known : Line) (commands : List Command) (writer0 writer : Option (List ℕ)) (end : ScriptEnd) : Type 0 where
  pub came : Outcome
  pub comes : Comes expected known0 known commands came
  pub told : ToldIs (length commands) came writer0 writer end

-- The header has a number of commands, and the script is cut off: none of them is made, as if its reading had failed.
pub record IsCutShort (header : ScriptHeader) (known0 known : Line) (writer0 writer : Option (List ℕ)) (end : ScriptEnd) : Type 0 where
  pub counted : is_some header.count ≡ true
  pub same : known ≡ known0
  pub told : ToldIs 0 (Err (why.Refused ReadFault)) writer0 writer end

-- what follows the reading: nothing after a refusal; and else the submission, if as many commands came as the header says
abbrev pub Follows : Option Reply → ScriptHeader → (known0 known : Line) → List Command → (writer0 writer : Option (List ℕ)) →
    (reading end : ScriptEnd) → Type 0
Follows (Some refused) header known0 known commands writer0 writer reading end = (known ≡ known0) × (writer ≡ writer0) × (end ≡ reading)
Follows None header known0 known commands writer0 writer reading end =
    ((is_as_many header.count (length commands) ≡ true) × IsSubmitted header.number known0 known commands writer0 writer end)
    ⊎ IsCutShort header known0 known writer0 writer end

-- The lines were read, up to the first refusal, which is all that was written then; or there was none, and the commands of all lines were submitted together.
pub record ScriptIs (header : ScriptHeader) (known0 known : Line) (reader0 reader writer0 writer : Option (List ℕ)) (end : ScriptEnd) : Type 0 where
  pub commands : List Command
  pub submittable : AreSubmittable commands
  pub between : Option (List ℕ)
  pub reading : ScriptEnd
  pub read : ReadIs commands reader0 reader writer0 between reading
  pub follows : Follows read.refusal header known0 known commands between writer reading end

-- ---- a connection

-- The header was read, if there is one, and then the script. Of what it left a part was discarded.
pub record OpensFile (known0 known : Line) (reader0 reader writer0 writer : Option (List ℕ)) (end : ScriptEnd) : Type 0 where
  pub header : ScriptHeader
  pub given : Option (List ℕ)
  pub opens : HasHeader header reader0 given
  pub left : Option (List ℕ)
  pub file : ScriptIs header known0 known given left writer0 writer end
  pub goes : HasDrained left reader

-- The reader failed before the script's first line was over, and that is the refusal.
pub record FailsToOpen (known0 known : Line) (reader0 reader writer0 writer : Option (List ℕ)) (end : ScriptEnd) : Type 0 where
  pub same : known ≡ known0
  pub read : HasDrained reader0 reader
  pub told : ToldIs 0 (Err (why.Refused ReadFault)) writer0 writer end

-- a connection was served whose commands are made together
abbrev pub ServesTogether : (known0 known : Line) → (reader0 reader writer0 writer : Option (List ℕ)) → ScriptEnd → Type 0
ServesTogether known0 known reader0 reader writer0 writer end =
    OpensFile known0 known reader0 reader writer0 writer end ⊎ FailsToOpen known0 known reader0 reader writer0 writer end
