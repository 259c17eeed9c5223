-- What a run over the plain desk, and one over a closed desk, refuses for.
use Rattle.std.specs.Prelude.{◌≡◌, Bool, true, false, List, ℕ, Some, Ok, Err, ⊤}
use Rattle.prt_refusals.specs.declared.refusal.Refusal.{Refusal}
use Rattle.prt_refusals.specs.declared.refusal.Refusal.TheVariants.{LineTooLong, Closed, Busy, NoMemory, StoreFailed, NotPublished, NotFetched}
use Rattle.prt_refusals.specs.declared.refusal.Refusal.TheVariants.{Damaged, OpenFailed, ReadFault, WriteFault, TooManyLines}
use Rattle.prt_command.specs.Reading.{reading}
use Rattle.prt_command.specs.declared.request.Command.{Command}
use Rattle.prt_command.specs.declared.request.Request.TheVariants as requests
use Rattle.prt_session.specs.Session.{Exchange}
use Rattle.prt_replies.specs.declared.reply.Reply.{Reply}
use Rattle.prt_replies.specs.declared.reply.Reply.TheVariants.{Refused}
use Rattle.prt_version.specs.Change.{refusal}
use Rattle.prt_version.specs.State.{State}

-- What a run over the plain desk refuses for: what a line or its command says, want of memory and the input, no more.
pub data IsListRefusal (reason : Refusal) : Type 0 where
  -- the line asks for nothing that there is
  of_line : (line : List ℕ) → reading line ≡ Err reason → IsListRefusal reason
  -- the command is refused in some state
  of_command : (state : State) (command : Command) → refusal state command ≡ Some reason → IsListRefusal reason
  of_memory : reason ≡ NoMemory → IsListRefusal reason
  -- the reader failed
  of_reader : reason ≡ ReadFault → IsListRefusal reason
  -- a line, or the input, is too long
  of_line_length : reason ≡ LineTooLong → IsListRefusal reason
  of_line_count : reason ≡ TooManyLines → IsListRefusal reason

-- a reply that is no refusal, or one of these
abbrev pub IsListReply : Reply → Type 0
IsListReply (Refused reason) = IsListRefusal reason
IsListReply reply = ⊤

-- the refusals of a publisher, a store, a reader of versions and a writer
abbrev pub is_beyond_lists : Refusal → Bool
is_beyond_lists Closed = true
is_beyond_lists Busy = true
is_beyond_lists (StoreFailed call) = true
is_beyond_lists NotPublished = true
is_beyond_lists NotFetched = true
is_beyond_lists Damaged = true
is_beyond_lists OpenFailed = true
is_beyond_lists WriteFault = true
is_beyond_lists reason = false

-- a reply that is no refusal, or none of these
abbrev pub IsWithinLists : Reply → Type 0
IsWithinLists (Refused reason) = is_beyond_lists reason ≡ false
IsWithinLists reply = ⊤

-- a line that asks for a command is refused, since the desk is closed
abbrev pub IsClosedExchange : {M : Type 0} → Exchange M → Type 0
IsClosedExchange {M} x = (command : Command) → reading x.line ≡ Ok (Some (requests.Command command)) → x.reply ≡ Refused Closed
