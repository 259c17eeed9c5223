-- What an atomic file does: its commands are made together or not at all, once all its lines are read.
use Rattle.std.specs.Prelude.{◌≡◌, ◌≢◌, ◌⊎◌, ℕ, zero, suc, ◌+◌, nat_lt, if◌then◌else◌, false, List, [], ◌∷◌, ◌++◌, find, length, Option, Some, None}
use Rattle.std.specs.Prelude.{IfSome, Result, Ok, Err}
use Rattle.std.specs.Io.KnownBytes.{Appends}
use Rattle.prt_refusals.specs.declared.on_refusal.OnRefusal.TheVariants.{Stop}
use Rattle.prt_refusals.specs.declared.refusal.Refusal.{Refusal}
use Rattle.prt_refusals.specs.declared.refusal.Refusal.TheVariants.{NoMemory, NotPublished, StoreFailed, TooManyCommands, UnknownVerb, WriteFault}
use Rattle.prt_refusals.specs.declared.refusal.StoreCall.{StoreCall}
use Rattle.prt_refusals.specs.declared.refusal.StoreCall.TheVariants.{Commit}
use Rattle.prt_command.specs.declared.request.Command.{Command}
use Rattle.prt_command.specs.declared.request.Request.TheVariants as requests
use Rattle.prt_session.specs.Desk.{DeskState, IsNoMemory, Mishap, commands_turn, settled, shut}
use Rattle.prt_replies.specs.Reply.{is_refused, replies_text}
use Rattle.prt_session.specs.Run.{fault_in, refused_in}
use Rattle.prt_replies.specs.Input.{Input, end_of_input}
use Rattle.prt_session.specs.Session.{Mishaps, Path, Session, Turn, TurnsOf, replies, session}
use Rattle.prt_session.specs.declared.limits.TheConstants.{MOST_TOGETHER}
use Rattle.prt_replies.specs.declared.reply.Reply.{Reply}
use Rattle.prt_replies.specs.declared.reply.Reply.TheVariants.{Accepted, Refused, Silent}
use Rattle.prt_replies.specs.declared.script_end.ScriptEnd.{ScriptEnd}
use Rattle.prt_version.specs.Accepted.{IsAccepted}
use Rattle.prt_version.specs.Change.{fold}

-- ---- the reading: a session that collects the commands, and executes none

-- a command that there is room for, unless memory is refused
abbrev pub with_command : List Command → Command → Option Mishap → Turn (List Command)
with_command commands command None = record { reply = Silent; desk = commands ++ command ∷ [] }
with_command commands command (Some mishap) = record { reply = Refused NoMemory; desk = commands }

-- A command is collected, in silence. A query is refused, and so is a command more than there may be.
abbrev pub collect_turn : TurnsOf (List Command) Mishap
collect_turn commands (requests.Command command) mishap =
    if nat_lt (length commands) MOST_TOGETHER then with_command commands command mishap
    else record { reply = Refused TooManyCommands; desk = commands }
collect_turn commands (requests.Query query) mishap = record { reply = Refused UnknownVerb; desk = commands }

-- memory alone can fail a reading
abbrev pub CollectMay : Mishaps (List Command) Mishap
CollectMay commands request mishap = IfSome mishap IsNoMemory

-- it stops after the first refusal
abbrev pub collected : Input → List (Option Mishap) → Session (List Command) Mishap
collected input mishaps = session collect_turn [] input Stop mishaps

-- a refusal, if there is one
abbrev pub alone : Option Reply → List Reply
alone None = []
alone (Some reply) = reply ∷ []

-- The file was read, and its refusal written, if there is one.
pub record ReadIs (commands : List Command) (reader0 reader writer0 writer : Option (List ℕ)) (end : ScriptEnd) : Type 0 where
  pub input : Input
  pub mishaps : List (Option Mishap)
  pub refusal : Option Reply
  pub are : commands ≡ (collected input mishaps).desk
  pub path : Path collect_turn CollectMay [] (collected input mishaps).exchanges (collected input mishaps).desk
  pub is_first : refusal ≡ find is_refused (replies (collected input mishaps))
  pub is_refusal : (refusal ≡ None) ⊎ ((reason : Refusal) × (refusal ≡ Some (Refused reason)))
  pub beyond : List ℕ
  pub bytes_before : IfSome reader0 (λ bytes. bytes ≡ input.bytes ++ beyond)
  pub whole : input.ending ≡ end_of_input → beyond ≡ []
  pub bytes_left : IfSome reader0 (λ _. reader ≡ Some ((collected input mishaps).unread ++ beyond))
  pub refused_is : end.refused ≡ refused_in false (alone refusal)
  pub wrote : (Appends writer0 writer (replies_text (alone refusal)) × (end.fault ≡ fault_in None (alone refusal)))
      ⊎ ((reply : Reply) × (part : List ℕ) × (cut_off : List ℕ) × (refusal ≡ Some reply) × (replies_text (alone refusal) ≡ part ++ cut_off)
      × Appends writer0 writer part × (end.fault ≡ Some WriteFault))

-- ---- what comes of it

-- What is replied to the whole file, and the desk after it.
pub record Outcome : Type 0 where
  pub replies : List Reply
  pub desk : DeskState

-- `ok N` for each of this many numbers after this one, in order
abbrev pub accepted_after : ℕ → ℕ → List Reply
accepted_after number zero = []
accepted_after number (suc count) = accepted_after number count ++ Accepted (number + suc count) ∷ []

-- each command has a number of its own; a refusal is alone
abbrev pub list_replies : DeskState → List Command → Result ℕ Refusal → List Reply
list_replies desk commands (Ok last) = accepted_after desk.published.count (length commands)
list_replies desk commands (Err reason) = Refused reason ∷ []

-- a list is submitted once, as a whole, and an empty one is not
abbrev pub submitted : DeskState → List Command → Option Mishap → Outcome
submitted desk [] mishap = record { replies = []; desk = desk }
submitted desk (command ∷ commands) mishap = record {
  replies = list_replies desk (command ∷ commands) (commands_turn desk (command ∷ commands) mishap).result;
  desk = (commands_turn desk (command ∷ commands) mishap).desk;
}

-- if the reading was refused, that is the reply, and nothing is submitted
abbrev pub after_reading : DeskState → Option Reply → List Command → Option Mishap → Outcome
after_reading desk (Some refused) commands mishap = record { replies = refused ∷ []; desk = desk }
after_reading desk None commands mishap = submitted desk commands mishap

-- the outcome of an input, with what befalls its lines in the reading, and what befalls the list
abbrev pub atomic_output : DeskState → Input → List (Option Mishap) → Option Mishap → Outcome
atomic_output desk input mishaps mishap = after_reading desk (find is_refused (replies (collected input mishaps))) (collected input mishaps).desk mishap

-- ---- all or none

-- the desk after commands that were made; if there are none, it stays as it was
abbrev pub desk_after : DeskState → List Command → DeskState
desk_after desk [] = desk
desk_after desk (command ∷ commands) = settled (fold desk.published (command ∷ commands))

-- all commands are accepted, stored and published, each with a number of its own
abbrev pub AllMade : DeskState → List Command → Outcome → Type 0
AllMade desk commands made = IsAccepted desk.published commands × (made.replies ≡ accepted_after desk.published.count (length commands))
    × (made.desk ≡ desk_after desk commands)

-- A refused list leaves the desk as it was, or closes it. After a failed store call nothing more is stored; after a failed commit
-- perhaps all commands are, and after a refused publication they are.
abbrev pub IsDeskAfter : DeskState → List Command → Refusal → DeskState → Type 0
IsDeskAfter desk commands reason after =
    (after ≡ desk)
    ⊎ (((call : StoreCall) × (reason ≡ StoreFailed call) × (after ≡ shut desk desk.stored))
    ⊎ (((reason ≡ StoreFailed Commit) ⊎ (reason ≡ NotPublished)) × IsAccepted desk.published commands × (after ≡ shut desk (fold desk.published commands))))

-- a refusal is the only reply, queries are answered as before, and all or none of the commands are stored
abbrev pub NoneMade : DeskState → List Command → Outcome → Type 0
NoneMade desk commands made = (reason : Refusal) × (made.replies ≡ Refused reason ∷ []) × (made.desk.published ≡ desk.published)
    × IsDeskAfter desk commands reason made.desk

-- ---- a run

-- All replies were written or, after a fault of the writer, a part of their text, perhaps none or all of it. A writer that gets nothing has no fault.
abbrev pub WroteReplies : List Reply → (writer0 writer : Option (List ℕ)) → Option Refusal → Type 0
WroteReplies told writer0 writer fault =
    (Appends writer0 writer (replies_text told) × (fault ≡ fault_in None told))
    ⊎ ((part : List ℕ) × (cut_off : List ℕ) × (told ≢ []) × (replies_text told ≡ part ++ cut_off) × Appends writer0 writer part × (fault ≡ Some WriteFault))

-- A list was submitted, and what comes of it was written.
pub record SubmittedIs (may : Mishap → Type 0) (desk0 desk : DeskState) (commands : List Command) (writer0 writer : Option (List ℕ))
    (end : ScriptEnd) : Type 0 where
  pub mishap : Option Mishap
  pub befalls : IfSome mishap may
  pub leaves : desk ≡ (submitted desk0 commands mishap).desk
  pub refused_is : end.refused ≡ refused_in false (submitted desk0 commands mishap).replies
  pub wrote : WroteReplies (submitted desk0 commands mishap).replies writer0 writer end.fault

-- A run of an atomic file is the outcome of what the reader had, up to its fault if one came. Memory alone may have failed its
-- reading, and what befell the list may befall it. What the reading leaves unread is still to be read.
pub record AtomicIs (may : Mishap → Type 0) (desk0 desk : DeskState) (reader0 reader writer0 writer : Option (List ℕ)) (end : ScriptEnd) : Type 0 where
  pub input : Input
  pub mishaps : List (Option Mishap)
  pub mishap : Option Mishap
  pub path : Path collect_turn CollectMay [] (collected input mishaps).exchanges (collected input mishaps).desk
  pub befalls : IfSome mishap may
  pub leaves : desk ≡ (atomic_output desk0 input mishaps mishap).desk
  pub beyond : List ℕ
  pub bytes_before : IfSome reader0 (λ bytes. bytes ≡ input.bytes ++ beyond)
  pub whole : input.ending ≡ end_of_input → beyond ≡ []
  pub bytes_left : IfSome reader0 (λ _. reader ≡ Some ((collected input mishaps).unread ++ beyond))
  pub refused_is : end.refused ≡ refused_in false (atomic_output desk0 input mishaps mishap).replies
  pub wrote : WroteReplies (atomic_output desk0 input mishaps mishap).replies writer0 writer end.fault
