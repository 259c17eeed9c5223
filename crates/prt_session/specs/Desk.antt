-- What a request does at a desk.
use Rattle.std.specs.Prelude.{◌≡◌, ℕ, Bool, true, false, List, Option, Some, None, IfSome, Result, Ok, Err}
use Rattle.prt_refusals.specs.declared.refusal.Refusal.{Refusal}
use Rattle.prt_refusals.specs.declared.refusal.Refusal.TheVariants.{Closed, Busy, NoMemory, StoreFailed, NotPublished}
use Rattle.prt_refusals.specs.declared.refusal.StoreCall.{StoreCall}
use Rattle.prt_refusals.specs.declared.refusal.StoreCall.TheVariants.{Commit}
use Rattle.prt_command.specs.declared.request.Command.{Command}
use Rattle.prt_command.specs.declared.request.Query.{Query}
use Rattle.prt_command.specs.declared.request.Request.{Request}
use Rattle.prt_command.specs.declared.request.Request.TheVariants as requests
use Rattle.prt_listing.specs.QueryText.{query_text}
use Rattle.prt_session.specs.Session.{Turn}
use Rattle.prt_replies.specs.declared.reply.Reply.TheVariants.{Accepted, Answered, Refused}
use Rattle.prt_version.specs.Accepted.{refusal_all}
use Rattle.prt_version.specs.Change.{refusal, apply, fold}
use Rattle.prt_version.specs.State.{State}

-- What a desk represents: the state that its queries are answered from, the state that is stored, and whether it is closed. The
-- two states are the same while the desk is open.
pub record DeskState : Type 0 where
  pub published : State
  pub stored : State
  pub closed : Bool

-- What may befall a request that nothing else is wrong with.
pub data Mishap : Type 0 where
  -- no room for one more old version
  no_room : Mishap
  -- memory was refused
  no_memory : Mishap
  -- this store call failed, and the change is not stored
  store_fails : StoreCall → Mishap
  -- the commit call failed, and yet the change is stored
  commit_kept : Mishap
  -- the change is stored, and its publication was refused
  publication_fails : Mishap

-- the desk after a change that is published
abbrev pub settled : State → DeskState
settled state = record { published = state; stored = state; closed = false }

-- the desk after a failed commit or publication: closed, with what is stored
abbrev pub shut : DeskState → State → DeskState
shut desk stored = record desk { stored = stored; closed = true }

-- a command that is not refused, with its mishap
abbrev pub submit : DeskState → Command → Option Mishap → Turn DeskState
submit desk command None = record { reply = Accepted (apply desk.published command).count; desk = settled (apply desk.published command) }
submit desk command (Some no_room) = record { reply = Refused Busy; desk = desk }
submit desk command (Some no_memory) = record { reply = Refused NoMemory; desk = desk }
submit desk command (Some (store_fails call)) = record { reply = Refused (StoreFailed call); desk = shut desk desk.stored }
submit desk command (Some commit_kept) = record { reply = Refused (StoreFailed Commit); desk = shut desk (apply desk.published command) }
submit desk command (Some publication_fails) = record { reply = Refused NotPublished; desk = shut desk (apply desk.published command) }

-- whether the desk is closed, then the refusal of the command, then its mishap
abbrev pub command_or_refusal : DeskState → Command → Bool → Option Refusal → Option Mishap → Turn DeskState
command_or_refusal desk command true reason mishap = record { reply = Refused Closed; desk = desk }
command_or_refusal desk command false (Some reason) mishap = record { reply = Refused reason; desk = desk }
command_or_refusal desk command false None mishap = submit desk command mishap

abbrev pub command_turn : DeskState → Command → Option Mishap → Turn DeskState
command_turn desk command mishap = command_or_refusal desk command desk.closed (refusal desk.published command) mishap

-- How a list of commands ends that are made together or not at all: the number of the last, or why none is made; and the desk after it.
pub record ListTurn : Type 0 where
  pub result : Result ℕ Refusal
  pub desk : DeskState

-- a list without a refused command, with its one mishap: the whole list is stored, or nothing of it
abbrev pub submit_all : DeskState → List Command → Option Mishap → ListTurn
submit_all desk commands None = record { result = Ok (fold desk.published commands).count; desk = settled (fold desk.published commands) }
submit_all desk commands (Some no_room) = record { result = Err Busy; desk = desk }
submit_all desk commands (Some no_memory) = record { result = Err NoMemory; desk = desk }
submit_all desk commands (Some (store_fails call)) = record { result = Err (StoreFailed call); desk = shut desk desk.stored }
submit_all desk commands (Some commit_kept) = record { result = Err (StoreFailed Commit); desk = shut desk (fold desk.published commands) }
submit_all desk commands (Some publication_fails) = record { result = Err NotPublished; desk = shut desk (fold desk.published commands) }

-- A list with a refused command. If memory is refused at that command or at one before it, that is why the list is not made.
abbrev pub refuse_all : DeskState → Refusal → Option Mishap → ListTurn
refuse_all desk reason (Some no_memory) = record { result = Err NoMemory; desk = desk }
refuse_all desk reason mishap = record { result = Err reason; desk = desk }

-- whether the desk is closed, then the first refusal among the commands, then the mishap
abbrev pub commands_or_refusal : DeskState → List Command → Bool → Option Refusal → Option Mishap → ListTurn
commands_or_refusal desk commands true reason mishap = record { result = Err Closed; desk = desk }
commands_or_refusal desk commands false (Some reason) mishap = refuse_all desk reason mishap
commands_or_refusal desk commands false None mishap = submit_all desk commands mishap

-- commands that are made together or not at all, each refused or not in the state after those before it
abbrev pub commands_turn : DeskState → List Command → Option Mishap → ListTurn
commands_turn desk commands mishap = commands_or_refusal desk commands desk.closed (refusal_all desk.published commands) mishap

-- a query is answered from the published state, even if the desk is closed
abbrev pub query_turn : DeskState → Query → Option Mishap → Turn DeskState
query_turn desk query (Some no_memory) = record { reply = Refused NoMemory; desk = desk }
query_turn desk query mishap = record { reply = Answered (query_text desk.published query); desk = desk }

abbrev pub request_turn : DeskState → Request → Option Mishap → Turn DeskState
request_turn desk (requests.Command command) mishap = command_turn desk command mishap
request_turn desk (requests.Query query) mishap = query_turn desk query mishap

-- memory was refused, and nothing worse
abbrev pub IsNoMemory : Mishap → Type 0
IsNoMemory mishap = mishap ≡ no_memory

-- nothing, or a mishap that the desk can have
abbrev pub Befalls : (Mishap → Type 0) → DeskState → Request → Option Mishap → Type 0
Befalls may desk request mishap = IfSome mishap may
