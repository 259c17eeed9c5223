-- What a service that others share replies to the requests of a session.
use Rattle.std.specs.Prelude.{ℕ, ◌+◌, length, Option, Some, None}
use Rattle.prt_refusals.specs.declared.refusal.Refusal.{Refusal}
use Rattle.prt_refusals.specs.declared.refusal.Refusal.TheVariants as reasons
use Rattle.prt_command.specs.declared.request.Request.{Request}
use Rattle.prt_command.specs.declared.request.Request.TheVariants as requests
use Rattle.prt_published.specs.Line.{Line, Begins, line_state}
use Rattle.prt_listing.specs.QueryText.{query_text}
use Rattle.prt_service.specs.Service.{EndsWith, IsServiceRefusal}
use Rattle.prt_session.specs.Session.{Turn}
use Rattle.prt_replies.specs.declared.reply.Reply.{Reply}
use Rattle.prt_replies.specs.declared.reply.Reply.TheVariants.{Accepted, Answered, Refused}

-- What the other threads and the store make of a request.
pub data Event : Type 0 where
  -- the version of this list answers a query
  seen : Line → Event
  -- this list is known from then on, and memory for its answer is refused
  unanswered : Line → Event
  -- no version is fetched, and this list is known from then on
  unseen : Line → Event
  -- the command is accepted with a receipt of the first list, and the second is known from then on
  taken : Line → Line → Event
  -- the command is refused
  refused : Refusal → Event

-- the number of the last command of a list
abbrev pub number_of : Line → ℕ
number_of line = line.base.count + length line.list

-- the reply to a request: the answer from the version that was seen, the number of the receipt, or the refusal
abbrev pub reply_to : Request → Option Event → Reply
reply_to (requests.Query query) (Some (seen line)) = Answered (query_text (line_state line) query)
reply_to (requests.Query query) (Some (unanswered line)) = Refused reasons.NoMemory
reply_to (requests.Query query) event = Refused reasons.NotFetched
reply_to (requests.Command command) (Some (taken receipt line)) = Accepted (number_of receipt)
reply_to (requests.Command command) (Some (refused reason)) = Refused reason
reply_to (requests.Command command) event = Refused reasons.NoMemory

-- what is known after it
abbrev pub known_after : Line → Option Event → Line
known_after known None = known
known_after known (Some (seen line)) = line
known_after known (Some (unanswered line)) = line
known_after known (Some (unseen line)) = line
known_after known (Some (taken receipt line)) = line
known_after known (Some (refused reason)) = known

-- a request's turn, if this list is known
abbrev pub service_turn : Line → Request → Option Event → Turn Line
service_turn known request event = record { reply = reply_to request event; desk = known_after known event }

-- What is known only grows. The list of a receipt ends with its command, and is known from then on.
abbrev pub service_may : Line → Request → Option Event → Type 0
service_may known (requests.Query query) (Some (seen line)) = Begins known line
service_may known (requests.Query query) (Some (unanswered line)) = Begins known line
service_may known (requests.Query query) (Some (unseen line)) = Begins known line
service_may known (requests.Command command) (Some (taken receipt line)) = EndsWith receipt.list command × Begins receipt line × Begins known line
service_may known (requests.Command command) (Some (refused reason)) = IsServiceRefusal reason
service_may known request event = ⊥
