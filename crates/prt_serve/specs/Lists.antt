-- What a session over a service shows of the published list.
use Rattle.std.specs.Prelude.{◌≡◌, List, [], ◌∷◌, ◌++◌, Option, Some, None, Result, Ok, Err}
use Rattle.prt_refusals.specs.declared.refusal.Refusal.{Refusal}
use Rattle.prt_command.specs.Reading.{reading}
use Rattle.prt_command.specs.declared.request.Request.{Request}
use Rattle.prt_command.specs.declared.request.Request.TheVariants as requests
use Rattle.prt_published.specs.Line.{Line, Begins}
use Rattle.prt_serve.specs.Requests.{Event, seen, unanswered, taken, reply_to}
use Rattle.prt_service.specs.Service.{EndsWith}
use Rattle.prt_session.specs.Session.{Exchange}
use Rattle.prt_replies.specs.declared.reply.Reply.{Reply}
use Rattle.prt_replies.specs.declared.reply.Reply.TheVariants.{Refused, Silent}

-- ---- the lists of queries and receipts

-- the list that a query had, unless no version was fetched
abbrev pub seen_by : Option Event → List Line
seen_by (Some (seen line)) = line ∷ []
seen_by (Some (unanswered line)) = line ∷ []
seen_by event = []

-- the lists that the queries had, in order
abbrev pub seen_in : List (Exchange Event) → List Line
seen_in [] = []
seen_in (x ∷ xs) = seen_by x.mishap ++ seen_in xs

-- the list of a command's receipt
abbrev pub taken_by : Option Event → List Line
taken_by (Some (taken receipt line)) = receipt ∷ []
taken_by event = []

-- the lists of the receipts, in order
abbrev pub taken_in : List (Exchange Event) → List Line
taken_in [] = []
taken_in (x ∷ xs) = taken_by x.mishap ++ taken_in xs

-- ---- how they begin one another

-- this list is a prefix of the first of these, and each of them is a prefix of the next
abbrev pub Rises : Line → List Line → Type 0
Rises line [] = Unit {0}
Rises line (next ∷ lines) = Begins line next × Rises next lines

-- this list is a prefix of each of these
abbrev pub BeginsAll : Line → List Line → Type 0
BeginsAll line [] = Unit {0}
BeginsAll line (later ∷ lines) = Begins line later × BeginsAll line lines

-- each of these is a prefix of this list
abbrev pub AllBegin : List Line → Line → Type 0
AllBegin [] line = Unit {0}
AllBegin (earlier ∷ lines) line = Begins earlier line × AllBegin lines line

-- ---- replies

-- the reply to a line: the fault that is read first, nothing, or the reply to its request
abbrev pub reply_on : Result (Option Request) Refusal → Option Event → Reply
reply_on (Err reason) event = Refused reason
reply_on (Ok None) event = Silent
reply_on (Ok (Some request)) event = reply_to request event

-- each reply is that to its line, with what befell it
abbrev pub AreReplies : List (Exchange Event) → Type 0
AreReplies [] = Unit {0}
AreReplies (x ∷ xs) = (x.reply ≡ reply_on (reading x.line) x.mishap) × AreReplies xs

-- a receipt's list ends with the command of its line, and is a prefix of the list of each later query
abbrev pub IsTold : Result (Option Request) Refusal → Option Event → List Line → Type 0
IsTold (Ok (Some (requests.Command command))) (Some (taken receipt line)) later = EndsWith receipt.list command × BeginsAll receipt later
IsTold asked event later = Unit {0}

abbrev pub AreTold : List (Exchange Event) → Type 0
AreTold [] = Unit {0}
AreTold (x ∷ xs) = IsTold (reading x.line) x.mishap (seen_in xs) × AreTold xs

-- What the exchanges of a session show, if its looker knew the one list before and knows the other after.
pub record Shows (known0 known : Line) (exchanges : List (Exchange Event)) : Type 0 where
  pub replies : AreReplies exchanges
  -- each query's list is a prefix of the next one's, and what was known is a prefix of the first
  pub seen_rises : Rises known0 (seen_in exchanges)
  pub receipts : AreTold exchanges
  -- all of them begin what is known at the end
  pub seen_known : AllBegin (seen_in exchanges) known
  pub taken_known : AllBegin (taken_in exchanges) known
  pub grows : Begins known0 known
