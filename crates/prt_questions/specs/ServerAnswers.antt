-- What a server said to the line of a query.
use Rattle.std.specs.Prelude.{◌≡◌, ◌++◌, ℕ, IfSome, List, Ok, Option, Some, codes}
use Rattle.prt_command.specs.Reading.{reading}
use Rattle.prt_command.specs.declared.request.Query.{Query}
use Rattle.prt_command.specs.declared.request.Request.TheVariants as requests
use Rattle.prt_feed.specs.Numbered.{numbered_from}
use Rattle.prt_feed.specs.Reading.{IsOpening}
use Rattle.prt_feed.specs.declared.opening.Opening.{Opening}
use Rattle.prt_import.specs.TableNames.{names_of}
use Rattle.prt_version.specs.RowsSpell.{RowsSpell}
use Rattle.prt_version.specs.State.{State}
use Rattle.prt_args.specs.declared.server_place.ServerPlace.{ServerPlace}
use Rattle.prt_questions.specs.Asking.{with_labels, named_answer}
use Rattle.prt_questions.specs.Sources.{AreTold, IsReply}
use Rattle.prt_questions.specs.declared.inquiry.Inquiry.{Inquiry}
use Rattle.prt_machine.specs.declared.local.Socket.{Socket}
use Rattle.prt_questions.specs.declared.remote.ServerAnswer.{ServerAnswer}
use Rattle.prt_questions.specs.declared.remote.ServerAnswer.TheVariants.{Reply, Tables}

-- a session reads a line as a query
abbrev pub IsQueryLine : List ℕ → Type 0
IsQueryLine line = (query : Query) × (reading line ≡ Ok (Some (requests.Query query)))

-- what a server is sent that is asked: one such line
abbrev pub IsInquiry : List ℕ → Type 0
IsInquiry sent = (line : List ℕ) × IsQueryLine line × (sent ≡ line ++ codes "\n")

-- these bytes of a feed begin with these tables, and the rest comes after them
abbrev pub IsFeedBefore : (bytes rest : Option (List ℕ)) → State → Type 0
IsFeedBefore bytes rest told =
    (opening : Opening) × IsOpening bytes rest opening × RowsSpell opening.number (numbered_from 1 opening.version.rules) opening.version.routes told

-- they begin with these tables
abbrev pub IsFeedOf : Option (List ℕ) → State → Type 0
IsFeedOf bytes told = (rest : Option (List ℕ)) × IsFeedBefore bytes rest told

-- these tables were told, or this was replied
abbrev pub TellsOrReplies : (tells : State → Type 0) → (replies : List ℕ → Type 0) → ServerAnswer → Type 0
TellsOrReplies tells replies (Tables version) = tells version
TellsOrReplies tells replies (Reply reply) = replies reply.items

module _ {N Stream : Type 0} (reaches : N → ServerPlace → Socket → List ℕ → Stream → Type 0) where
  -- this is a connection to a socket of the server at a place, over which these bytes were sent
  abbrev pub IsReached : N → ServerPlace → List ℕ → Stream → Type 0
  IsReached net place sent stream = (socket : Socket) × reaches net place socket sent stream

  -- its feed told these tables, or a session replied this
  abbrev pub IsToldBy : (Stream → Option (List ℕ)) → N → ServerPlace → (line : List ℕ) → ServerAnswer → Type 0
  IsToldBy said net place line told = TellsOrReplies (AreTold reaches said net place) (IsReply reaches said net place line) told

-- these bytes are those of a feed, or of the reply of a session
abbrev pub IsToldIn : Option (List ℕ) → ServerAnswer → Type 0
IsToldIn bytes told = TellsOrReplies (IsFeedOf bytes) (λ reply. IfSome bytes (λ all. reply ≡ all)) told

-- a text is what was said to an inquiry: the answer of the tables, or the reply, with the labels that it asks for
abbrev pub IsSaidOf : ServerAnswer → Inquiry → List ℕ → Type 0
IsSaidOf (Tables version) inquiry text = text ≡ named_answer inquiry version
IsSaidOf (Reply reply) inquiry text = text ≡ with_labels inquiry.labels inquiry.form (names_of inquiry.names.now) reply.items
