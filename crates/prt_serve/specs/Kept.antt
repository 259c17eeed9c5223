-- What a published list keeps of the sessions that were served.
use Rattle.std.specs.Prelude.{◌≡◌, ◌≤◌, ℕ, All, List, [], ◌∷◌, Option, Some, None, Result, Ok, Err, length}
use mathlib.Core.Logic.{inl, inr}
use Rattle.prt_command.specs.Reading.{reading}
use Rattle.prt_command.specs.declared.request.Command.{Command}
use Rattle.prt_command.specs.declared.request.Request.{Request}
use Rattle.prt_command.specs.declared.request.Request.TheVariants as requests
use Rattle.prt_published.specs.Line.{Begins, Line}
use Rattle.prt_refusals.specs.declared.on_refusal.OnRefusal.TheVariants.{GoOn}
use Rattle.prt_refusals.specs.declared.refusal.Refusal.{Refusal}
use Rattle.prt_replies.specs.declared.reply.Reply.{Reply}
use Rattle.prt_replies.specs.declared.reply.Reply.TheVariants.{Accepted}
use Rattle.prt_replies.specs.declared.script_end.ScriptEnd.{ScriptEnd}
use Rattle.prt_serve.specs.Jobs.{ServesKind}
use Rattle.prt_serve.specs.Requests.{Event, number_of, service_turn}
use Rattle.prt_serve.specs.Together.{Follows, Outcome}
use Rattle.prt_serve.specs.declared.script_header.ScriptHeader.{ScriptHeader}
use Rattle.prt_serve.specs.declared.worker.SessionKind.{SessionKind}
use Rattle.prt_serve.specs.declared.worker.SessionKind.TheVariants.{InTurn, Together}
use Rattle.prt_service.specs.Service.{EndsWithAll}
use Rattle.prt_session.specs.Session.{Exchange, session}

-- ---- commands and their numbers

-- a prefix of the list ends with these commands, and this is the number of the last
abbrev pub HasUpTo : Line → ℕ → List Command → Type 0
HasUpTo line number commands = (receipt : Line) × Begins receipt line × EndsWithAll receipt.list commands × (number_of receipt ≡ number)

-- what is asked for is the command that has this number in the list
abbrev pub IsNumber : Line → ℕ → Result (Option Request) Refusal → Type 0
IsNumber line number (Ok (Some (requests.Command command))) = HasUpTo line number (command ∷ [])
IsNumber line number asked = ⊥

-- if the reply is `ok N`, this was asked for, and the list has it at the number N
abbrev pub HasReplied : Line → Result (Option Request) Refusal → Reply → Type 0
HasReplied line asked (Accepted number) = IsNumber line number asked
HasReplied line asked reply = Unit {0}

-- so it is with each exchange
abbrev pub HasExchanged : Line → List (Exchange Event) → Type 0
HasExchanged line [] = Unit {0}
HasExchanged line (x ∷ xs) = HasReplied line (reading x.line) x.reply × HasExchanged line xs

-- if commands were made together, `ok N` stands for the last of them, which has the number N in the list
abbrev pub HasMade : Line → List Command → Outcome → Type 0
HasMade line commands (Ok (Some last)) = HasUpTo line last commands
HasMade line commands came = Unit {0}

-- so it is with what followed the reading of a script
abbrev pub HasFollowed : (line : Line) (refusal : Option Reply) (header : ScriptHeader) (known0 known : Line) (commands : List Command)
    (writer0 writer : Option (List ℕ)) (read end : ScriptEnd) → Follows refusal header known0 known commands writer0 writer read end → Type 0
HasFollowed line (Some reply) header known0 known commands writer0 writer read end follows = Unit {0}
HasFollowed line None header known0 known commands writer0 writer read end (inl submitted) = HasMade line commands submitted.1.came
HasFollowed line None header known0 known commands writer0 writer read end (inr short) = Unit {0}

-- ---- sessions

-- the list has what was replied `ok N` in a session of this kind, or to a script, which was served so
abbrev pub HasAnswered : (line : Line) (kind : SessionKind) (known0 known : Line) (reader0 reader writer0 writer : Option (List ℕ))
    (end : ScriptEnd) → ServesKind kind known0 known reader0 reader writer0 writer end → Type 0
HasAnswered line InTurn known0 known reader0 reader writer0 writer end served =
    HasExchanged line (session service_turn known0 served.run.input GoOn served.run.mishaps).exchanges
HasAnswered line Together known0 known reader0 reader writer0 writer end (inl opens) =
    HasFollowed line opens.file.read.refusal opens.header known0 known opens.file.commands opens.file.between writer opens.file.reading end opens.file.follows
HasAnswered line Together known0 known reader0 reader writer0 writer end (inr fails) = Unit {0}

-- A session: its kind, what was known before it and after, what its reader had and what its writer had got, and how it ended.
pub record Session : Type 0 where
  pub kind : SessionKind
  pub known0 : Line
  pub known : Line
  pub reader0 : Option (List ℕ)
  pub reader : Option (List ℕ)
  pub writer0 : Option (List ℕ)
  pub writer : Option (List ℕ)
  pub end : ScriptEnd

-- A session was served, as its kind says, and this list has each command that was replied `ok N` in it, at the number N.
pub record IsKept (line : Line) (s : Session) : Type 0 where
  pub served : ServesKind s.kind s.known0 s.known s.reader0 s.reader s.writer0 s.writer s.end
  pub has : HasAnswered line s.kind s.known0 s.known s.reader0 s.reader s.writer0 s.writer s.end served

-- ---- shifts

-- each session began with what was known after the one before it
abbrev pub IsInTurn : Line → List Session → Line → Type 0
IsInTurn known0 [] known = known ≡ known0
IsInTurn known0 (session ∷ sessions) known = (session.known0 ≡ known0) × IsInTurn session.known sessions known

-- what a worker knew at its end, and how many sessions it served
pub record Work : Type 0 where
  pub known : Line
  pub served : ℕ

-- The sessions of a worker's shift, as many as it says at least, which were served in their turn: this list begins with what the
-- worker knew, and has each command that was replied `ok N`, at the number N.
pub record Keeps (line : Line) (work : Work) : Type 0 where
  pub begins : Begins work.known line
  pub first : Line
  pub sessions : List Session
  pub counted : work.served ≤ length sessions
  pub in_turn : IsInTurn first sessions work.known
  pub kept : All (IsKept line) sessions
