-- What the parts of a run do: one read, one line, one reply.
use Rattle.std.specs.Prelude.{◌≡◌, ℕ, ◌+◌, ◌≤◌, ◌==◌, ◌≢◌, Bool, true, false, List, [], ◌∷◌, ◌++◌, length, Option, Some, IfSome, Result, Ok, Err}
use Rattle.std.specs.Prelude.{if◌then◌else◌, ⊤}
use Rattle.std.specs.List.{All}
use Rattle.std.specs.Io.KnownBytes.{Consumes, IsAtEnd}
use Rattle.prt_refusals.specs.declared.refusal.Refusal.{Refusal}
use Rattle.prt_refusals.specs.declared.refusal.Refusal.TheVariants.{LineTooLong, ReadFault, TooManyLines, WriteFault}
use Rattle.prt_command.specs.Lines.{limits}
use Rattle.prt_command.specs.Storable.{IsStorable}
use Rattle.prt_command.specs.declared.request.Command.{Command}
use Rattle.prt_command.specs.declared.request.Request.{Request}
use Rattle.prt_replies.specs.Written.{Written}
use Rattle.prt_session.specs.Desk.{DeskState, Mishap, command_turn, commands_turn}
use Rattle.prt_session.specs.Form.{reply_in}
use Rattle.prt_replies.specs.ScriptEnd.{fault_after, refused_after}
use Rattle.prt_session.specs.Session.{Turn, TurnsOf, Mishaps, LineMay, line_turn, stops_after}
use Rattle.prt_session.specs.declared.form.Form.{Form}
use Rattle.prt_session.specs.declared.input.ByteRead.{ByteRead}
use Rattle.prt_session.specs.declared.input.ByteRead.TheVariants as bytes
use Rattle.prt_session.specs.declared.input.LineRead.{LineRead}
use Rattle.prt_session.specs.declared.input.Stop.{Stop}
use Rattle.prt_session.specs.declared.input.Stop.TheVariants as stops
use Rattle.prt_session.specs.declared.limits.TheConstants.{MOST_TOGETHER}
use Rattle.prt_replies.specs.declared.reply.Reply.{Reply}
use Rattle.prt_replies.specs.declared.reply.Reply.TheVariants.{Accepted, Refused}
use Rattle.prt_refusals.specs.declared.on_refusal.OnRefusal.{OnRefusal}
use Rattle.prt_replies.specs.declared.script_end.ScriptEnd.{ScriptEnd}

-- one read of one byte, at a reader that has these bytes left before and after
abbrev pub ByteIs : ByteRead → Option (List ℕ) → Option (List ℕ) → Type 0
ByteIs (bytes.Byte b) reader0 reader = Consumes reader0 reader (b ∷ [])
ByteIs bytes.End reader0 reader = Consumes reader0 reader [] × IsAtEnd reader
ByteIs bytes.Fault reader0 reader = Consumes reader0 reader []

abbrev pub HasNoNewline : List ℕ → Type 0
HasNoNewline [] = ⊤
HasNoNewline (b ∷ bs) = (b ≢ 10) × HasNoNewline bs

-- the newline that was read after a line
abbrev pub newline_read : Stop → List ℕ
newline_read stops.Newline = 10 ∷ []
newline_read stops.End = []
newline_read stops.Fault = []
newline_read stops.Endless = []

-- whether reading may stop there after this many bytes of a line
abbrev pub StopIs : Stop → ℕ → Option (List ℕ) → Type 0
StopIs stops.Newline count reader = count ≤ limits.unended
StopIs stops.End count reader = (count ≤ limits.unended) × IsAtEnd reader
StopIs stops.Fault count reader = count ≤ limits.unended
StopIs stops.Endless count reader = count ≡ limits.unended + 1

-- A line was read, to where reading stopped; it is kept if it is not too long.
pub record LineIs (reader0 reader : Option (List ℕ)) (kept : List ℕ) (line : LineRead) : Type 0 where
  pub content : List ℕ
  pub bare : HasNoNewline content
  pub read : Consumes reader0 reader (content ++ newline_read line.stop)
  pub count : length content ≡ line.length
  pub keeps : line.length ≤ 1024 → kept ≡ content
  pub stopped : StopIs line.stop line.length reader

-- for nothing that befalls it, or what may befall it, the turn has this reply, and leaves this desk
abbrev pub TurnGives : {D M : Type 0} → (Option M → Type 0) → (Option M → Turn D) → Reply → D → Type 0
TurnGives {D} {M} may turn reply desk = (mishap : Option M) × may mishap × (reply ≡ (turn mishap).reply) × (desk ≡ (turn mishap).desk)

-- the turn of a request
abbrev pub Gives : {D M : Type 0} → TurnsOf D M → Mishaps D M → D → Request → Reply → D → Type 0
Gives {D} {M} turn may desk0 request reply desk = TurnGives (may desk0 request) (turn desk0 request) reply desk

-- the turn of a whole line
abbrev pub LineGives : {D M : Type 0} → TurnsOf D M → Mishaps D M → D → List ℕ → Reply → D → Type 0
LineGives {D} {M} turn may desk0 line reply desk = TurnGives (LineMay may desk0 line) (line_turn turn desk0 line) reply desk

abbrev pub reply_of : Result ℕ Refusal → Reply
reply_of (Ok number) = Accepted number
reply_of (Err reason) = Refused reason

-- the turn of a command
abbrev pub CommandGives : (Mishap → Type 0) → DeskState → Command → Result ℕ Refusal → DeskState → Type 0
CommandGives may desk0 command result desk = TurnGives (λ mishap. IfSome mishap may) (command_turn desk0 command) (reply_of result) desk

-- as many commands as are made together, or fewer, whose routes and rules may be stored
abbrev pub AreSubmittable : List Command → Type 0
AreSubmittable commands = (length commands ≤ MOST_TOGETHER) × All IsStorable commands

-- the turn of commands that are made together or not at all
abbrev pub CommandsGive : (Mishap → Type 0) → DeskState → List Command → Result ℕ Refusal → DeskState → Type 0
CommandsGive may desk0 commands result desk =
    (mishap : Option Mishap) × IfSome mishap may × (result ≡ (commands_turn desk0 commands mishap).result)
    × (desk ≡ (commands_turn desk0 commands mishap).desk)

-- the reply to a line that was read to there
abbrev pub AnswerIs : {D M : Type 0} → TurnsOf D M → Mishaps D M → D → Stop → List ℕ → Reply → D → Type 0
AnswerIs {D} {M} turn may desk0 stops.Newline line reply desk = LineGives turn may desk0 line reply desk
AnswerIs {D} {M} turn may desk0 stops.End line reply desk = LineGives turn may desk0 line reply desk
AnswerIs {D} {M} turn may desk0 stops.Fault line reply desk = (reply ≡ Refused ReadFault) × (desk ≡ desk0)
AnswerIs {D} {M} turn may desk0 stops.Endless line reply desk = (reply ≡ Refused LineTooLong) × (desk ≡ desk0)

-- the input ended where a line would begin
abbrev pub is_nothing_by : Stop → ℕ → Bool
is_nothing_by stops.Newline count = false
is_nothing_by stops.End count = count == 0
is_nothing_by stops.Fault count = false
is_nothing_by stops.Endless count = false

abbrev pub is_nothing : LineRead → Bool
is_nothing line = is_nothing_by line.stop line.length

-- whether nothing is read after the reply to a line that was read to there
abbrev pub ends_after : OnRefusal → Stop → Reply → Bool
ends_after mode stops.Newline reply = stops_after mode reply
ends_after mode stops.End reply = true
ends_after mode stops.Fault reply = true
ends_after mode stops.Endless reply = true

-- A session ends with this reply, in place of one to the line of this number: all of it was written, or else a part of it.
pub record EndsWith (form : Form) (line : ℕ) (reply : Reply) (writer0 writer : Option (List ℕ)) (end0 end : ScriptEnd) : Type 0 where
  pub whole : Bool
  pub wrote : Written whole writer0 writer (reply_in form line reply)
  pub refused_is : end.refused ≡ refused_after end0.refused reply
  pub fault_is : end.fault ≡ (if whole then fault_after end0.fault reply else Some WriteFault)

-- a session ends where no line may follow, by what is read there
abbrev pub EndsBy : Form → ByteRead → Option (List ℕ) → Option (List ℕ) → ScriptEnd → ScriptEnd → Type 0
EndsBy form (bytes.Byte b) writer0 writer end0 end = EndsWith form (limits.lines + 1) (Refused TooManyLines) writer0 writer end0 end
EndsBy form bytes.End writer0 writer end0 end = (writer ≡ writer0) × (end ≡ end0)
EndsBy form bytes.Fault writer0 writer end0 end = EndsWith form (limits.lines + 1) (Refused ReadFault) writer0 writer end0 end

-- One byte was read where no line may follow, and the session ends.
pub record EndsAfterLast (form : Form) (reader0 reader writer0 writer : Option (List ℕ)) (end0 end : ScriptEnd) : Type 0 where
  pub byte : ByteRead
  pub read : ByteIs byte reader0 reader
  pub ends : EndsBy form byte writer0 writer end0 end
