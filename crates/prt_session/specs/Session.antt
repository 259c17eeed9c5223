-- The replies to a script, and what the script leaves, whatever executes its requests.
use Rattle.std.specs.Prelude.{◌≡◌, ℕ, ◌+◌, ◌-◌, ◌==◌, ◌&&◌, nat_lt, Bool, false, not, if◌then◌else◌, List, [], ◌∷◌, ◌++◌, length, map, drop, Option}
use Rattle.std.specs.Prelude.{Some, None, Result, Ok, Err}
use Rattle.prt_refusals.specs.declared.refusal.Refusal.{Refusal}
use Rattle.prt_refusals.specs.declared.refusal.Refusal.TheVariants.{LineTooLong, ReadFault, TooManyLines}
use Rattle.prt_command.specs.Lines.{Line, Limits, bytes_of, limits, lines_of}
use Rattle.prt_command.specs.Reading.{reading}
use Rattle.prt_command.specs.declared.request.Request.{Request}
use Rattle.prt_replies.specs.Input.{Input, Ending, end_of_input, read_fault, is_fault}
use Rattle.prt_replies.specs.Reply.{is_refused}
use Rattle.prt_replies.specs.declared.reply.Reply.{Reply}
use Rattle.prt_replies.specs.declared.reply.Reply.TheVariants.{Silent, Refused}
use Rattle.prt_refusals.specs.declared.on_refusal.OnRefusal.{OnRefusal}
use Rattle.prt_refusals.specs.declared.on_refusal.OnRefusal.TheVariants.{Stop, GoOn}

-- ---- one line

-- The reply to a line, and the desk after it.
pub record Turn (D : Type 0) : Type 0 where
  pub reply : Reply
  pub desk : D

-- a request's turn at a desk, with what befalls it
abbrev pub TurnsOf : Type 0 → Type 0 → Type 0
TurnsOf D M = D → Request → Option M → Turn D

-- what may befall a request at a desk
abbrev pub Mishaps : Type 0 → Type 0 → Type 1
Mishaps D M = D → Request → Option M → Type 0

abbrev pub turn_on : {D M : Type 0} → TurnsOf D M → D → Result (Option Request) Refusal → Option M → Turn D
turn_on {D} {M} turn desk (Err reason) mishap = record { reply = Refused reason; desk = desk }
turn_on {D} {M} turn desk (Ok None) mishap = record { reply = Silent; desk = desk }
turn_on {D} {M} turn desk (Ok (Some request)) mishap = turn desk request mishap

-- one whole line, without its newline
unfoldable pub line_turn : {D M : Type 0} → TurnsOf D M → D → List ℕ → Option M → Turn D
line_turn {D} {M} turn desk line mishap = turn_on turn desk (reading line) mishap

abbrev pub MayOn : {D M : Type 0} → Mishaps D M → D → Result (Option Request) Refusal → Option M → Type 0
MayOn {D} {M} may desk (Err reason) mishap = mishap ≡ None
MayOn {D} {M} may desk (Ok None) mishap = mishap ≡ None
MayOn {D} {M} may desk (Ok (Some request)) mishap = may desk request mishap

-- what may befall a whole line: nothing, if it asks for nothing
unfoldable pub LineMay : {D M : Type 0} → Mishaps D M → D → List ℕ → Option M → Type 0
LineMay {D} {M} may desk line mishap = MayOn may desk (reading line) mishap

-- A line that was executed, what befell it, and the reply to it.
pub record Exchange (M : Type 0) : Type 0 where
  pub line : List ℕ
  pub mishap : Option M
  pub reply : Reply

-- from desk to desk by these exchanges: what befell each line may befall it, and each reply is that of the line's turn
abbrev pub Path : {D M : Type 0} → TurnsOf D M → Mishaps D M → D → List (Exchange M) → D → Type 0
Path {D} {M} turn may desk0 [] desk = desk ≡ desk0
Path {D} {M} turn may desk0 (x ∷ xs) desk =
    LineMay may desk0 x.line x.mishap
    × (x.reply ≡ (line_turn turn desk0 x.line x.mishap).reply)
    × Path turn may (line_turn turn desk0 x.line x.mishap).desk xs desk

-- ---- the session

-- The lines that were executed, the reply after theirs that is to none of them, if there is one, the desk after them, and what is left unread.
pub record Session (D M : Type 0) : Type 0 where
  pub exchanges : List (Exchange M)
  pub last : List Reply
  pub desk : D
  pub unread : List ℕ

-- whether the session ends with this reply
unfoldable pub stops_after : OnRefusal → Reply → Bool
stops_after Stop reply = is_refused reply
stops_after GoOn reply = false

abbrev pub at_ending : Ending → List Reply
at_ending end_of_input = []
at_ending read_fault = Refused ReadFault ∷ []

-- each line has its mishap; if the list has none left, there is none
abbrev pub first_mishap : {M : Type 0} → List (Option M) → Option M
first_mishap {M} [] = None
first_mishap {M} (mishap ∷ mishaps) = mishap

-- no more lines are executed
abbrev pub ends : {D M : Type 0} → List Reply → D → List ℕ → Session D M
ends {D} {M} last desk unread = record { exchanges = []; last = last; desk = desk; unread = unread }

abbrev pub exchange_of : {D M : Type 0} → TurnsOf D M → D → List ℕ → Option M → Exchange M
exchange_of {D} {M} turn desk line mishap = record { line = line; mishap = mishap; reply = (line_turn turn desk line mishap).reply }

abbrev pub after_exchange : {D M : Type 0} → Exchange M → Session D M → Session D M
after_exchange {D} {M} x session = record session { exchanges = x ∷ session.exchanges }

-- the session on these lines, if this many more may come
unfoldable pub session_lines : {D M : Type 0} → TurnsOf D M → Limits → OnRefusal → Ending → ℕ → List Line → List (Option M) → D → Session D M
session_lines {D} {M} turn limit mode ending left [] mishaps desk = ends (at_ending ending) desk []
session_lines {D} {M} turn limit mode ending left (line ∷ lines) mishaps desk =
    if left == 0 then ends (Refused TooManyLines ∷ []) desk (drop 1 (bytes_of (line ∷ lines)))
    else (if nat_lt limit.unended (length line.content) then ends (Refused LineTooLong ∷ []) desk (drop (limit.unended + 1) (bytes_of (line ∷ lines)))
    else (if not line.ended && is_fault ending then ends (Refused ReadFault ∷ []) desk []
    else after_exchange (exchange_of turn desk line.content (first_mishap mishaps))
    (if stops_after mode (line_turn turn desk line.content (first_mishap mishaps)).reply
    then ends [] (line_turn turn desk line.content (first_mishap mishaps)).desk (bytes_of lines)
    else session_lines turn limit mode ending (left - 1) lines (drop 1 mishaps) (line_turn turn desk line.content (first_mishap mishaps)).desk)))

-- the session on an input
unfoldable pub session : {D M : Type 0} → TurnsOf D M → D → Input → OnRefusal → List (Option M) → Session D M
session {D} {M} turn desk input mode mishaps = session_lines turn limits mode input.ending limits.lines (lines_of input.bytes) mishaps desk

abbrev pub replies_of : {M : Type 0} → List (Exchange M) → List Reply
replies_of {M} xs = map (λ (x : Exchange M). x.reply) xs

-- its replies, in order
abbrev pub replies : {D M : Type 0} → Session D M → List Reply
replies {D} {M} session = replies_of session.exchanges ++ session.last
