-- The reading of an atomic file: its lines are answered by silence, up to the first that is refused.
use Rattle.std.proofs.Common.{◌≡◌, ◌≢◌, ◌⊎◌, ℕ, ◌-◌, ◌==◌, ◌&&◌, nat_lt, true, false, not, List, [], ◌∷◌, ◌++◌, drop, length, Option, Some, None, Result, Ok, Err, inl, inr, refl, sym, ap, ◌<◌, arith, length-append}
use Rattle.std.proofs.lemmas.Bool.Decides.{nat_tests}
use Rattle.std.proofs.lemmas.List.Elements.{All-append, All-cons, All-nil}
use Rattle.std.specs.Prelude.{⊤, find}
use Rattle.prt_refusals.specs.declared.on_refusal.OnRefusal.TheVariants.{Stop}
use Rattle.prt_refusals.specs.declared.refusal.Refusal.{Refusal}
use Rattle.prt_refusals.specs.declared.refusal.Refusal.TheVariants.{NoMemory, ReadFault}
use Rattle.prt_command.specs.Lines.{Limits, Line, limits, lines_of}
use Rattle.prt_command.specs.Reading.{reading}
use Rattle.prt_command.specs.Storable.{IsStorable}
use Rattle.prt_command.specs.declared.request.Command.{Command}
use Rattle.prt_command.specs.declared.request.Request.{Request}
use Rattle.prt_command.specs.declared.request.Request.TheVariants as requests
use Rattle.prt_session.proofs.Length.{sides}
use Rattle.prt_session.specs.Atomic.{CollectMay, alone, collect_turn, collected, with_command}
use Rattle.prt_session.specs.Desk.{Mishap, no_memory}
use Rattle.prt_replies.specs.Reply.{is_refused, replies_text}
use Rattle.prt_replies.specs.ScriptEnd.{is_fault_refusal}
use Rattle.prt_session.specs.Run.{fault_in, refused_in}
use Rattle.prt_replies.specs.Input.{Ending, end_of_input, Input, is_fault, read_fault}
use Rattle.prt_session.specs.Session.{Path, Session, Turn, first_mishap, line_turn, replies, session, session_lines, stops_after, turn_on}
use Rattle.prt_session.specs.Steps.{AreSubmittable, Gives}
use Rattle.prt_session.specs.declared.limits.TheConstants.{MOST_TOGETHER}
use Rattle.prt_replies.specs.declared.reply.Reply.{Reply}
use Rattle.prt_replies.specs.declared.reply.Reply.TheVariants.{Accepted, Answered, Refused, Silent}

-- ---- one line

-- A turn of the collector: silence, or a refusal that leaves the commands as they were.
pub record IsCollecting (commands : List Command) (turn : Turn (List Command)) : Type 0 where
  pub told : (turn.reply ≡ Silent) ⊎ ((reason : Refusal) × (turn.reply ≡ Refused reason))
  pub stays : is_refused turn.reply ≡ true → turn.desk ≡ commands

taking : (commands : List Command) (command : Command) (mishap : Option Mishap) → IsCollecting commands (with_command commands command mishap)
taking commands command None = record { told = inl refl; stays = λ e. absurd (cc) }
taking commands command (Some mishap) = record { told = inr (_, refl); stays = λ e. refl }

collecting_by : (commands : List Command) (mishap : Option Mishap) (read : Result (Option Request) Refusal) → IsCollecting commands (turn_on collect_turn commands read mishap)
collecting_by commands mishap (Err reason) = record { told = inr (reason, refl); stays = λ e. refl }
collecting_by commands mishap (Ok None) = record { told = inl refl; stays = λ e. refl }
collecting_by commands mishap (Ok (Some (requests.Query query))) = record { told = inr (_, refl); stays = λ e. refl }
collecting_by commands mishap (Ok (Some (requests.Command command))) = elim (sides (nat_lt (length commands) MOST_TOGETHER)) [
  | inl room ↦ rw room (taking commands command mishap)
  | inr full ↦ rw full (record { told = inr (_, refl); stays = λ e. refl })
]

collecting : (commands : List Command) (line : List ℕ) (mishap : Option Mishap) → IsCollecting commands (line_turn collect_turn commands line mishap)
unfolding line_turn
collecting commands line mishap = collecting_by commands mishap (reading line)

-- ---- all lines

-- silence, and at most one refusal, which is the last
abbrev pub IsReading : List Reply → Type 0
IsReading [] = ⊤
IsReading (Silent ∷ told) = IsReading told
IsReading (Refused reason ∷ told) = told ≡ []
IsReading (Accepted number ∷ told) = ⊥
IsReading (Answered text ∷ told) = ⊥

last_told : (commands : List Command) (turn : Turn (List Command)) → IsCollecting commands turn → IsReading (turn.reply ∷ [])
last_told commands turn is = elim is.told [ inl e ↦ rw e tt | inr refused ↦ rw refused.1 refl ]

more_told : (commands : List Command) (turn : Turn (List Command)) (told : List Reply) → IsCollecting commands turn → is_refused turn.reply ≡ false → IsReading told → IsReading (turn.reply ∷ told)
more_told commands turn told is goes h = elim is.told [ inl e ↦ rw e h | inr refused ↦ absurd (cc) ]

lines_told : (limit : Limits) (ending : Ending) (left : ℕ) (lines : List Line) (mishaps : List (Option Mishap)) (commands : List Command) → IsReading (replies (session_lines collect_turn limit Stop ending left lines mishaps commands))
unfolding session_lines stops_after
lines_told limit end_of_input left [] mishaps commands = tt
lines_told limit read_fault left [] mishaps commands = refl
lines_told limit ending left (line ∷ lines) mishaps commands =
    let turn = line_turn collect_turn commands line.content (first_mishap mishaps) in
    let is = collecting commands line.content (first_mishap mishaps) in
    elim (sides (left == 0)) [
      | inl none ↦ rw none refl
      | inr some ↦ elim (sides (nat_lt limit.unended (length line.content))) [
        | inl long ↦ rw (some, long) refl
        | inr short ↦ elim (sides (not line.ended && is_fault ending)) [
          | inl cut ↦ rw (some, short, cut) refl
          | inr on ↦ elim (sides (is_refused turn.reply)) [
            | inl stop ↦ rw (some, short, on, stop) (last_told commands turn is)
            | inr go ↦ rw (some, short, on, go) (more_told commands turn _ is go (lines_told limit ending (left - 1) lines (drop 1 mishaps) turn.desk))
          ]
        ]
      ]
    ]

pub collected_told : (input : Input) (mishaps : List (Option Mishap)) → IsReading (replies (collected input mishaps))
unfolding session
collected_told input mishaps = lines_told limits input.ending limits.lines (lines_of input.bytes) mishaps []

-- ---- what the refusal says for all

-- The replies of a reading say what its refusal says.
pub record SaysAlone (told : List Reply) (refusal : Option Reply) : Type 0 where
  pub text : replies_text told ≡ replies_text (alone refusal)
  pub refused : refused_in false told ≡ refused_in false (alone refusal)
  pub fault : fault_in None told ≡ fault_in None (alone refusal)

pub says_alone : (told : List Reply) → IsReading told → SaysAlone told (find is_refused told)
unfolding replies_text refused_in fault_in
says_alone [] h = record { text = refl; refused = refl; fault = refl }
says_alone (Silent ∷ told) h = let rest = says_alone told h in record { text = rest.text; refused = rest.refused; fault = rest.fault }
says_alone (Refused reason ∷ told) h = record { text = rw h refl; refused = rw h refl; fault = rw h refl }
says_alone (Accepted number ∷ told) h = absurd h
says_alone (Answered text ∷ told) h = absurd h

-- the first refusal is one
pub found : (told : List Reply) → IsReading told → (find is_refused told ≡ None) ⊎ ((reason : Refusal) × (find is_refused told ≡ Some (Refused reason)))
found [] h = inl refl
found (Silent ∷ told) h = found told h
found (Refused reason ∷ told) h = inr (reason, refl)
found (Accepted number ∷ told) h = absurd h
found (Answered text ∷ told) h = absurd h

-- a refusal is refused, or a fault
pub refused_or_fault : (reason : Refusal) → refused_in false (Refused reason ∷ []) ≡ false → fault_in None (Refused reason ∷ []) ≡ None → ⊥
unfolding refused_in fault_in
refused_or_fault reason refused fault = elim (sides (is_fault_refusal reason)) [
  | inl is ↦ let e = rw is at fault in absurd (cc)
  | inr not_fault ↦ let e = rw not_fault at refused in absurd (cc)
]

-- ---- a reply that is not silence

-- Such a reply in a reading is its refusal, and the last.
pub record IsItsRefusal (told more : List Reply) (reply : Reply) : Type 0 where
  pub silent : replies_text told ≡ []
  pub none_after : more ≡ []
  pub is_found : find is_refused (told ++ reply ∷ more) ≡ Some reply

not_empty : (told more : List Reply) (reply : Reply) → told ++ reply ∷ more ≡ [] → ⊥
not_empty [] more reply e = absurd (cc)
not_empty (first ∷ told) more reply e = absurd (cc)

pub its_refusal : (told more : List Reply) (reply : Reply) → IsReading (told ++ reply ∷ more) → reply ≢ Silent → IsItsRefusal told more reply
unfolding replies_text
its_refusal [] more Silent h is_written = absurd (is_written refl)
its_refusal [] more (Refused reason) h is_written = record { silent = refl; none_after = h; is_found = refl }
its_refusal [] more (Accepted number) h is_written = absurd h
its_refusal [] more (Answered text) h is_written = absurd h
its_refusal (Silent ∷ told) more reply h is_written = let rest = its_refusal told more reply h is_written in record { silent = rest.silent; none_after = rest.none_after; is_found = rest.is_found }
its_refusal (Refused reason ∷ told) more reply h is_written = absurd (not_empty told more reply h)
its_refusal (Accepted number ∷ told) more reply h is_written = absurd h
its_refusal (Answered text ∷ told) more reply h is_written = absurd h

-- ---- a reading whose reader fails where the bytes end

-- It has the same commands, and leaves nothing if the other does.
pub record IsAlike (commands : List Command) (one other : Session (List Command) Mishap) : Type 0 where
  pub same : other.desk ≡ one.desk
  pub unread : one.unread ≡ [] → other.unread ≡ []
  pub path : Path collect_turn CollectMay commands one.exchanges one.desk → Path collect_turn CollectMay commands other.exchanges other.desk

is_alike : (commands : List Command) (one : Session (List Command) Mishap) → IsAlike commands one one
is_alike commands one = record { same = refl; unread = λ e. e; path = λ p. p }

first_of : (a b : Reply) (as_ bs : List Reply) → a ∷ as_ ≡ b ∷ bs → a ≡ b
first_of a b as_ bs e = cc

rest_of : (a b : Reply) (as_ bs : List Reply) → a ∷ as_ ≡ b ∷ bs → as_ ≡ bs
rest_of a b as_ bs e = cc

lines_alike : (limit : Limits) (ending : Ending) (left : ℕ) (lines : List Line) (mishaps : List (Option Mishap)) (commands : List Command) →
    replies (session_lines collect_turn limit Stop read_fault left lines mishaps commands) ≡ replies (session_lines collect_turn limit Stop ending left lines mishaps commands) →
    IsAlike commands (session_lines collect_turn limit Stop ending left lines mishaps commands) (session_lines collect_turn limit Stop read_fault left lines mishaps commands)
unfolding session_lines stops_after
lines_alike limit ending left [] mishaps commands e = record { same = refl; unread = λ _. refl; path = λ p. p }
lines_alike limit ending left (line ∷ lines) mishaps commands e =
    let turn = line_turn collect_turn commands line.content (first_mishap mishaps) in
    let is = collecting commands line.content (first_mishap mishaps) in
    elim (sides (left == 0)) [
      | inl none ↦ rw none (is_alike commands _)
      | inr some ↦ elim (sides (nat_lt limit.unended (length line.content))) [
        | inl long ↦ rw (some, long) (is_alike commands _)
        | inr short ↦ elim (sides line.ended) [
          | inl ended ↦ elim (sides (is_refused turn.reply)) [
            | inl stop ↦ rw (some, short, ended, stop) (is_alike commands _)
            | inr go ↦
                let rest = lines_alike limit ending (left - 1) lines (drop 1 mishaps) turn.desk (rest_of _ _ _ _ (rw (some, short, ended, go) at e)) in
                rw (some, short, ended, go) (record { same = rest.same; unread = rest.unread; path = λ p. (p.0, p.1, rest.path p.2) })
          ]
          | inr unended ↦ elim (sides (is_fault ending)) [
            | inl fault ↦ rw (some, short, unended, fault) (is_alike commands _)
            | inr sound ↦
                let told : turn.reply ≡ Refused ReadFault = sym (first_of _ _ _ _ (rw (some, short, unended, sound) at e)) in
                let stop : is_refused turn.reply ≡ true = ap is_refused told in
                rw (some, short, unended, sound, stop) (record { same = sym (is.stays stop); unread = λ _. refl; path = λ p. refl })
          ]
        ]
      ]
    ]

pub collected_alike : (input : Input) (mishaps : List (Option Mishap)) → replies (collected (record input { ending = read_fault }) mishaps) ≡ replies (collected input mishaps) → IsAlike [] (collected input mishaps) (collected (record input { ending = read_fault }) mishaps)
unfolding session
collected_alike input mishaps e = lines_alike limits input.ending limits.lines (lines_of input.bytes) mishaps [] e

-- ---- what the collector's code needs

room_there : (commands : List Command) → length commands < MOST_TOGETHER → nat_lt (length commands) MOST_TOGETHER ≡ true
room_there commands h = grind (arith, nat_tests)

-- a command for which there is no memory
pub without_memory : (commands : List Command) (request : Request) (command : Command) → request ≡ requests.Command command → length commands < MOST_TOGETHER → Gives collect_turn CollectMay commands request (Refused NoMemory) commands
without_memory commands request command is room = (Some no_memory, refl, rw (is, room_there commands room) refl, rw (is, room_there commands room) refl)

-- one more command
pub more_fit : (commands : List Command) (command : Command) → length commands < MOST_TOGETHER → AreSubmittable commands → IsStorable command → AreSubmittable (commands ++ command ∷ [])
more_fit commands command room fit storable =
    (simp length-append (omega arith), All-append IsStorable commands (command ∷ []) fit.1 (All-cons IsStorable command [] storable (All-nil IsStorable)))
