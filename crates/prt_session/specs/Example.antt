-- A session and an atomic file on a new database, and a check, for examples.
use Rattle.std.specs.Prelude.{ℕ, List, [], None, Option}
use Rattle.prt_session.specs.Atomic.{Outcome, atomic_output}
use Rattle.prt_session.specs.Check.{nothing_turn}
use Rattle.prt_session.specs.Desk.{DeskState, Mishap, settled, request_turn}
use Rattle.prt_session.specs.Form.{numbered_from}
use Rattle.prt_replies.specs.Reply.{replies_text}
use Rattle.prt_replies.specs.Input.{Ending, end_of_input}
use Rattle.prt_session.specs.Session.{Session, session, replies}
use Rattle.prt_refusals.specs.declared.on_refusal.OnRefusal.{OnRefusal}
use Rattle.prt_refusals.specs.declared.on_refusal.OnRefusal.TheVariants.{GoOn}
use Rattle.prt_version.specs.State.{opening_state}

abbrev pub session_on : OnRefusal → List ℕ → Ending → List (Option Mishap) → Session DeskState Mishap
session_on mode bytes ending mishaps = session request_turn (settled opening_state) (record { bytes = bytes; ending = ending }) mode mishaps

-- the bytes that are replied
abbrev pub replies_to : OnRefusal → List ℕ → Ending → List (Option Mishap) → List ℕ
replies_to mode bytes ending mishaps = replies_text (replies (session_on mode bytes ending mishaps))

-- the bytes that a check writes
abbrev pub refusals_of : List ℕ → Ending → List ℕ
refusals_of bytes ending = numbered_from 1 (replies (session nothing_turn tt (record { bytes = bytes; ending = ending }) GoOn []))

-- what comes of an atomic file, if nothing befalls it
abbrev pub atomic_on : List ℕ → Outcome
atomic_on bytes = atomic_output (settled opening_state) (record { bytes = bytes; ending = end_of_input }) [] None

-- the bytes that it replies
abbrev pub atomic_replies_to : List ℕ → List ℕ
atomic_replies_to bytes = replies_text (atomic_on bytes).replies
