-- Lookups of C: in a version's state, and in what a holder holds.
use Rattle.std.specs.Prelude.{ℕ, Option, Some, None, Result, Ok, Err}
use Rattle.prt_refusals.specs.Refusal.{code_of}
use Rattle.prt_refusals.specs.declared.refusal.Refusal.{Refusal}
use Rattle.prt_command.specs.Then.{◌>>=◌}
use Rattle.prt_version.specs.Select.{select}
use Rattle.prt_version.specs.State.{State}
use Rattle.prt_c.specs.Answer.{answer_of}
use Rattle.prt_c.specs.Packet.{packet_of}
use Rattle.prt_c.specs.declared.answer.AnswerC.{AnswerC}
use Rattle.prt_c.specs.declared.packet.PacketC.{PacketC}
use Rattle.prt_c.specs.declared.status.TheConstants.{DONE, EMPTY}

-- the answer to a packet, or why it is none
abbrev pub answer_to : State → PacketC → Result AnswerC Refusal
answer_to state packet = packet_of packet >>= λ looked_up. Ok (answer_of state.count (select state looked_up))

-- the same of what is held
abbrev pub held_answer : Option State → PacketC → Option (Result AnswerC Refusal)
held_answer None packet = None
held_answer (Some state) packet = Some (answer_to state packet)

-- what a lookup returns: 0, the number of a refusal, or that nothing is held
abbrev pub status : {A : Type 0} → Option (Result A Refusal) → ℕ
status None = EMPTY
status (Some (Ok answer)) = DONE
status (Some (Err reason)) = code_of reason

-- what a lookup leaves in the place of what it finds, if this was there
abbrev pub written : {A : Type 0} → Option (Result A Refusal) → A → A
written (Some (Ok answer)) before = answer
written (Some (Err reason)) before = before
written None before = before
