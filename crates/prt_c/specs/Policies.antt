-- What each call on policy tables returns, and what it leaves in what C holds.
use Rattle.std.specs.Prelude.{◌≡◌, ◌⊎◌, ℕ, List, Option, option_map, None, Some, Result, Ok, Err}
use Rattle.std.specs.Arc.{arc_value}
use Rattle.prt_refusals.specs.Refusal.{code_of}
use Rattle.prt_refusals.specs.declared.refusal.Refusal.{Refusal}
use Rattle.prt_refusals.specs.declared.refusal.Refusal.TheVariants.{NoMemory}
use Rattle.prt_command.specs.Then.{◌>>=◌}
use Rattle.prt_version.specs.Select.{select}
use Rattle.prt_version.specs.State.{State}
use Rattle.prt_lines.specs.Lines.{line_refusal, line_state}
use Rattle.prt_partition.specs.Sameness.{outcome_of}
use Rattle.prt_fib.specs.Policy.{IsUnfit}
use Rattle.prt_c.specs.Outcome.{outcome_in_c}
use Rattle.prt_c.specs.Packet.{packet_of}
use Rattle.prt_c.specs.declared.outcome.OutcomeC.{OutcomeC}
use Rattle.prt_c.specs.declared.packet.PacketC.{PacketC}
use Rattle.prt_c.specs.declared.policy_held.PolicyHeld.{PolicyHeld}
use Rattle.prt_c.specs.declared.policy_owner.PolicyOwner.{PolicyOwner}
use Rattle.prt_c.specs.declared.status.TheConstants.{DONE, EMPTY}

-- the state of the policy table that a holder owns, if it owns one
abbrev pub held_policy : Option PolicyOwner → Option State
held_policy held = option_map (λ (owner : PolicyOwner). arc_value owner.policy) held

-- ---- new tables

abbrev pub PutsPolicy : Option PolicyOwner → Result PolicyHeld Refusal → Option PolicyOwner → ℕ → Type 0
PutsPolicy before (Ok made) after result = (result ≡ DONE) × (after ≡ made.home)
PutsPolicy before (Err reason) after result = (result ≡ code_of reason) × (after ≡ before)

-- the table of the state is held afterwards, or the result is the reason's number and what was held stays
abbrev pub IsNewPolicy : Option State → Option PolicyOwner → Option PolicyOwner → ℕ → Type 0
IsNewPolicy None before after result = (result ≡ EMPTY) × (after ≡ before)
IsNewPolicy (Some state) before after result =
    ((result ≡ DONE) × (held_policy after ≡ Some state)) ⊎ ((reason : Refusal) × (result ≡ code_of reason) × (after ≡ before) × IsUnfit state reason)

-- one owner more of the same table
abbrev pub IsSharedPolicy : Option State → Option PolicyOwner → Option PolicyOwner → ℕ → Type 0
IsSharedPolicy None before after result = (result ≡ EMPTY) × (after ≡ before)
IsSharedPolicy (Some state) before after result = ((result ≡ DONE) × (held_policy after ≡ Some state)) ⊎ ((result ≡ code_of NoMemory) × (after ≡ before))

-- ---- lines

-- why a line is not followed: it is refused, or the state after it has no table
abbrev pub IsUnfollowed : State → List ℕ → Refusal → Type 0
IsUnfollowed state line reason = (line_refusal state line ≡ Some reason) ⊎ IsUnfit (line_state state line) reason

-- The table is that of the state after the line, and the number is that of the commands accepted so far.
pub record IsFollowed (state : State) (line : List ℕ) (after : Option PolicyOwner) (number result : ℕ) : Type 0 where
  pub done : result ≡ DONE
  pub allowed : line_refusal state line ≡ None
  pub made : held_policy after ≡ Some (line_state state line)
  pub counted : number ≡ (line_state state line).count

-- What is held and the number are as they were.
pub record IsLeft (state : State) (line : List ℕ) (before after : Option PolicyOwner) (number_before number result : ℕ) : Type 0 where
  pub reason : Refusal
  pub told : result ≡ code_of reason
  pub why : IsUnfollowed state line reason
  pub same : after ≡ before
  pub uncounted : number ≡ number_before

abbrev pub IsAfterLine : Option PolicyOwner → List ℕ → Option PolicyOwner → ℕ → ℕ → ℕ → Type 0
IsAfterLine None line after number_before number result = (result ≡ EMPTY) × (after ≡ None) × (number ≡ number_before)
IsAfterLine (Some owner) line after number_before number result =
    IsFollowed (arc_value owner.policy) line after number result
    ⊎ IsLeft (arc_value owner.policy) line (Some owner) after number_before number result

-- ---- lookups

-- what becomes of a packet, or why that is not told
abbrev pub outcome_for : State → PacketC → Result OutcomeC Refusal
outcome_for state packet = packet_of packet >>= λ looked_up. Ok (outcome_in_c (outcome_of (select state looked_up)))

-- the same of what is held
abbrev pub held_outcome : Option State → PacketC → Option (Result OutcomeC Refusal)
held_outcome None packet = None
held_outcome (Some state) packet = Some (outcome_for state packet)
