-- What a publisher keeps of the commands under way.
use Rattle.std.specs.Prelude.{◌≡◌, ◌+◌, ◌≤◌, All, List, [], ◌∷◌, length, None, Some, Ok}
use Rattle.std.specs.Arc.{arc_value}
use Rattle.prt_command.specs.Storable.{IsStorable}
use Rattle.prt_command.specs.declared.request.Command.{Command}
use Rattle.prt_version.specs.Accepted.{IsAccepted, changes_of}
use Rattle.prt_version.specs.Change.{check, fold}
use Rattle.prt_version.specs.Sound.{IsSound}
use Rattle.prt_version.specs.State.{State}
use Rattle.prt_publisher.specs.declared.checked.Checked.{Checked}
use Rattle.prt_publisher.specs.declared.checked.CheckedCommands.{CheckedCommands}
use Rattle.prt_publisher.specs.declared.checked.CheckedCommands.TheVariants.{One, Several}
use Rattle.prt_publisher.specs.declared.phase.Phase.{Phase}
use Rattle.prt_publisher.specs.declared.phase.Phase.TheVariants as phase
use Rattle.prt_publisher.specs.declared.plan.Plan.{Plan}
use Rattle.prt_publisher.specs.declared.publisher.Step.{Step}
use Rattle.prt_publisher.specs.declared.publisher.Step.TheVariants.{Ready, Admitted, Prepared, Committed, Published, Closed}

-- ---- commands that were checked

abbrev pub commands_in : CheckedCommands → List Command
commands_in (One command change) = command ∷ []
commands_in (Several set) = set.commands

abbrev pub commands_checked : Checked → List Command
commands_checked checked = commands_in checked.commands

-- the change of one command is the one that it makes of the state, and several are planned over it
abbrev pub FitsState : State → CheckedCommands → Type 0
FitsState published (One command change) = check published command ≡ Ok change
FitsState published (Several set) = set.base ≡ published

-- The storable commands are refused for nothing, one after the other, and what was worked out for them is of the published state.
pub record AreChecked (published : State) (checked : Checked) : Type 0 where
  pub sound : IsSound published
  pub some : 1 ≤ length (commands_checked checked)
  pub storable : All IsStorable (commands_checked checked)
  pub accepted : IsAccepted published (commands_checked checked)
  pub fits : FitsState published checked.commands

-- ---- the step

abbrev pub phase_of : Step → Phase
phase_of Ready = phase.Ready
phase_of (Admitted checked) = phase.Admitted
phase_of (Prepared plan) = phase.Prepared
phase_of (Committed plan stamp) = phase.Committed
phase_of (Published commands noted) = phase.Published
phase_of (Closed unpublished) = phase.Closed

abbrev pub commands_of : Step → List Command
commands_of Ready = []
commands_of (Admitted checked) = commands_checked checked
commands_of (Prepared plan) = plan.commands.items
commands_of (Committed plan stamp) = plan.commands.items
commands_of (Published commands noted) = commands.items
commands_of (Closed None) = []
commands_of (Closed (Some commands)) = commands.items

-- The changes are those that the storable commands make of the published state, one after the other, and each of the three is the state after them.
pub record IsPlan (published : State) (plan : Plan) : Type 0 where
  pub sound : IsSound published
  pub some : 1 ≤ length plan.commands.items
  pub storable : All IsStorable plan.commands.items
  pub accepted : IsAccepted published plan.commands.items
  pub changes : plan.changes.items ≡ changes_of published plan.commands.items
  pub next : arc_value plan.next ≡ fold published plan.commands.items
  pub shown : arc_value plan.shown ≡ fold published plan.commands.items
  pub noted : arc_value plan.noted ≡ fold published plan.commands.items

-- what is kept of commands belongs to the published state
abbrev pub IsStep : State → Step → Type 0
IsStep published Ready = Unit {0}
IsStep published (Admitted checked) = AreChecked published checked
IsStep published (Prepared plan) = IsPlan published plan
IsStep published (Committed plan stamp) = IsPlan published plan × (stamp.number ≡ published.count + length plan.commands.items)
IsStep published (Published commands noted) = (1 ≤ length commands.items) × (arc_value noted ≡ published)
IsStep published (Closed None) = Unit {0}
IsStep published (Closed (Some commands)) = (1 ≤ length commands.items) × IsAccepted published commands.items
