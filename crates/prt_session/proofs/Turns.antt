-- Turns of a desk that is not closed, and that memory alone can fail.
use Rattle.std.proofs.Common.{◌≡◌, false, None, Some, Ok, Err, ap, refl, sym}
use Rattle.prt_refusals.specs.declared.refusal.Refusal.{Refusal}
use Rattle.prt_refusals.specs.declared.refusal.Refusal.TheVariants.{NoMemory}
use Rattle.prt_command.specs.declared.request.Command.{Command}
use Rattle.prt_session.specs.Desk.{IsNoMemory, no_memory, settled, command_or_refusal}
use Rattle.prt_session.specs.Steps.{CommandGives}
use Rattle.prt_version.specs.Change.{refusal, apply}
use Rattle.prt_version.specs.State.{State}

-- a command that is refused
pub refused_turn : (state : State) (command : Command) (reason : Refusal) → refusal state command ≡ Some reason → CommandGives IsNoMemory (settled state) command (Err reason) (settled state)
refused_turn state command reason e = (
  None,
  tt,
  ap (λ r. (command_or_refusal (settled state) command false r None).reply) (sym e),
  ap (λ r. (command_or_refusal (settled state) command false r None).desk) (sym e),
)

-- a command that nothing is wrong with, and memory is refused
pub memory_refused : (state : State) (command : Command) → refusal state command ≡ None → CommandGives IsNoMemory (settled state) command (Err NoMemory) (settled state)
memory_refused state command e = (
  Some no_memory,
  refl,
  ap (λ r. (command_or_refusal (settled state) command false r (Some no_memory)).reply) (sym e),
  ap (λ r. (command_or_refusal (settled state) command false r (Some no_memory)).desk) (sym e),
)

-- a command that is accepted
pub accepted_turn : (state next : State) (command : Command) → refusal state command ≡ None → next ≡ apply state command → CommandGives IsNoMemory (settled state) command (Ok next.count) (settled next)
accepted_turn state next command e n = (
  None,
  tt,
  rw n (ap (λ r. (command_or_refusal (settled state) command false r None).reply) (sym e)),
  rw n (ap (λ r. (command_or_refusal (settled state) command false r None).desk) (sym e)),
)
