use Rattle.std.proofs.Common.{Ok, Err, List, subst}
use Rattle.std.proofs.lemmas.Result.{err_from_is_err_and}
use Rattle.prt_command.specs.declared.request.Command.{Command}
use Rattle.prt_session.proofs.Submitted.{list_made, list_not_made}
use Rattle.prt_session.specs.Desk.{IsNoMemory, settled}
use Rattle.prt_session.specs.Steps.{CommandsGive}
use Rattle.prt_version.specs.State.{State}
use Rattle.prt_session.proofs.memory_desk.MemoryDeskDesk.commands.Goals as goal

pub returns-in_err-version : goal.returns-in_err-version
returns-in_err-version c =
    let refused = err_from_is_err_and c.from_residual.result c.from_residual.ensures.1 in
    let reason = c.in_err-version.field-0.0 in
    let not_made = list_not_made c.self.inside.version c.as_slice.result.now reason c.in_err-version.ensures.reason in
    record {
      turn = rw (refused.1, refused.2) (
          subst (λ (state : State). CommandsGive IsNoMemory (settled state) c.args.commands.now.items (Err reason) (settled state)) c.self.view_is
          (subst (λ (commands : List Command). CommandsGive IsNoMemory (settled c.self.inside.version) commands (Err reason) (settled c.self.inside.version)) c.as_slice.ensures.value not_made)
          );
    }

pub returns : goal.returns
returns c =
    let next = c.in_ok-version.version in
    let made = list_made c.self.inside.version next c.as_slice.result.now c.in_ok-version.ensures.accepted c.in_ok-version.ensures.version in
    record {
      turn = rw c.number.ensures.value (
          subst (λ (state : State). CommandsGive IsNoMemory (settled state) c.args.commands.now.items (Ok next.count) (settled next)) c.self.view_is
          (subst (λ (commands : List Command). CommandsGive IsNoMemory (settled c.self.inside.version) commands (Ok next.count) (settled next)) c.as_slice.ensures.value made)
          );
    }
