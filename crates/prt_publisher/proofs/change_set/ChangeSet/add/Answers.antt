use Rattle.std.proofs.Common.{◌≡◌, Ok, ap, sym, subst, ◌∙◌}
use Rattle.std.specs.Result.{result_err}
use Rattle.prt_command.specs.declared.request.Command.{Command}
use Rattle.prt_version.proofs.Folds.{accepted_grown}
use Rattle.prt_version.specs.Accepted.{IsAccepted}
use Rattle.prt_version.specs.Change.{check, fold}
use Rattle.prt_version.specs.State.{State}
use Rattle.prt_publisher.specs.ChangeSet.{Planned}
use Rattle.prt_publisher.proofs.change_set.ChangeSet.add.Goals as goal

pub returns-in_ok-add_checked-in-Ok-clause-accepted : goal.returns-in_ok-add_checked-in-Ok-clause-accepted
returns-in_ok-add_checked-in-Ok-clause-accepted c =
    let inside = c.self.inside in
    let old : Planned = c.args.self.now in
    let command : Command = c.args.command.now in
    let before : IsAccepted old.base old.commands = subst (λ (p : Planned). IsAccepted p.base p.commands) c.self.view_is c.self.invariant.0 in
    let last : inside.last ≡ fold old.base old.commands = c.self.invariant.2 ∙ ap (λ (p : Planned). fold p.base p.commands) c.self.view_is in
    let makes : check (fold old.base old.commands) command ≡ Ok c.in-Ok.change = subst (λ (s : State). check s command ≡ Ok c.in-Ok.change) last (sym c.in-Ok.ensures.value) in
    subst (λ (p : Planned). IsAccepted p.base p.commands) (sym c.in_ok-add_checked-in-Ok.ensures.ok) (accepted_grown old.base old.commands command before (ap result_err makes))
