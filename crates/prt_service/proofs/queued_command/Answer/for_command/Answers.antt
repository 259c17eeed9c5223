use Rattle.std.proofs.Common.{◌≡◌, ◌∙◌, sym}
use Rattle.prt_service.proofs.SameCommand.{same_command}
use Rattle.prt_service.proofs.queued_command.Answer.for_command.Goals as goal

pub returns-then-eq : goal.returns-then-eq
returns-then-eq g c =
    let same : c.self.inside.command ≡ c.args.command.now = same_command _ _ (sym c.eq.ensures ∙ c.if-eq.true) in
    rw same at c.self.invariant
