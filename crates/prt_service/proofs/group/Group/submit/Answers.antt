use Rattle.std.proofs.Common.{◌≡◌, List, ap, subst, sym, ◌∙◌}
use Rattle.prt_command.specs.declared.request.Command.{Command}
use Rattle.prt_publisher.specs.ChangeSet.{Planned}
use Rattle.prt_service.specs.Group.{HaveUnknownFate}
use Rattle.prt_service.proofs.Refusals.{unknown_fate}
use Rattle.prt_service.proofs.group.Group.submit.Goals as goal

pub returns-in-Err-clause-fate : goal.returns-in-Err-clause-fate
returns-in-Err-clause-fate g c =
    let is : c.as_slice.result.now ≡ c.args.self.commands = c.as_slice.ensures.value ∙ c.in-Some.ensures.0 ∙ c.commands.ensures.value ∙ ap (λ (p : Planned). p.commands) c.self.view_is in
    subst (λ (list : List Command). HaveUnknownFate g.S.Store c.args.publisher.now list c.in-Err.reason c.submit_set.new.self) is
    (unknown_fate g.S.Store c.args.publisher.now c.as_slice.result.now c.in-Err.reason c.submit_set.new.self c.in-Err.ensures.err (sym c.have_unknown_fate.ensures ∙ c.if-have_unknown_fate.true))
