use Rattle.std.proofs.Common.{◌≡◌, ap, sym, subst, ◌∙◌}
use Rattle.prt_published.specs.Line.{line_state}
use Rattle.prt_version.specs.State.{State}
use Rattle.prt_publisher.specs.Standing.{Standing}
use Rattle.prt_publisher.specs.Step.{AreChecked, IsStep, commands_checked, commands_of}
use Rattle.prt_publisher.specs.declared.publisher.Step.TheVariants as step
use Rattle.prt_publisher.proofs.publisher.Publisher.plan.Goals as goal

pub returns-in-Err-clause-allowed : goal.returns-in-Err-clause-allowed
returns-in-Err-clause-allowed g c =
    let checked = c.take_admitted-checked.result in
    let s : State = line_state c.self.inside.front in
    let is : c.self.inside.step ≡ step.Admitted checked = c.take_admitted-checked.ensures.was in
    let are : AreChecked s checked = subst (IsStep s) is c.self.invariant.3 in
    let shown : line_state c.args.self.now.line ≡ s = ap (λ (v : Standing _). line_state v.line) (sym c.self.view_is) in
    let under : c.args.self.now.commands ≡ commands_checked checked = ap (λ (v : Standing _). v.commands) (sym c.self.view_is) ∙ ap commands_of is in
    rw (shown, under) are.accepted
