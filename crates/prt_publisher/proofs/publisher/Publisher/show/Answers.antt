use Rattle.std.proofs.Common.{◌≡◌, ◌+◌, ap, sym, ◌∙◌, length, subst, arith}
use Rattle.std.specs.Arc.{arc_value}
use Rattle.prt_published.specs.Line.{grown_by, line_state}
use Rattle.prt_version.specs.Change.{fold}
use Rattle.prt_version.specs.State.{State}
use Rattle.prt_store.specs.Exits.{IsStored}
use Rattle.prt_publisher.specs.Standing.{Agrees, unnoted}
use Rattle.prt_publisher.specs.Step.{IsStep, commands_of, phase_of}
use Rattle.prt_publisher.specs.declared.publisher.Step.{Step}
use Rattle.prt_publisher.specs.declared.publisher.Step.TheVariants as step
use Rattle.prt_version.proofs.Folds.{count_fold}
use Rattle.prt_publisher.proofs.Lists.{number_next, state_grown}
use Rattle.prt_publisher.proofs.publisher.Publisher.show.Given as given
use Rattle.prt_publisher.proofs.publisher.Publisher.show.Goals as goal
use Rattle.prt_publisher.proofs.publisher.Publisher.show.Goals.{After-of}

-- the commands were committed
was : (g : given.Over) (c : goal.After-of g) → IsStep (line_state c.self.inside.front) (step.Committed c.take_committed-plan.result.0 c.take_committed-plan.result.1)
was g c = subst (IsStep (line_state c.self.inside.front)) c.take_committed-plan.ensures.was c.self.invariant.3

pub publish_all-requires-clause-stamp : goal.publish_all-requires-clause-stamp
publish_all-requires-clause-stamp g c =
    rw c.of.ensures (number_next c.self.inside.front c.take_committed-plan.result.1.number (length c.take_committed-plan.result.0.commands.items) c.self.invariant.2 (was g (goal.at.publish_all-requires-clause-stamp g c).After-of).1)

pub publish_all-requires-clause-some : goal.publish_all-requires-clause-some
publish_all-requires-clause-some g c = rw c.of.ensures (was g (goal.at.publish_all-requires-clause-some g c).After-of).0.some

pub publish_all-requires-clause-accepted : goal.publish_all-requires-clause-accepted
publish_all-requires-clause-accepted g c = rw c.of.ensures (was g (goal.at.publish_all-requires-clause-accepted g c).After-of).0.accepted

pub publish_all-requires-clause-next : goal.publish_all-requires-clause-next
publish_all-requires-clause-next g c = rw c.of.ensures (was g (goal.at.publish_all-requires-clause-next g c).After-of).0.shown

pub returns-in-Ok-clause-stands : goal.returns-in-Ok-clause-stands
returns-in-Ok-clause-stands g c known =
    let old = c.self.inside.front in
    let plan = c.take_committed-plan.result.0 in
    let is : c.self.inside.step ≡ step.Committed plan c.take_committed-plan.result.1 = c.take_committed-plan.ensures.was in
    let conn = c.self.inside.store.conn in
    let agrees : IsStored g.S.Store conn (fold (line_state old) plan.commands.items) = subst (λ (x : Step). Agrees g.S.Store (phase_of x) (commands_of x) (line_state old) conn) is (c.self.invariant.4 known) in
    subst (λ (x : Step). Agrees g.S.Store (phase_of x) (commands_of x) (line_state c.publish_all.new.self) conn) (sym c.go_on.ensures)
    (subst (IsStored g.S.Store conn) (sym (state_grown old c.publish_all.new.self plan.commands.items (rw c.of.ensures at (c.in-Ok.ensures.list.0)))) agrees)

pub invariant_of-self : goal.invariant_of-self
invariant_of-self g c =
    let old = c.self.inside.front in
    let plan = c.take_committed-plan.result.0 in
    let is : c.self.inside.step ≡ step.Committed plan c.take_committed-plan.result.1 = c.take_committed-plan.ensures.was in
    let kept = was g (goal.at.invariant_of-self g c).After-of in
    let front : c.publish_all.new.self ≡ grown_by old plan.commands.items = rw c.of.ensures at (c.in-Ok.ensures.list.0) in
    let next : arc_value plan.next ≡ line_state c.publish_all.new.self = kept.0.next ∙ sym (state_grown old c.publish_all.new.self plan.commands.items front) in
    let noted : arc_value plan.noted ≡ arc_value plan.next = kept.0.noted ∙ sym kept.0.next in
    let counted = count_fold (line_state old) plan.commands.items kept.0.accepted in
    let grows : (arc_value plan.next).count ≡ (fold (line_state old) plan.commands.items).count = ap (λ (s : State). s.count) kept.0.next in
    let same : (arc_value c.self.inside.version).count ≡ (line_state old).count = ap (λ (s : State). s.count) c.self.invariant.0 in
    let noted_before : c.self.inside.keeper.noted + 0 ≡ (arc_value c.self.inside.version).count = subst (λ (x : Step). c.self.inside.keeper.noted + unnoted (phase_of x) (commands_of x) ≡ (arc_value c.self.inside.version).count) is c.self.invariant.1 in
    let noted_now : c.self.inside.keeper.noted + length plan.commands.items ≡ (arc_value plan.next).count = omega (arith, counted, grows, same, noted_before) in (
      next,
      subst (λ (x : Step). c.self.inside.keeper.noted + unnoted (phase_of x) (commands_of x) ≡ (arc_value plan.next).count) (sym c.go_on.ensures) noted_now,
      c.in-Ok.ensures.accepted,
      subst (IsStep (line_state c.publish_all.new.self)) (sym c.go_on.ensures) (kept.0.some, noted ∙ next),
      λ known. returns-in-Ok-clause-stands g c known,
    )
