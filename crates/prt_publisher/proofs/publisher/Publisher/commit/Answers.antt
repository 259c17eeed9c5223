use Rattle.std.proofs.Common.{◌≡◌, ◌+◌, ap, sym, ◌∙◌, subst, length, arith}
use Rattle.std.specs.Arc.{arc_value}
use Rattle.sqlite.specs.Held.{Held, state}
use Rattle.prt_store.proofs.Accepted.{as_many}
use Rattle.prt_store.proofs.Exits.{keeps_after, spares_after}
use Rattle.prt_store.specs.Exits.{IsStored, SparesOthers}
use Rattle.prt_store.specs.Next.{put_all}
use Rattle.prt_published.specs.Line.{line_state}
use Rattle.prt_publisher.specs.Standing.{Agrees, Standing, unnoted}
use Rattle.prt_publisher.specs.Step.{IsStep, commands_of, phase_of}
use Rattle.prt_publisher.specs.declared.publisher.Step.{Step}
use Rattle.prt_publisher.proofs.Commits.{CanCommit, can_commit, either_left, have_committed, left_after}
use Rattle.prt_publisher.proofs.publisher.Publisher.commit.Given as given
use Rattle.prt_publisher.proofs.publisher.Publisher.commit.Goals as goal
use Rattle.prt_publisher.proofs.publisher.Publisher.commit.Goals.{After-as_slice}

-- what is known if the changes of the plan are committed
committing : (g : given.Over) (c : goal.After-as_slice g) → CanCommit g.S.Store c.self.inside.ours_first c.self.inside.store.conn (line_state c.self.inside.front) c.take_prepared-plan.result c.as_slice.result.now c.number-number.result
committing g c =
    can_commit g.S.Store c.self.inside.ours_first c.self.inside.store.conn (line_state c.self.inside.front) c.self.inside.step c.take_prepared-plan.result c.as_slice.result.now c.number-number.result _ c.as_slice.ensures.value
    c.take_prepared-plan.ensures.was c.number-number.ensures.value c.deref.ensures c.self.invariant.3 c.self.invariant.4

-- the versions before are noted
noted : (g : given.Over) (c : goal.After-as_slice g) → c.self.inside.keeper.noted + 0 ≡ (arc_value c.self.inside.version).count
noted g c = subst (λ (x : Step). c.self.inside.keeper.noted + unnoted (phase_of x) (commands_of x) ≡ (arc_value c.self.inside.version).count) c.take_prepared-plan.ensures.was c.self.invariant.1

-- the commands under way are those of the plan
under : (g : given.Over) (c : goal.After-as_slice g) → c.args.self.now.commands ≡ c.take_prepared-plan.result.commands.items
under g c = ap (λ (v : Standing _). v.commands) (sym c.self.view_is) ∙ ap commands_of c.take_prepared-plan.ensures.was

pub commit_all-requires-clause-some : goal.commit_all-requires-clause-some
commit_all-requires-clause-some g c =
    let can = committing g c in
    omega (arith, can.planned.some, ap length can.are, as_many (line_state c.self.inside.front) c.take_prepared-plan.result.commands.items can.planned.accepted)

pub commit_all-requires-clause-next : goal.commit_all-requires-clause-next
commit_all-requires-clause-next g c = (line_state c.self.inside.front, (committing g c).next)

pub returns-in-Ok-clause-stands : goal.returns-in-Ok-clause-stands
returns-in-Ok-clause-stands g c known =
    let can = committing g (goal.at.returns-in-Ok-clause-stands g c).After-as_slice in
    subst (λ (x : Step). Agrees g.S.Store (phase_of x) (commands_of x) (line_state c.self.inside.front) c.commit_all.new.self.conn) (sym c.go_on.ensures)
    (subst (IsStored g.S.Store c.commit_all.new.self.conn) can.after (c.in-Ok.ensures.stored known.1 (line_state c.self.inside.front) can.next (can.kept (known.0, c.commit_all.ensures.clean known.1))))

pub invariant_of-self : goal.invariant_of-self
invariant_of-self g c =
    let before = (goal.at.invariant_of-self g c).After-as_slice in
    let can = committing g before in (
      c.self.invariant.0,
      subst (λ (x : Step). c.self.inside.keeper.noted + unnoted (phase_of x) (commands_of x) ≡ (arc_value c.self.inside.version).count) (sym c.go_on.ensures) (noted g before),
      c.self.invariant.2,
      subst (IsStep (line_state c.self.inside.front)) (sym c.go_on.ensures) (can.planned, c.in-Ok.ensures.stamp ∙ can.counted),
      λ known. returns-in-Ok-clause-stands g c known,
    )

pub returns-in-Ok-clause-others : goal.returns-in-Ok-clause-others
returns-in-Ok-clause-others g c known open_or =
    let can = committing g (goal.at.returns-in-Ok-clause-others g c).After-as_slice in
    subst (λ (t : Held _). SparesOthers (state g.S.Store t).now (state g.S.Store c.commit_all.new.self.conn).now) (ap (λ (v : Standing _). v.tables) c.self.view_is)
    (spares_after g.S.Store c.self.inside.ours_first c.self.inside.store.conn c.commit_all.new.self.conn (line_state c.self.inside.front) c.as_slice.result.now c.number-number.result can.next c.commit_all.ensures.clean can.kept c.in-Ok.ensures.ok known)

pub returns-in-Ok-clause-ran : goal.returns-in-Ok-clause-ran
returns-in-Ok-clause-ran g c clean =
    let before = (goal.at.returns-in-Ok-clause-ran g c).After-as_slice in
    let can = committing g before in
    let shown = ap (λ (v : Standing _). line_state v.line) (sym c.self.view_is) in
    let held = ap (λ (v : Standing _). v.tables) (sym c.self.view_is) in
    have_committed g.S.Store c.args.self.now (line_state c.self.inside.front) c.self.inside.store.conn c.commit_all.new.self.conn c.take_prepared-plan.result.commands.items c.as_slice.result.now c.number-number.result shown (under g before) held can.are can.counted
    (c.in-Ok.ensures.ran clean)

pub returns-in-Err-clause-stands : goal.returns-in-Err-clause-stands
returns-in-Err-clause-stands g c known =
    let s = line_state c.self.inside.front in
    let conn = c.self.inside.store.conn in
    let can = committing g (goal.at.returns-in-Err-clause-stands g c).After-as_slice in
    let stored = can.kept (known.0, c.commit_all.ensures.clean known.1) in
    rw c.take_prepared-plan.ensures.left (left_after g.S.Store conn c.commit_all.new.self.conn s (put_all s c.as_slice.result.now) c.take_prepared-plan.result.commands.items c.in-Err.reason can.after can.planned.accepted stored.now (c.in-Err.ensures.err known.1) (c.in-Err.ensures.left known.1 s can.next stored)
    (keeps_after g.S.Store c.self.inside.ours_first conn c.commit_all.new.self.conn s c.as_slice.result.now c.number-number.result can.next c.commit_all.ensures.clean can.kept c.in-Err.reason c.in-Err.ensures.crash_err known))

pub returns-in-Err-clause-left : goal.returns-in-Err-clause-left
returns-in-Err-clause-left g c known left may =
    let s = line_state c.self.inside.front in
    let before = (goal.at.returns-in-Err-clause-left g c).After-as_slice in
    let can = committing g before in
    let shown : line_state c.args.self.now.line ≡ s = ap (λ (v : Standing _). line_state v.line) (sym c.self.view_is) in
    let stored = can.kept (known.0, c.commit_all.ensures.clean known.1) in
    rw (shown, under g before)
    (either_left g.S.Store c.self.inside.store.conn c.commit_all.new.self.conn s (put_all s c.as_slice.result.now) c.take_prepared-plan.result.commands.items c.in-Err.reason can.after can.planned.accepted stored.now (c.in-Err.ensures.err known.1) (c.in-Err.ensures.left known.1 s can.next stored) left may)

pub invariant_of-self-in-Err-1 : goal.invariant_of-self-in-Err-1
invariant_of-self-in-Err-1 g c = (
  c.self.invariant.0,
  rw c.take_prepared-plan.ensures.left (noted g (goal.at.invariant_of-self-in-Err-1 g c).After-as_slice),
  c.self.invariant.2,
  rw c.take_prepared-plan.ensures.left tt,
  λ known. returns-in-Err-clause-stands g c known,
)
