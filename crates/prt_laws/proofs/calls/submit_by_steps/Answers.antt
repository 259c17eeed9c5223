use Rattle.std.proofs.Common.{◌≡◌, ◌≤◌, List, false, true, inl, inr, length, refl, ap, sym, ◌∙◌, subst, arith}
use Rattle.prt_refusals.specs.declared.refusal.Refusal.{Refusal}
use Rattle.prt_command.specs.declared.request.Command.{Command}
use Rattle.prt_replay.specs.World.{step}
use Rattle.prt_replay.specs.declared.event.Event.{Event}
use Rattle.prt_replay.specs.declared.event.Event.TheVariants.{Reclaim}
use Rattle.prt_laws.specs.Events.{AsksSome, asked, commit_events, own}
use Rattle.prt_laws.specs.Laws.{PublishesNot}
use Rattle.prt_laws.proofs.Submitted.{commit_through, declines_checked}
use Rattle.prt_laws.proofs.Woven.{own_commit}
use Rattle.prt_laws.proofs.calls.submit_by_steps.Goals as goal

asks_some : (commands : List Command) (event : Event) → 1 ≤ length commands → commands ≡ asked event → AsksSome event
asks_some commands event some asks = let long = ap length asks in omega (arith, some, long)

-- the calls that store what an event asks for are those of the commands under way
stores : (event : Event) (commands : List Command) → commands ≡ asked event → own (commit_events (asked event)) ≡ commit_events commands
stores event commands asks = own_commit (asked event) ∙ ap commit_events (sym asks)

pub returns-in-Err-clause-err : goal.returns-in-Err-clause-err
returns-in-Err-clause-err g c event asks w h =
    let p = c.args.publisher.now in
    let r = c.args.registry.now in
    let some = asks_some c.args.commands.now event c.requires.some asks in
    elim (declines_checked g.S.Store p p c.args.commands.now c.in-Err.reason c.in-Err.ensures.err event some asks r) [
      | inl memory ↦ let long = ap length asks in inl (memory.0, omega (arith, memory.1, long), refl, refl)
      | inr law ↦ inr (inl (false, (p, r, (some, law), (refl, refl))))
    ]

pub returns-in-Err-admit-clause-err : goal.returns-in-Err-admit-clause-err
returns-in-Err-admit-clause-err g c event asks w h =
    let some = asks_some c.args.commands.now event c.requires.some asks in
    inr (inl (true, (c.admit.new.publisher, c.admit.new.registry, (some, c.in-Err-admit.ensures.err event some (c.in-Ok.ensures.ok.1 ∙ asks)), (refl, refl))))

pub returns-in-Err-plan-clause-err : goal.returns-in-Err-plan-clause-err
returns-in-Err-plan-clause-err g c event asks w h =
    let r = c.admit.new.registry in
    inr (inr (inl (c.in-Err-plan.ensures.err.0, (c.admit.new.publisher, r, c.in_default.ensures.ok, (c.plan.new.publisher, r, (refl, (refl, c.in-Err-plan.ensures.err.1, c.in-Err-plan.ensures.err.2)), (refl, refl))))))

pub returns-in-Err-commit-clause-err : goal.returns-in-Err-commit-clause-err
returns-in-Err-commit-clause-err g c event asks w h =
    let a = c.admit.new.publisher in
    let b = c.plan.new.publisher in
    let r = c.admit.new.registry in
    let some = asks_some c.args.commands.now event c.requires.some asks in
    let plans = c.in_default-plan.ensures.ok event some (c.in_default.ensures.then.1 ∙ c.in-Ok.ensures.ok.1 ∙ asks) in
    inr (inr (inr (inr (b, (a, r, c.in_default.ensures.ok, (b, r, (some, refl, plans), (refl, refl))), c.in-Err-commit.ensures.err))))

pub returns-in-Err-show-clause-err : goal.returns-in-Err-show-clause-err
returns-in-Err-show-clause-err g c event asks w h =
    let a = c.admit.new.publisher in
    let b = c.plan.new.publisher in
    let r = c.admit.new.registry in
    let some = asks_some c.args.commands.now event c.requires.some asks in
    let under : a.commands ≡ asked event = c.in_default.ensures.then.1 ∙ c.in-Ok.ensures.ok.1 ∙ asks in
    let plans = c.in_default-plan.ensures.ok event some under in
    let stored = stores event b.commands (c.in_default-plan.ensures.then.1 ∙ under) in
    let not = subst (λ (why : Refusal). PublishesNot g.S.Store c.commit.new.publisher c.show.new.publisher why) c.in-Err-show.ensures.err.0 c.in-Err-show.ensures.err in
    inr (inr (inr (inl (
      c.in-Err-show.ensures.err.0,
      (a, r, c.in_default.ensures.ok, (b, r, (some, refl, plans), (c.commit.new.publisher, r, (stored, commit_through (asked event) r (step (step w Reclaim).world event).world, c.in_default-commit.ensures.ok), (c.show.new.publisher, r, (refl, c.in_default-commit.ensures.then.0, not), (refl, refl))))),
    ))))

pub returns-clause-ok : goal.returns-clause-ok
returns-clause-ok g c event asks w h =
    let a = c.admit.new.publisher in
    let b = c.plan.new.publisher in
    let r = c.admit.new.registry in
    let some = asks_some c.args.commands.now event c.requires.some asks in
    let under : a.commands ≡ asked event = c.in_default.ensures.then.1 ∙ c.in-Ok.ensures.ok.1 ∙ asks in
    let plans = c.in_default-plan.ensures.ok event some under in
    let stored = stores event b.commands (c.in_default-plan.ensures.then.1 ∙ under) in
    let commands = c.in_default-show.ensures.then.1 ∙ c.in_default-commit.ensures.then.1 ∙ c.in_default-plan.ensures.then.1 ∙ under in
    (a, r, c.in_default.ensures.ok, (b, r, (some, refl, plans), (c.commit.new.publisher, r, (stored, commit_through (asked event) r (step (step w Reclaim).world event).world, c.in_default-commit.ensures.ok), (c.show.new.publisher, r, (refl, c.in_default-show.ensures.ok), (c.note-receipt.new.publisher, c.note-receipt.new.registry, (c.in_default-show.ensures.then.0, commands, refl, c.note-receipt.new.registry, refl, c.note-receipt.ensures), (refl, refl))))))
