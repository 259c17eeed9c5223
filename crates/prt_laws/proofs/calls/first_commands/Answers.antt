use Rattle.std.proofs.Common.{◌≡◌, ap, sym, subst, ◌∙◌}
use Rattle.sqlite.specs.Held.{Held}
use Rattle.prt_publisher.specs.Standing.{Standing}
use Rattle.prt_grace.specs.Registry.{RegistryState}
use Rattle.prt_publisher.specs.declared.phase.Phase.TheVariants.{Closed, Ready}
use Rattle.prt_replay.specs.World.{start}
use Rattle.prt_laws.specs.Runs.{Acknowledges, step_acts}
use Rattle.prt_laws.proofs.Runs.{leaves_all}
use Rattle.prt_laws.proofs.calls.first_commands.Goals as goal

pub returns-in-Ok : goal.returns-in-Ok
returns-in-Ok g c event asks h known left may =
    let old = c.args.publisher.now in
    let new = c.submit_by_steps.new.publisher in
    let after = c.submit_by_steps.new.registry in
    let told = c.in-Ok.receipt in
    let ran = subst (λ (r : RegistryState). Acknowledges g.S.Store old r event told new after) c.requires.registry (c.in-Ok.ensures.ok event asks) in
    let acts = ran start h in
    let last = acts.3.3.3.3 in
    let ready : new.phase ≡ Ready = ap (λ (p : Standing (Held _)). p.phase) last.3.0 ∙ last.2.5.0 in
    leaves_all g.S.Store (step_acts event told) old new after h acts known left may (λ closed none. absurd (let both : Ready ≡ Closed = sym ready ∙ closed in cc))
