use Rattle.std.proofs.Common.{◌≡◌, ◌∙◌, ◌≤◌, Some, ap, arith, length, subst, sym}
use Rattle.std.specs.List.{IsFirstBest}
use Rattle.std.proofs.lemmas.Grind.{common_steps}
use Rattle.prt_route.specs.Route.{is_better}
use Rattle.prt_explain.proofs.Lookups.{first_at}
use Rattle.prt_explain.proofs.lookup.best_of.Goals as goal

pub returns : goal.returns
returns c =
    let routes = c.args.routes.now in
    let some : 1 ≤ length routes = grind (arith, common_steps) in
    let whole : c.loop-i.i ≡ length routes = omega (arith, c.loop-i.auto.i-end some) in
    let leads = subst (λ count. IsFirstBest is_better routes count c.loop-i.best) whole c.loop-i.invariant in
    ap Some c.index-routes-best-2.is ∙ sym (first_at is_better routes c.loop-i.best c.index-routes-best-2.result leads)
