use Rattle.std.proofs.Common.{◌≡◌, List, Some, length, get_or, rules, arith, sym, ap, ◌∙◌}
use Rattle.std.proofs.lemmas.Result.{IfOk-weaker}
use Rattle.prt_route.specs.declared.route.Route.{Route}
use Rattle.prt_analyses.specs.Unused.{IsRouteReason}
use Rattle.prt_analyses.specs.declared.unused.report.UnusedRoute.{UnusedRoute}
use Rattle.prt_analyses.proofs.Collects.{collected}
use Rattle.prt_analyses.proofs.unused.search.with_route_reasons.Goals as goal

pub returns : goal.returns
returns c =
    IfOk-weaker c.collect.result _ _
    (λ v h.
    let state = c.args.version.now in
    let routes : List Route = c.args.routes.now in
    let gave = h tt in
    let took = c.map.ensures.runs gave.0 gave.0.seen gave.1 in
    let all = c.iter.ensures.runs took.0 took.0.seen in
    let related = took.2.2 (λ a y f' k. search rules) in
    let items : v.items ≡ gave.0.items = gave.3.0 in
    let rest : took.0.from.rest.now ≡ routes = cc (took.1, c.iter.ensures.rest) in
    let count : took.0.len ≡ length routes = all.1 (took.2.0 ∙ gave.2) ∙ ap length rest in
    let long : length v.items ≡ gave.0.len = ap length items ∙ sym gave.0.long in
    collected (λ (one : UnusedRoute). one.route) (λ one. IsRouteReason state one.route one.reason) (λ a. a.now) _ (λ a y k. search rules) routes v.items took.0.at gave.0.at (long ∙ took.2.1 ∙ count)
    (λ k x below. all.2 k x (omega (arith, count)) ∙ ap (λ (xs : List Route). Some (get_or xs k x)) rest)
    (λ k y below. gave.0.reads k y (omega (arith, long)) ∙ ap (λ (ys : List UnusedRoute). Some (get_or ys k y)) (sym items))
    related.0)
    c.collect.ensures.runs
