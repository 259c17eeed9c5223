use Rattle.std.proofs.Common.{[], ◌∷◌, Some, codes}
use Rattle.std.proofs.lemmas.Result.{on_ok_weaker}
use Rattle.prt_json.specs.ExplanationJson.{route_field, truth_field}
use Rattle.prt_json.proofs.Tokens.{then_fields}
use Rattle.prt_json.proofs.explanation.push_found.Goals as goal

pub returns-clause-ok : goal.returns-clause-ok
returns-clause-ok c =
    let best = route_field (codes "found") (Some c.args.found.now.best) in
    let runner_up = route_field (codes "runner_up") c.args.found.now.runner_up in
    let routes = then_fields (best ∷ []) (runner_up ∷ []) _ _ _ c.in_ok-push_route.ensures.ok c.in_ok-push_route-2.ensures.ok in
    on_ok_weaker c.push_fields.result
    (then_fields (best ∷ runner_up ∷ []) (truth_field (codes "suppressed") c.args.suppressed ∷ []) _ _ _ routes)
    (rw c.truth_field.ensures at c.push_fields.ensures.ok)
