-- If both states have the same tables, there is nothing to do.
use Rattle.std.proofs.Common.{◌≡◌, ℕ, zero, suc, Bool, true, false, not, List, [], ◌∷◌, ◌++◌, map, refl, ap, ◌∙◌, cond}
use Rattle.std.specs.Prelude.{◌==◌, if◌then◌else◌}
use Rattle.std.proofs.lemmas.Bool.{and_from}
use Rattle.prt_route.specs.Edit.{has_key}
use Rattle.prt_route.specs.Route.{key_of}
use Rattle.prt_route.specs.declared.route.Route.{Route}
use Rattle.prt_rule.specs.Same.{is_same_rule}
use Rattle.prt_rule.specs.declared.rule.Rule.{Rule}
use Rattle.prt_rule.proofs.SameRules.{rules_same}
use Rattle.prt_trie.specs.Table.{has_same_key}
use Rattle.prt_version.specs.State.{State}
use Rattle.prt_diff.specs.Routes.{delete_route, replace_route}
use Rattle.prt_diff.specs.Rules.{add_rule, rules_at, without_id}
use Rattle.prt_diff.specs.Apply.Brings.{AreAlike}
use Rattle.prt_diff.specs.Apply.Plan.{plan}
use Rattle.prt_diff.specs.Apply.Routes.{has_route, is_same_route, missing_routes, unwanted_routes}
use Rattle.prt_diff.specs.Apply.Rules.{above_all, are_same, changes_below, delete_first, replacing, rule_changes}
use Rattle.prt_diff.proofs.HasRule.{numbered}
use Rattle.prt_diff.proofs.Members.{any_in, each_if, none_pass}
use Rattle.prt_diff.proofs.RouteSteps.{has_its_key}
use Rattle.prt_diff.proofs.Applying.SameRoutes.{routes_same}

-- ---- routes

none_missing : (routes : List Route) → missing_routes routes routes ≡ []
none_missing routes =
    none_pass (λ route. not (has_route route routes)) routes
    (each_if (λ route. not (has_route route routes) ≡ false) routes (λ route within. ap not (any_in (λ other. is_same_route other route) route routes within ((routes_same route route).1 refl))))

none_unwanted : (routes : List Route) → unwanted_routes routes routes ≡ []
none_unwanted routes =
    none_pass (λ route. not (has_key (key_of route) routes)) routes
    (each_if (λ route. not (has_key (key_of route) routes) ≡ false) routes (λ route within. ap not (any_in (λ other. has_same_key other route) route routes within (has_its_key route))))

-- ---- rules

first_same : (a b : Rule) → without_id a ≡ without_id b → is_same_rule a b ≡ true
first_same a b same = (rules_same a b).1 (ap (numbered b.id) same)

same_if : (rules others : List Rule) → map without_id rules ≡ map without_id others → are_same rules others ≡ true
same_if [] [] same = refl
same_if [] (other ∷ others) same = absurd cc
same_if (rule ∷ rules) [] same = absurd cc
same_if (rule ∷ rules) (other ∷ others) same =
    let first : without_id rule ≡ without_id other = cc in
    let rest : map without_id rules ≡ map without_id others = cc in
    and_from (is_same_rule rule other) (are_same rules others) (first_same rule other first) (same_if rules others rest)

at_by : (rule other : Rule) (rules others : List Rule) (a b : Bool) → a ≡ b → without_id rule ≡ without_id other → map without_id rules ≡ map without_id others → map without_id (cond a (rule ∷ rules) rules) ≡ map without_id (cond b (other ∷ others) others)
at_by rule other rules others true true is first rest = ap (λ r. r ∷ map without_id rules) first ∙ ap (λ xs. without_id other ∷ xs) rest
at_by rule other rules others true false is first rest = absurd cc
at_by rule other rules others false true is first rest = absurd cc
at_by rule other rules others false false is first rest = rest

alike_at : (n : ℕ) (rules others : List Rule) → map without_id rules ≡ map without_id others → map without_id (rules_at n rules) ≡ map without_id (rules_at n others)
alike_at n [] [] same = refl
alike_at n [] (other ∷ others) same = absurd cc
alike_at n (rule ∷ rules) [] same = absurd cc
alike_at n (rule ∷ rules) (other ∷ others) same =
    let first : without_id rule ≡ without_id other = cc in
    let rest : map without_id rules ≡ map without_id others = cc in
    at_by rule other (rules_at n rules) (rules_at n others) (rule.priority == n) (other.priority == n) (ap (λ (r : Rule). r.priority == n) first) first (alike_at n rules others rest)

pub nothing_replaced : (found wanted : List Rule) → are_same found wanted ≡ true → replacing found wanted ≡ []
nothing_replaced found wanted same = ap (λ b. if b then [] else map delete_first found ++ map add_rule wanted) same

none_below : (n : ℕ) (found wanted : List Rule) → map without_id found ≡ map without_id wanted → changes_below n found wanted ≡ []
none_below zero found wanted same = refl
none_below (suc n) found wanted same =
    ap (λ commands. commands ++ replacing (rules_at n found) (rules_at n wanted)) (none_below n found wanted same)
    ∙ nothing_replaced (rules_at n found) (rules_at n wanted) (same_if (rules_at n found) (rules_at n wanted) (alike_at n found wanted same))

-- ---- the plan

pub nothing_planned : (found wanted : State) → AreAlike found wanted → plan found wanted ≡ []
nothing_planned found wanted alike =
    ap (λ routes. map replace_route routes ++ (rule_changes found.rules wanted.rules ++ map delete_route (unwanted_routes found.routes wanted.routes))) (ap (λ routes. missing_routes routes wanted.routes) alike.routes ∙ none_missing wanted.routes)
    ∙ ap (λ commands. commands ++ map delete_route (unwanted_routes found.routes wanted.routes)) (none_below (above_all (found.rules ++ wanted.rules)) found.rules wanted.rules alike.rules)
    ∙ ap (map delete_route) (ap (λ routes. unwanted_routes routes wanted.routes) alike.routes ∙ none_unwanted wanted.routes)
