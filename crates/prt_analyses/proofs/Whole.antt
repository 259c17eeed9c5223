-- From the marks to what is unused.
use Rattle.std.proofs.Common.{◌≡◌, ℕ, Bool, false, List, Option, length, sym, ap, ◌∙◌, subst}
use Rattle.std.specs.Prelude.{map}
use Rattle.std.specs.List.{Contains, AllByRecursion as Each}
use Rattle.std.proofs.lemmas.List.{length-map}
use Rattle.prt_addr.specs.Rising.{IsRising}
use Rattle.prt_route.specs.Route.{is_listed_before}
use Rattle.prt_route.specs.declared.route.Route.{Route}
use Rattle.prt_rule.specs.Sound.{IsInOrder}
use Rattle.prt_rule.specs.declared.packet.Packet.{Packet}
use Rattle.prt_rule.specs.declared.rule.Rule.{Rule}
use Rattle.prt_version.specs.State.{State}
use Rattle.prt_analyses.specs.Unused.Steps.{AreExplained, HasUse, IsUse, marked, unmarked, unused_rule}
use Rattle.prt_analyses.specs.Unused.{AreUnusedRoutes, AreUnusedRules, IsRuleReason, rules_of}
use Rattle.prt_analyses.specs.declared.unused.report.UnusedRoute.{UnusedRoute}
use Rattle.prt_analyses.specs.declared.unused.report.UnusedRule.{UnusedRule}
use Rattle.prt_analyses.specs.declared.unused.used.Used.{Used}
use Rattle.prt_analyses.proofs.Both.{all_routes, all_rules, each_of_all}
use Rattle.prt_analyses.proofs.Marks.{each_unmarked, length_marked}
use Rattle.prt_analyses.proofs.WhyUnused.{rule_reasons, rules_same}

-- there is a flag for each
pub flags_fit : {X : Type 0} (place : Packet → Option ℕ) (xs : List X) (all : List Packet) → length (marked place (map (λ x. false) xs) all) ≡ length xs
flags_fit place xs all = length_marked place (map (λ x. false) xs) all ∙ length-map xs (λ x. false)

pub whole_rules : (state : State) (all : List Packet) (used : Used) (rules left shown : List Rule) (flags : List Bool) (unused : List UnusedRule) → IsInOrder rules → rules ≡ state.rules → flags ≡ used.rules.items → left ≡ unmarked rules flags → shown ≡ left → unused ≡ map (unused_rule state all) shown → IsUse state all used → AreUnusedRules state unused
whole_rules state all used rules left shown flags unused rises are set remain same made marks =
    let left_is : shown ≡ unmarked state.rules used.rules.items = same ∙ remain ∙ ap (λ (rs : List Rule). unmarked rs flags) are ∙ ap (unmarked state.rules) set in
    let held : Each (Contains state.rules) shown = subst (Each (Contains state.rules)) (sym left_is) (each_unmarked (Contains state.rules) state.rules used.rules.items (each_of_all state.rules)) in
    all_rules state all used unused (subst IsInOrder are rises) marks
    (ap rules_of made ∙ rules_same state all shown ∙ left_is)
    (subst (Each (λ (one : UnusedRule). IsRuleReason state one.rule one.reason)) (sym made) (rule_reasons state all shown marks.samples held))

pub whole_routes : (state : State) (used : Used) (routes left shown : List Route) (flags : List Bool) (unused : List UnusedRoute) → IsRising is_listed_before state.routes → routes ≡ state.routes → flags ≡ used.routes.items → left ≡ unmarked routes flags → shown ≡ left → AreExplained state shown unused → HasUse state used → AreUnusedRoutes state unused
whole_routes state used routes left shown flags unused rises are set remain same explained marks =
    let left_is : shown ≡ unmarked state.routes used.routes.items = same ∙ remain ∙ ap (λ (rs : List Route). unmarked rs flags) are ∙ ap (unmarked state.routes) set in
    all_routes state marks.0 used unused rises marks.1 (explained.0 ∙ left_is) explained.1
