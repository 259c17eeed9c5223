-- The rules that decide no packet, and the routes that no packet gets.
use Rattle.std.proofs.Common.{◌≡◌, ◌⊎◌, inl, inr, ℕ, ◌<◌, true, false, List, [], ◌∷◌, Option, Some, length, get_or, refl, sym, ap, ◌∙◌, subst, arith}
use Rattle.std.specs.Prelude.{map}
use Rattle.std.specs.List.{Contains, AllByRecursion as Each}
use Rattle.std.proofs.lemmas.Bool.Decides.{nat_tests}
use Rattle.std.proofs.lemmas.List.{get_or_default}
use Rattle.std.proofs.lemmas.List.Elements.{All-contains_itself, recursion_from_All}
use Rattle.prt_addr.specs.Rising.{IsRising}
use Rattle.prt_addr.proofs.Each.{each_implies}
use Rattle.prt_addr.proofs.Orders.{not_itself}
use Rattle.prt_route.specs.Route.{is_listed_before}
use Rattle.prt_route.specs.declared.route.Route.{Route}
use Rattle.prt_rule.specs.Rule.{is_before}
use Rattle.prt_rule.specs.declared.packet.Packet.{Packet}
use Rattle.prt_rule.specs.declared.rule.Rule.{Rule}
use Rattle.prt_trie.specs.Table.{has_same_key}
use Rattle.prt_version.specs.Select.{decider, select}
use Rattle.prt_version.specs.State.{State}
use Rattle.prt_version.specs.declared.answer.Verdict.{Verdict}
use Rattle.prt_version.specs.declared.answer.Verdict.TheVariants as verdict
use Rattle.prt_version.proofs.RowOrder.{key_differs}
use Rattle.prt_version.proofs.RuleOrder.{rule_order}
use Rattle.prt_partition.specs.Cuts.{AreAlike}
use Rattle.prt_partition.proofs.Alike.{same_select}
use Rattle.prt_partition.proofs.Starts.{contains_in, in_contains}
use Rattle.prt_analyses.specs.Unused.Steps.{IsUse, agrees, marked, place_by, place_of_key, route_place, rule_place, unmarked}
use Rattle.prt_analyses.specs.Unused.{AreUnusedRoutes, AreUnusedRules, IsRouteReason, IsRuleReason, IsUnusedRoute, IsUnusedRule, routes_of, rules_of}
use Rattle.prt_analyses.specs.declared.unused.report.UnusedRoute.{UnusedRoute}
use Rattle.prt_analyses.specs.declared.unused.report.UnusedRule.{UnusedRule}
use Rattle.prt_analyses.specs.declared.unused.used.Used.{Used}
use Rattle.prt_analyses.proofs.Deciders.{decider_is, gotten, same_decider}
use Rattle.prt_analyses.proofs.Finds.{find_places, place_finds, position_at, rising_at}
use Rattle.prt_analyses.proofs.Left.{left_unused, unused_left}
use Rattle.prt_analyses.proofs.Marks.{each_unmarked, unmarked_rises}

-- ---- lists

pub each_of_all : {X : Type 0} (xs : List X) → Each (Contains xs) xs
each_of_all xs = recursion_from_All (Contains xs) xs (All-contains_itself xs)

each_mapped : {X Y : Type 0} (P : Y → Type 0) (f : X → Y) (xs : List X) → Each P (map f xs) → Each (λ x. P (f x)) xs
each_mapped P f [] h = tt
each_mapped P f (x ∷ xs) h = (h.0, each_mapped P f xs h.1)

-- ---- rules

abbrev Decides : State → Packet → Rule → Type 0
Decides state packet rule = decider state.rules state.routes packet ≡ Some rule

-- the rule at the place of a packet decides it
place_decides : (state : State) → IsRising is_before state.rules → (packet : Packet) (k : ℕ) (rule : Rule) → rule_place state packet ≡ Some k → k < length state.rules → get_or state.rules k rule ≡ rule → Decides state packet rule
place_decides state rises packet k rule at inside is =
    decider_is state packet rises ∙ place_finds (agrees packet (select state packet)) state.rules k rule at ∙ ap Some is

rule_once : (rules : List Rule) (i j : ℕ) (rule : Rule) → IsRising is_before rules → i < length rules → j < length rules → get_or rules i rule ≡ rule → get_or rules j rule ≡ rule → i ≡ j
rule_once rules i j rule rises first second is same = by (ordered i j)
  where
    ordered : (i j : ℕ) → (i < j) ⊎ ((i ≡ j) ⊎ (j < i))
    ordered i j = grind (arith, nat_tests)

    apart : (a b : Rule) → a ≡ rule → b ≡ rule → is_before a b ≡ true → ⊥
    apart a b e f ahead = let g : false ≡ true = sym (not_itself is_before rule_order rule) ∙ ap (λ x. is_before x rule) (sym e) ∙ ap (is_before a) (sym f) ∙ ahead in absurd cc

    by : (i < j) ⊎ ((i ≡ j) ⊎ (j < i)) → i ≡ j
    by (inl below) = absurd (apart _ _ is same (rising_at is_before rules i j rule rises below second))
    by (inr (inl e)) = e
    by (inr (inr above)) = absurd (apart _ _ same is (rising_at is_before rules j i rule rises above first))

-- and no other one does
decides_place : (state : State) → IsRising is_before state.rules → (packet : Packet) (k : ℕ) (rule : Rule) → k < length state.rules → get_or state.rules k rule ≡ rule → Decides state packet rule → rule_place state packet ≡ Some k
decides_place state rises packet k rule inside is decides =
    let at = find_places (agrees packet (select state packet)) state.rules rule (sym (decider_is state packet rises) ∙ decides) in
    at.2 ∙ ap Some (rule_once state.rules at.0 k rule rises at.1 inside at.3 is)

decides_alike : (state : State) → IsRising is_before state.rules → (packet other : Packet) (rule : Rule) → AreAlike state packet other → Decides state packet rule → Decides state other rule
decides_alike state rises packet other rule alike decides = sym (same_decider state packet other rises alike) ∙ decides

pub all_rules : (state : State) (samples : List Packet) (used : Used) (unused : List UnusedRule) → IsRising is_before state.rules → IsUse state samples used → rules_of unused ≡ unmarked state.rules used.rules.items → Each (λ (one : UnusedRule). IsRuleReason state one.rule one.reason) unused → AreUnusedRules state unused
all_rules state samples used unused rises marks are reasons =
    let left : List Rule = unmarked state.rules (marked (rule_place state) (map (λ rule. false) state.rules) samples) in
    let same : rules_of unused ≡ left = are ∙ ap (unmarked state.rules) marks.rules in
    let place = rule_place state in
    record {
      held = each_mapped (Contains state.rules) (λ (one : UnusedRule). one.rule) unused (subst (Each (Contains state.rules)) (sym same) (each_unmarked (Contains state.rules) state.rules _ (each_of_all state.rules)));
      sound = each_mapped (IsUnusedRule state) (λ (one : UnusedRule). one.rule) unused (subst (Each (IsUnusedRule state)) (sym same)
          (each_implies (Contains left) (IsUnusedRule state)
          (λ rule h. left_unused state state.rules (rule_place state) (Decides state) (place_decides state rises) (decides_place state rises) (decides_alike state rises) samples marks.samples rule (contains_in rule left h))
          left (each_of_all left)));
      reasons = reasons;
      complete = λ rule held none. subst (λ (rules : List Rule). Contains rules rule) (sym same)
          (in_contains rule left (unused_left state state.rules (rule_place state) (Decides state) (place_decides state rises) (decides_place state rises) (decides_alike state rises) samples marks.packets rule held none));
      order = subst (IsRising is_before) (sym same) (unmarked_rises is_before state.rules _ rises);
    }

-- ---- routes

abbrev Gets : State → Packet → Route → Type 0
Gets state packet route = (priority : ℕ) × (select state packet ≡ verdict.Route priority route)

key_itself : (route : Route) → has_same_key route route ≡ true
key_itself route = grind (arith, nat_tests)

-- a key is at one place
pub key_place : (routes : List Route) (k : ℕ) (route : Route) → IsRising is_listed_before routes → k < length routes → get_or routes k route ≡ route → place_of_key routes route ≡ Some k
key_place routes k route rises inside is =
    position_at (λ other. has_same_key other route) routes k route inside (ap (λ (r : Route). has_same_key r route) is ∙ key_itself route)
    (λ j below. key_differs (get_or routes j route) route (ap (is_listed_before (get_or routes j route)) (sym is) ∙ rising_at is_listed_before routes j k route rises below inside))

route_by : (state : State) → IsRising is_listed_before state.routes → (packet : Packet) (k : ℕ) (route : Route) (says : Verdict) → select state packet ≡ says → place_by state.routes says ≡ Some k → k < length state.routes → get_or state.routes k route ≡ route → Gets state packet route
route_by state rises packet k route (verdict.Route priority other) told at inside is =
    let among = in_contains other state.routes (gotten state packet priority other told) in
    let there : place_of_key state.routes other ≡ Some among.0 = key_place state.routes among.0 other rises among.1 among.2 in
    let one : among.0 ≡ k = let e : ◌≡◌ {A = Option ℕ} (Some among.0) (Some k) = sym there ∙ at in cc in
    let same : other ≡ route = sym among.2 ∙ ap (λ n. get_or state.routes n other) one ∙ get_or_default state.routes k other route inside ∙ is in
    (priority, told ∙ ap (verdict.Route priority) same)
route_by state rises packet k route (verdict.RuleSays priority action) told at inside is = absurd cc
route_by state rises packet k route verdict.NoRoute told at inside is = absurd cc

-- the packet gets the route at its place
place_gets : (state : State) → IsRising is_listed_before state.routes → (packet : Packet) (k : ℕ) (route : Route) → route_place state packet ≡ Some k → k < length state.routes → get_or state.routes k route ≡ route → Gets state packet route
place_gets state rises packet k route at inside is = route_by state rises packet k route (select state packet) refl at inside is

-- and no other one
gets_place : (state : State) → IsRising is_listed_before state.routes → (packet : Packet) (k : ℕ) (route : Route) → k < length state.routes → get_or state.routes k route ≡ route → Gets state packet route → route_place state packet ≡ Some k
gets_place state rises packet k route inside is gets = ap (place_by state.routes) gets.1 ∙ key_place state.routes k route rises inside is

gets_alike : (state : State) (packet other : Packet) (route : Route) → AreAlike state packet other → Gets state packet route → Gets state other route
gets_alike state packet other route alike gets = (gets.0, sym (same_select state packet other alike) ∙ gets.1)

pub all_routes : (state : State) (samples : List Packet) (used : Used) (unused : List UnusedRoute) → IsRising is_listed_before state.routes → IsUse state samples used → routes_of unused ≡ unmarked state.routes used.routes.items → Each (λ (one : UnusedRoute). IsRouteReason state one.route one.reason) unused → AreUnusedRoutes state unused
all_routes state samples used unused rises marks are reasons =
    let left : List Route = unmarked state.routes (marked (route_place state) (map (λ route. false) state.routes) samples) in
    let same : routes_of unused ≡ left = are ∙ ap (unmarked state.routes) marks.routes in
    record {
      held = each_mapped (Contains state.routes) (λ (one : UnusedRoute). one.route) unused (subst (Each (Contains state.routes)) (sym same) (each_unmarked (Contains state.routes) state.routes _ (each_of_all state.routes)));
      sound = each_mapped (IsUnusedRoute state) (λ (one : UnusedRoute). one.route) unused (subst (Each (IsUnusedRoute state)) (sym same)
          (each_implies (Contains left) (IsUnusedRoute state)
          (λ route h packet priority is gets. left_unused state state.routes (route_place state) (Gets state) (place_gets state rises) (gets_place state rises) (gets_alike state) samples marks.samples route (contains_in route left h) packet is (priority, gets))
          left (each_of_all left)));
      reasons = reasons;
      complete = λ route held none. subst (λ (routes : List Route). Contains routes route) (sym same)
          (in_contains route left (unused_left state state.routes (route_place state) (Gets state) (place_gets state rises) (gets_place state rises) (gets_alike state) samples marks.packets route held (λ packet is gets. none packet gets.0 is gets.1)));
      order = subst (IsRising is_listed_before) (sym same) (unmarked_rises is_listed_before state.routes _ rises);
    }
