-- The rules and the routes of the state that rows encode, in whatever order they come.
use Rattle.std.proofs.Common.{◌≡◌, ◌⊎◌, inl, ℕ, ◌+◌, ◌≤◌, Bool, true, false, List, length, refl, subst, arith}
use Rattle.std.specs.Prelude.{◌↔◌, IsPermutation, IsTrue, nat_le}
use Rattle.std.specs.Bool.{Decides}
use Rattle.std.specs.List.{AllByRecursion as Each, IsDistinct, list_all}
use Rattle.std.proofs.lemmas.Bool.Decides.{Decides-and, Decides-by_and, Decides-like, nat_tests}
use Rattle.std.proofs.lemmas.List.Elements.{All-from_recursion, recursion_from_All}
use Rattle.std.proofs.lemmas.List.Sorted.{All-permutation, IsPermutation-sym, IsPermutation-trans, length_permutation}
use Rattle.std.proofs.lemmas.List.Sums.{AllPass-from_list_all, list_all-from_AllPass}
use Rattle.std.proofs.lemmas.Map.Keys.{IsDistinct-IsPermutation}
use Rattle.prt_addr.specs.Rising.{IsRising}
use Rattle.prt_addr.proofs.Each.{each_implies}
use Rattle.prt_refusals.specs.declared.refusal.Refusal.{Refusal}
use Rattle.prt_refusals.specs.declared.refusal.Refusal.TheVariants.{Damaged, NoMemory}
use Rattle.prt_route.specs.Route.{is_listed_before}
use Rattle.prt_route.specs.Storable.{is_storable_route}
use Rattle.prt_route.specs.declared.route.Route.{Route}
use Rattle.prt_rule.specs.Sound.{IsInOrder}
use Rattle.prt_rule.specs.Same.{is_same_rule}
use Rattle.prt_rule.specs.Storable.{is_storable_rule}
use Rattle.prt_rule.specs.declared.rule.Rule.{Rule}
use Rattle.prt_rule.proofs.SameRules.{same_both_ways}
use Rattle.prt_trie.specs.Table.{has_same_key}
use Rattle.prt_version.specs.Ordered.{AreRoutes, AreRules, has_same_id, is_rule_of}
use Rattle.prt_version.specs.RowsSpell.{IsStorableState, RowsSpell, RowsSpellNone}
use Rattle.prt_version.specs.Sound.{IsSound}
use Rattle.prt_version.specs.State.{State}
use Rattle.prt_version.specs.declared.limits.TheConstants.{MOST_COMMANDS, MOST_ROUTES, MOST_RULES}
use Rattle.prt_version.proofs.ByTable.{both_in_each}
use Rattle.prt_version.proofs.RowOrder.{ids_both_ways, key_differs, keys_both_ways}
use Rattle.prt_version.proofs.SortedRows.{rising_apart}

-- ---- in another order

module _ {X : Type 0} (xs ys : List X) (moved : IsPermutation xs ys) where
  all_moved : (p : X → Bool) → IsTrue (list_all p xs) → IsTrue (list_all p ys)
  all_moved p all = list_all-from_AllPass p ys (All-permutation (λ x. p x ≡ true) xs ys moved (AllPass-from_list_all p xs all))

  fit_moved : (most : ℕ) → length xs ≤ most → length ys ≤ most
  fit_moved most fit = omega (arith, length_permutation xs ys moved)

pub rules_moved : (count : ℕ) (rules rows : List Rule) → IsPermutation rules rows → AreRules count rules → AreRules count rows
rules_moved count rules rows moved are = record {
  fit = fit_moved rules rows moved _ are.fit;
  each = all_moved rules rows moved (is_rule_of count) are.each;
  unlike = IsDistinct-IsPermutation is_same_rule same_both_ways rules rows moved are.unlike;
  ids = IsDistinct-IsPermutation has_same_id ids_both_ways rules rows moved are.ids;
}

pub routes_moved : (routes rows : List Route) → IsPermutation routes rows → AreRoutes routes → AreRoutes rows
routes_moved routes rows moved are = record {
  fit = fit_moved routes rows moved _ are.fit;
  each = all_moved routes rows moved is_storable_route are.each;
  keys = IsDistinct-IsPermutation has_same_key keys_both_ways routes rows moved are.keys;
}

-- ---- what the tests of sorted rows say

failed : {P : Type 0} (b : Bool) → (IsTrue b ↔ P) → b ≡ false → P → ⊥
failed b tells fails holds = absurd (let passes : b ≡ true = tells.1 holds in cc)

pub alike_rules : (count : ℕ) (rules rows : List Rule) (b : Bool) → IsPermutation rules rows → (IsTrue b ↔ IsDistinct is_same_rule rows) → b ≡ false → AreRules count rules → ⊥
alike_rules count rules rows b moved tells fails are = failed b tells fails (rules_moved count rules rows moved are).unlike

pub same_ids : (count : ℕ) (rules mid rows : List Rule) (b : Bool) → IsPermutation rules mid → IsPermutation mid rows → (IsTrue b ↔ IsDistinct has_same_id rows) → b ≡ false → AreRules count rules → ⊥
same_ids count rules mid rows b first second tells fails are = failed b tells fails (rules_moved count rules rows (IsPermutation-trans rules mid rows first second) are).ids

pub same_keys : (routes rows : List Route) (b : Bool) → IsPermutation routes rows → (IsTrue b ↔ IsDistinct has_same_key rows) → b ≡ false → AreRoutes routes → ⊥
same_keys routes rows b moved tells fails are = failed b tells fails (routes_moved routes rows moved are).keys

-- rules that are moved three times
pub moved_thrice : (rules first second third : List Rule) → IsPermutation rules first → IsPermutation first second → IsPermutation second third → IsPermutation rules third
moved_thrice rules first second third a b c = IsPermutation-trans rules second third (IsPermutation-trans rules first second a b) c

-- the rules that passed each test
pub passed_rules : (count : ℕ) (rules first second third : List Rule) → IsPermutation rules first → IsPermutation first second → IsPermutation second third → length rules ≤ MOST_RULES → IsTrue (list_all (is_rule_of count) rules) → IsDistinct is_same_rule first → IsDistinct has_same_id second → AreRules count third
passed_rules count rules first second third a b c fit each unlike ids =
    rules_moved count rules third (moved_thrice rules first second third a b c) (record {
      fit = fit;
      each = each;
      unlike = IsDistinct-IsPermutation is_same_rule same_both_ways first rules (IsPermutation-sym rules first a) unlike;
      ids = IsDistinct-IsPermutation has_same_id ids_both_ways second rules (IsPermutation-sym rules second (IsPermutation-trans rules first second a b)) ids;
    })

pub passed_routes : (routes rows : List Route) → IsPermutation routes rows → length routes ≤ MOST_ROUTES → IsTrue (list_all is_storable_route routes) → IsDistinct has_same_key rows → AreRoutes rows
passed_routes routes rows moved fit each keys =
    routes_moved routes rows moved (record {
      fit = fit;
      each = each;
      keys = IsDistinct-IsPermutation has_same_key keys_both_ways rows routes (IsPermutation-sym routes rows moved) keys;
    })

-- ---- what a state has

least_decided : (a b : ℕ) → Decides (nat_le a b) (a ≤ b)
least_decided a b = (λ h. grind (arith, nat_tests), λ h. grind (arith, nat_tests))

each_decided : {X : Type 0} (p : X → Bool) (P : X → Type 0) → ((x : X) → Decides (p x) (P x)) → (xs : List X) → Decides (list_all p xs) (Each P xs)
each_decided p P decides xs = Decides-like (list_all p xs) (recursion_from_All P xs) (All-from_recursion P xs) (Decides-by_and p P (list_all p) decides refl (λ _ _. refl) xs)

test_decided : (b : Bool) → Decides b (IsTrue b)
test_decided b = (λ h. h, λ h. h)

abbrev IsRuleOf : ℕ → Rule → Type 0
IsRuleOf count rule = ((1 ≤ rule.id) × (rule.id ≤ count + 3)) × IsTrue (is_storable_rule rule.action rule.suppress)

rule_decided : (count : ℕ) (rule : Rule) → Decides (is_rule_of count rule) (IsRuleOf count rule)
rule_decided count rule = Decides-and _ _ (Decides-and _ _ (least_decided 1 rule.id) (least_decided rule.id (count + 3))) (test_decided (is_storable_rule rule.action rule.suppress))

routes_decided : (routes : List Route) → Decides (list_all is_storable_route routes) (Each (λ route. IsTrue (is_storable_route route)) routes)
routes_decided routes = each_decided is_storable_route (λ route. IsTrue (is_storable_route route)) (λ route. test_decided (is_storable_route route)) routes

rules_of : (state : State) → IsSound state → IsStorableState state → AreRules state.count state.rules
rules_of state sound storable = record {
  fit = sound.rules_fit;
  each = (each_decided (is_rule_of state.count) (IsRuleOf state.count) (rule_decided state.count) state.rules).1
      (both_in_each _ _ state.rules (both_in_each _ _ state.rules sound.ids_from_one sound.ids) storable.rules);
  unlike = sound.distinct_rules;
  ids = sound.distinct_ids;
}

routes_of : (state : State) → IsSound state → IsStorableState state → AreRoutes state.routes
routes_of state sound storable = record {
  fit = sound.routes_fit;
  each = (routes_decided state.routes).1 storable.routes;
  keys = rising_apart is_listed_before has_same_key key_differs state.routes sound.routes_rise;
}

-- ---- what rows encode

pub no_rules : (number : ℕ) (rules : List Rule) (routes : List Route) → (AreRules number rules → ⊥) → RowsSpellNone number rules routes
no_rules number rules routes none state spells =
    none (rules_moved number state.rules rules (IsPermutation-sym rules state.rules spells.rules_are) (subst (λ n. AreRules n state.rules) spells.count (rules_of state spells.sound spells.storable)))

pub no_routes : (number : ℕ) (rules : List Rule) (routes : List Route) → (AreRoutes routes → ⊥) → RowsSpellNone number rules routes
no_routes number rules routes none state spells =
    none (routes_moved state.routes routes (IsPermutation-sym routes state.routes spells.routes_are) (routes_of state spells.sound spells.storable))

module _ (number : ℕ) (rules : List Rule) (routes : List Route) (counts : number ≤ MOST_COMMANDS) (rules_are : AreRules number rules × IsInOrder rules) (routes_are : AreRoutes routes × IsRising is_listed_before routes) where
  abbrev made : State
  made = record { count = number; rules = rules; routes = routes }

  each_rule : Each (IsRuleOf number) rules
  each_rule = (each_decided (is_rule_of number) (IsRuleOf number) (rule_decided number) rules).0 rules_are.0.each

  -- ordered rules and routes are those of a sound state
  pub ordered_sound : IsSound made
  ordered_sound = record {
    count_fits = counts;
    rules_rise = rules_are.1;
    ids_from_one = each_implies (IsRuleOf number) (λ rule. 1 ≤ rule.id) (λ rule h. h.0.0) rules each_rule;
    ids = each_implies (IsRuleOf number) (λ rule. rule.id ≤ number + 3) (λ rule h. h.0.1) rules each_rule;
    distinct_ids = rules_are.0.ids;
    distinct_rules = rules_are.0.unlike;
    routes_rise = routes_are.1;
    rules_fit = rules_are.0.fit;
    routes_fit = routes_are.0.fit;
  }

  pub ordered_spelled : (rule_rows : List Rule) (route_rows : List Route) → IsPermutation rule_rows rules → IsPermutation route_rows routes → RowsSpell number rule_rows route_rows made
  ordered_spelled rule_rows route_rows rules_moved routes_moved = record {
    count = refl;
    rules_are = rules_moved;
    routes_are = routes_moved;
    sound = ordered_sound;
    storable = record {
      rules = each_implies (IsRuleOf number) (λ rule. IsTrue (is_storable_rule rule.action rule.suppress)) (λ rule h. h.1) rules each_rule;
      routes = (routes_decided routes).0 routes_are.0.each;
    };
  }

-- a refusal of the rules, or of the routes, is one of the rows
pub rules_damaged : (number : ℕ) (rules : List Rule) (routes : List Route) (reason : Refusal) → (reason ≡ Damaged) × (AreRules number rules → ⊥) → ((reason ≡ Damaged) × RowsSpellNone number rules routes) ⊎ (reason ≡ NoMemory)
rules_damaged number rules routes reason h = inl (h.0, no_rules number rules routes h.1)

pub routes_damaged : (number : ℕ) (rules : List Rule) (routes : List Route) (reason : Refusal) → (reason ≡ Damaged) × (AreRoutes routes → ⊥) → ((reason ≡ Damaged) × RowsSpellNone number rules routes) ⊎ (reason ≡ NoMemory)
routes_damaged number rules routes reason h = inl (h.0, no_routes number rules routes h.1)
