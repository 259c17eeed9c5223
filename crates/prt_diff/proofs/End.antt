-- Where the changes end: what is outside the fence stays, and what is wanted within it is there.
use Rattle.std.proofs.Common.{◌≡◌, ◌⊎◌, inl, inr, Bool, true, false, not, ◌&&◌, ◌||◌, List, [], ◌∷◌, ◌++◌, map, refl, sym, ap, ◌∙◌, arith, cond}
use Rattle.std.specs.Prelude.{filter, ◌==◌, bytes_eq, is_none}
use Rattle.std.specs.List.{AllByRecursion as Each, list_any}
use Rattle.std.proofs.lemmas.Bool.{and_parts, eq-eqb}
use Rattle.std.proofs.lemmas.Bool.Decides.{nat_tests}
use Rattle.std.proofs.lemmas.Slice.Eq.{bytes_eq-Decides}
use Rattle.prt_route.specs.Edit.{has_key}
use Rattle.prt_route.specs.Route.{key_of}
use Rattle.prt_route.specs.RouteChoice.{is_same_addr}
use Rattle.prt_route.specs.declared.route.Route.{Route}
use Rattle.prt_rule.specs.Same.{is_same_rule}
use Rattle.prt_rule.specs.declared.rule.Rule.{Rule}
use Rattle.prt_trie.specs.Table.{has_same_key}
use Rattle.prt_version.specs.Change.{has_rule}
use Rattle.prt_version.specs.State.{State}
use Rattle.prt_version.proofs.RowOrder.{keys_both_ways}
use Rattle.prt_diff.specs.Between.{AreSame, CanBring, rules_beyond}
use Rattle.prt_diff.specs.Fence.{is_rule_within, rules_within}
use Rattle.prt_diff.specs.Plan.{Plan, bring_all, brought, clear_all, cleared, plan, remove_all, removed}
use Rattle.prt_diff.specs.Routes.{agrees, has_agreeing, is_kept, kept_routes, leaves_dev, managed_routes}
use Rattle.prt_diff.specs.Rules.{coming_rules, going_rules, has_lower_priority, rules_at, stays, with_rule, without_id, without_rule}
use Rattle.prt_diff.specs.declared.fence.Fence.{Fence}
use Rattle.prt_diff.proofs.Along.{all, barring, barring_apart, barring_is, clear_plan, coming_is, coming_last, coming_missing, coming_wanted, is_coming, is_kept_one, early, fourth_plan, going_apart, last_routes, late, missing_come, not_unwanted, second_plan, third_plan, first_plan, unwanted, wanted_ones, wanted_rise}
use Rattle.prt_diff.proofs.HasRule.{has_like, like_left, same_itself, same_within}
use Rattle.prt_diff.proofs.Members.{IsIn, any_in, differ, each_if, each_in, either, false_by, in_any, negated, passed, passing}
use Rattle.prt_diff.proofs.PlanSteps.{bring_has, bring_keeps, brought_cases, clear_keeps, cleared_cases, remove_gone, remove_keeps, remove_tells, removed_cases}
use Rattle.prt_diff.proofs.RouteSteps.{filtered_insert, filtered_without, has_its_key, has_one, one_of, put_from, puts_pass, same_of_key, stays_in}
use Rattle.prt_diff.proofs.SameRoutes.{addresses, kinds, options}

pub or_last : (a b : Bool) → b ≡ true → (a || b) ≡ true
or_last true b is = refl
or_last false b is = is

-- ---- rules outside the fence

abbrev beyond : Fence → Rule → Bool
beyond fence rule = not (is_rule_within fence rule)

unlike_beyond : (fence : Fence) (rule other : Rule) → is_rule_within fence rule ≡ true → beyond fence other ≡ true → is_same_rule other rule ≡ false
unlike_beyond fence rule other within out = false_by (is_same_rule other rule) (λ same. differ (sym within ∙ sym (same_within fence other rule same) ∙ negated (is_rule_within fence other) out))

without_beyond : (fence : Fence) (rule : Rule) (rules : List Rule) → is_rule_within fence rule ≡ true → rules_beyond fence (without_rule rule rules) ≡ rules_beyond fence rules
without_beyond fence rule rules within = filtered_without (beyond fence) (λ other. is_same_rule other rule) rules (λ other other_in out. unlike_beyond fence rule other within out)

with_beyond : (fence : Fence) (rule : Rule) (rules : List Rule) → is_rule_within fence rule ≡ true → rules_beyond fence (with_rule rule rules) ≡ rules_beyond fence rules
with_beyond fence rule rules within = filtered_insert (beyond fence) has_lower_priority rule rules (ap not within)

bring_beyond : (fence : Fence) (rules : List Rule) (plan : Plan) → Each (λ rule. is_rule_within fence rule ≡ true) rules → rules_beyond fence (bring_all rules plan).rules ≡ rules_beyond fence plan.rules
bring_beyond fence [] plan within = refl
bring_beyond fence (rule ∷ rules) plan within =
    bring_beyond fence rules (brought rule plan) within.1
    ∙ brought_cases (λ q. rules_beyond fence q.rules ≡ rules_beyond fence plan.rules) rule plan
    (λ has first. with_beyond fence rule (without_rule rule plan.rules) within.0 ∙ without_beyond fence rule plan.rules within.0)
    (λ has first. refl)
    (λ absent. with_beyond fence rule plan.rules within.0)

remove_beyond : (fence : Fence) (rules : List Rule) (plan : Plan) → Each (λ rule. is_rule_within fence rule ≡ true) rules → rules_beyond fence (remove_all rules plan).rules ≡ rules_beyond fence plan.rules
remove_beyond fence [] plan within = refl
remove_beyond fence (rule ∷ rules) plan within =
    remove_beyond fence rules (removed rule plan) within.1
    ∙ removed_cases (λ q. rules_beyond fence q.rules ≡ rules_beyond fence plan.rules) rule plan (λ first. without_beyond fence rule plan.rules within.0) (λ first. refl)

-- rules that fail the test leave those that pass
pub clear_filtered : (p : Rule → Bool) (rules : List Rule) (plan : Plan) → Each (λ rule. (other : Rule) → p other ≡ true → is_same_rule other rule ≡ false) rules → filter p (clear_all rules plan).rules ≡ filter p plan.rules
clear_filtered p [] plan apart = refl
clear_filtered p (rule ∷ rules) plan apart =
    clear_filtered p rules (cleared rule plan) apart.1
    ∙ cleared_cases (λ q. filter p q.rules ≡ filter p plan.rules) rule plan (λ first. filtered_without p (λ other. is_same_rule other rule) plan.rules (λ other other_in passes. apart.0 other passes)) refl

-- ---- those that pass a test that reads no id are the same except for ids

filter_shape_by : (p : Rule → Bool) (rule : Rule) (rules : List Rule) (b : Bool) → map without_id (filter p rules) ≡ filter p (map without_id rules) → map without_id (cond b (rule ∷ filter p rules) (filter p rules)) ≡ cond b (without_id rule ∷ filter p (map without_id rules)) (filter p (map without_id rules))
filter_shape_by p rule rules true rest = ap (λ xs. without_id rule ∷ xs) rest
filter_shape_by p rule rules false rest = rest

filter_shape : (p : Rule → Bool) → ((rule : Rule) → p rule ≡ p (without_id rule)) → (rules : List Rule) → map without_id (filter p rules) ≡ filter p (map without_id rules)
filter_shape p no_id [] = refl
filter_shape p no_id (rule ∷ rules) =
    filter_shape_by p rule rules (p rule) (filter_shape p no_id rules)
    ∙ ap (λ b. cond b (without_id rule ∷ filter p (map without_id rules)) (filter p (map without_id rules))) (no_id rule)

pub same_filtered : (p : Rule → Bool) → ((rule : Rule) → p rule ≡ p (without_id rule)) → (rules others : List Rule) → AreSame rules others → AreSame (filter p rules) (filter p others)
same_filtered p no_id rules others same = filter_shape p no_id rules ∙ ap (filter p) same ∙ sym (filter_shape p no_id others)

-- ---- rules that stay are found

has_filtered_by : (x y : Rule) (p : Rule → Bool) (ys : List Rule) (b : Bool) → (has_rule x (filter p ys) ≡ true → has_rule x ys ≡ true) → has_rule x (cond b (y ∷ filter p ys) (filter p ys)) ≡ true → has_rule x (y ∷ ys) ≡ true
has_filtered_by x y p ys true rest has = by (is_same_rule y x) has
  where
    by : (s : Bool) → (s || has_rule x (filter p ys)) ≡ true → (s || has_rule x ys) ≡ true
    by true h = refl
    by false h = rest h
has_filtered_by x y p ys false rest has = or_last (is_same_rule y x) (has_rule x ys) (rest has)

pub has_filtered : (x : Rule) (p : Rule → Bool) (rules : List Rule) → has_rule x (filter p rules) ≡ true → has_rule x rules ≡ true
has_filtered x p [] has = has
has_filtered x p (y ∷ ys) has = has_filtered_by x y p ys (p y) (has_filtered x p ys) has

stays_by : (rule other first : Rule) (found wanted : List Rule) (b : Bool) → is_same_rule other first ≡ b → (stays rule found wanted ≡ true → has_rule rule found ≡ true) → (stays rule found (first ∷ wanted) ≡ true → has_rule rule found ≡ true) → cond b (is_same_rule first rule || stays rule found wanted) (stays rule found (first ∷ wanted)) ≡ true → (is_same_rule other rule || has_rule rule found) ≡ true
stays_by rule other first found wanted true same one two has = by (is_same_rule first rule) refl has
  where
    by : (s : Bool) → is_same_rule first rule ≡ s → (s || stays rule found wanted) ≡ true → (is_same_rule other rule || has_rule rule found) ≡ true
    by true is h = ap (λ b. b || has_rule rule found) (like_left other first rule same ∙ is)
    by false is h = or_last (is_same_rule other rule) (has_rule rule found) (one h)
stays_by rule other first found wanted false same one two has = or_last (is_same_rule other rule) (has_rule rule found) (two has)

pub stays_has : (rule : Rule) (found wanted : List Rule) → stays rule found wanted ≡ true → has_rule rule found ≡ true
stays_has rule [] wanted has = has
stays_has rule (other ∷ found) [] has = differ (sym has)
stays_has rule (other ∷ found) (first ∷ wanted) has = stays_by rule other first found wanted (is_same_rule other first) refl (stays_has rule found wanted) (stays_has rule found (first ∷ wanted)) has

-- ---- a route agrees with itself

seven : (a b c d e f g : Bool) → a ≡ true → b ≡ true → c ≡ true → d ≡ true → e ≡ true → f ≡ true → g ≡ true → (a && b && c && d && e && f && g) ≡ true
seven a b c d e f g a_is b_is c_is d_is e_is f_is g_is = cc

pub agrees_itself : (route : Route) → agrees route route ≡ true
agrees_itself route =
    seven _ _ _ _ _ _ _ (has_its_key route) ((kinds route.kind route.kind).1 refl) ((options is_same_addr addresses route.via route.via).1 refl)
    (or_last (leaves_dev route) _ ((options bytes_eq bytes_eq-Decides route.dev route.dev).1 refl))
    (or_last (leaves_dev route && is_none route.src) _ ((options is_same_addr addresses route.src route.src).1 refl))
    (eq-eqb route.proto route.proto refl) (eq-eqb route.scope route.scope refl)

first_of : (a b c d e f g : Bool) → (a && b && c && d && e && f && g) ≡ true → a ≡ true
first_of a b c d e f g h = (and_parts a b (and_parts (a && b) c (and_parts (a && b && c) d (and_parts (a && b && c && d) e (and_parts (a && b && c && d && e) f (and_parts (a && b && c && d && e && f) g h).0).0).0).0).0).0

pub agreeing_key : (wanted found : Route) → agrees wanted found ≡ true → has_same_key wanted found ≡ true
agreeing_key wanted found h = first_of _ _ _ _ _ _ _ h

module _ (fence : Fence) (found wanted : State) (can : CanBring fence found wanted) where
  abbrev comes : List Rule
  comes = coming_rules fence found.rules wanted.rules

  abbrev start : Plan
  start = clear_plan fence found wanted can

  abbrev middle : Plan
  middle = second_plan fence found wanted can

  abbrev goes : List Rule
  goes = going_rules fence middle.rules wanted.rules

  abbrev last : Plan
  last = fourth_plan fence found wanted can

  abbrev third : Plan
  third = third_plan fence found wanted can

  abbrev sought : List Route
  sought = wanted_ones fence found wanted can

  abbrev come_routes : List Route
  come_routes = early fence found wanted can ++ late fence found wanted can

  abbrev end_routes : List Route
  end_routes = last_routes fence found wanted can

  -- ---- rules

  pub comes_within : Each (λ rule. is_rule_within fence rule ≡ true) comes
  comes_within = each_if (λ rule. is_rule_within fence rule ≡ true) comes (λ rule rule_in. (coming_is fence found wanted can rule rule_in).within)

  pub goes_within : Each (λ rule. is_rule_within fence rule ≡ true) goes
  goes_within = each_if (λ rule. is_rule_within fence rule ≡ true) goes (λ rule within. (and_parts (is_rule_within fence rule) (not (has_rule rule wanted.rules)) (passed (λ r. is_rule_within fence r && not (has_rule r wanted.rules)) rule middle.rules within).1).0)

  pub beyond_same : rules_beyond fence last.rules ≡ rules_beyond fence found.rules
  beyond_same =
      remove_beyond fence goes third goes_within
      ∙ bring_beyond fence comes start comes_within
      ∙ clear_filtered (beyond fence) (barring fence found wanted can) (first_plan fence found wanted can)
      (each_if (λ rule. (other : Rule) → beyond fence other ≡ true → is_same_rule other rule ≡ false) (barring fence found wanted can) (λ rule rule_in other out. unlike_beyond fence rule other (barring_is fence found wanted can rule rule_in).0 out))

  both_pass : (a b : Bool) → a ≡ true → b ≡ false → (a && not b) ≡ true
  both_pass a b one two = cc

  kept_is_found : (rule : Rule) → is_kept_one fence found wanted can rule ≡ true → has_rule rule found.rules ≡ true
  kept_is_found rule kept =
      has_filtered rule (is_rule_within fence) found.rules
      (has_filtered rule (λ r. r.priority == rule.priority) (rules_within fence found.rules)
      (stays_has rule (rules_at rule.priority (rules_within fence found.rules)) (rules_at rule.priority (rules_within fence wanted.rules)) kept))

  pub there : (rule : Rule) → is_rule_within fence rule ≡ true → has_rule rule wanted.rules ≡ true → has_rule rule last.rules ≡ true
  there rule within has =
      let w = in_any (λ other. is_same_rule other rule) wanted.rules has in
      let has_one : has_rule w.one wanted.rules ≡ true = any_in (λ other. is_same_rule other w.one) w.one wanted.rules w.within (same_itself w.one) in
      let apart = going_apart fence found wanted can w.one has_one in
      let inside : is_rule_within fence w.one ≡ true = same_within fence w.one rule w.passes ∙ within in
      sym (has_like w.one rule last.rules w.passes)
      ∙ remove_keeps w.one goes third apart
      (elim (either (is_kept_one fence found wanted can w.one)) [
        | inl kept ↦ bring_keeps w.one comes start (clear_keeps w.one (barring fence found wanted can) (first_plan fence found wanted can) (barring_apart fence found wanted can w.one has_one) (kept_is_found w.one kept))
        | inr new ↦ each_in (λ r. has_rule r middle.rules ≡ true) w.one comes (bring_has comes start) (is_coming fence found wanted can w.one w.within inside new)
      ])

  pub sought_or_left : (rule : Rule) → is_rule_within fence rule ≡ true → has_rule rule last.rules ≡ true → (has_rule rule wanted.rules ≡ true) ⊎ (has_rule rule last.left ≡ true)
  sought_or_left rule within has =
      elim (either (has_rule rule wanted.rules)) [
        | inl is ↦ inl is
        | inr absent ↦ elim (either (has_rule rule middle.rules)) [
          | inl there_then ↦
              (let f = in_any (λ other. is_same_rule other rule) middle.rules there_then in
              let inside : is_rule_within fence f.one ≡ true = same_within fence f.one rule f.passes ∙ within in
              let f_goes : IsIn f.one goes = passing (λ r. is_rule_within fence r && not (has_rule r wanted.rules)) f.one middle.rules f.within (both_pass _ _ inside (has_like f.one rule wanted.rules f.passes ∙ absent)) in
              elim (each_in (λ r. (has_rule r last.rules ≡ false) ⊎ (has_rule r last.left ≡ true)) f.one goes (remove_tells goes third) f_goes) [
                | inl gone ↦ differ (sym has ∙ sym (has_like f.one rule last.rules f.passes) ∙ gone)
                | inr told ↦ inr (sym (has_like f.one rule last.left f.passes) ∙ told)
              ])
          | inr gone ↦ differ (sym has ∙ remove_gone rule goes third gone)
        ]
      ]

  -- ---- routes

  kept_not_unwanted : (route : Route) → is_kept fence route ≡ true → unwanted fence found wanted can route ≡ false
  kept_not_unwanted route kept = ap (λ b. not b && not (has_key (key_of route) sought)) kept

  sought_managed : (route : Route) → IsIn route sought → (is_kept fence route ≡ false) × (has_key (key_of route) (kept_routes fence found.routes) ≡ false)
  sought_managed route within =
      let p = passed (λ r. not (has_key (key_of r) (kept_routes fence found.routes))) route (managed_routes fence wanted.routes) within in
      let m = passed (λ r. not (is_kept fence r)) route wanted.routes p.0 in
      (negated (is_kept fence route) m.1, negated (has_key (key_of route) (kept_routes fence found.routes)) p.1)

  pub kept_same : kept_routes fence end_routes ≡ kept_routes fence found.routes
  kept_same =
      filtered_without (is_kept fence) (unwanted fence found wanted can) (all fence found wanted can) (λ route within kept. kept_not_unwanted route kept)
      ∙ puts_pass (is_kept fence) come_routes found.routes
      (each_if (λ route. is_kept fence route ≡ false) come_routes (λ route within. (sought_managed route (coming_wanted fence found wanted can route within)).0))
      (each_if (λ route. has_key (key_of route) (kept_routes fence found.routes) ≡ false) come_routes (λ route within. (sought_managed route (coming_wanted fence found wanted can route within)).1))

  -- one that is not found so comes
  sought_comes : (route : Route) → IsIn route sought → has_agreeing route found.routes ≡ false → IsIn route come_routes
  sought_comes route within absent = missing_come fence found wanted can route (passing (λ r. not (has_agreeing r found.routes)) route sought within (ap not absent))

  comes_not_so : (route : Route) → IsIn route come_routes → has_agreeing route found.routes ≡ false
  comes_not_so route within = negated (has_agreeing route found.routes) (passed (λ r. not (has_agreeing r found.routes)) route sought (coming_missing fence found wanted can route within)).1

  stays_so : (one old : Route) → IsIn one sought → IsIn old found.routes → agrees one old ≡ true → IsIn old end_routes
  stays_so one old one_in old_in agree =
      let none : has_key (key_of old) come_routes ≡ false =
      false_by (has_key (key_of old) come_routes)
      (λ has.
      let h = one_of (key_of old) come_routes has in
      let same : h.one ≡ one = same_of_key sought h.one one (wanted_rise fence found wanted can) (coming_wanted fence found wanted can h.one h.within) one_in (by_key h.one old one h.same (agreeing_key one old agree)) in
      differ (sym (any_in (agrees one) old found.routes old_in agree) ∙ ap (λ r. has_agreeing r found.routes) (sym same) ∙ comes_not_so h.one h.within)) in
      passing (λ r. not (unwanted fence found wanted can r)) old (all fence found wanted can) (stays_in old come_routes found.routes old_in none) (ap not (not_unwanted fence found wanted can old one one_in (agreeing_key one old agree)))
    where
      by_key : (a b c : Route) → has_same_key a b ≡ true → has_same_key c b ≡ true → has_same_key a c ≡ true
      by_key a b c first second = chained a b c first (keys_both_ways b c ∙ second)
        where
          chained : (a b c : Route) → has_same_key a b ≡ true → has_same_key b c ≡ true → has_same_key a c ≡ true
          chained a b c first second = grind (arith, nat_tests, first, second)

  pub routes_are_there : Each (λ route. has_agreeing route end_routes ≡ true) sought
  routes_are_there =
      each_if (λ route. has_agreeing route end_routes ≡ true) sought
      (λ route within. elim (either (has_agreeing route found.routes)) [
        | inl has ↦ (let f = in_any (agrees route) found.routes has in any_in (agrees route) f.one end_routes (stays_so route f.one within f.within f.passes) f.passes)
        | inr absent ↦ any_in (agrees route) route end_routes (coming_last fence found wanted can route (sought_comes route within absent)) (agrees_itself route)
      ])

  key_sought : (a b : Bool) → a ≡ false → (not a && not b) ≡ false → b ≡ true
  key_sought false true first second = refl
  key_sought false false first second = differ second
  key_sought true b first second = differ first

  end_is_sought : (route : Route) → IsIn route end_routes → is_kept fence route ≡ false → list_any (λ one. agrees one route) sought ≡ true
  end_is_sought route within managed =
      let p = passed (λ r. not (unwanted fence found wanted can r)) route (all fence found wanted can) within in
      elim (put_from route come_routes found.routes p.0) [
        | inl came ↦ any_in (λ one. agrees one route) route sought (coming_wanted fence found wanted can route came) (agrees_itself route)
        | inr old ↦
            (let w = one_of (key_of route) sought (key_sought (is_kept fence route) (has_key (key_of route) sought) managed (negated (unwanted fence found wanted can route) p.1)) in
            elim (either (has_agreeing w.one found.routes)) [
              | inl has ↦
                  (let f = in_any (agrees w.one) found.routes has in
                  let same : f.one ≡ route = same_of_key found.routes f.one route can.found_sound.routes_rise f.within old.0 (chained f.one w.one route (keys_both_ways f.one w.one ∙ agreeing_key w.one f.one f.passes) w.same) in
                  any_in (λ one. agrees one route) w.one sought w.within (ap (agrees w.one) (sym same) ∙ f.passes))
              | inr absent ↦ differ (sym (has_one (key_of route) w.one come_routes (sought_comes w.one w.within absent) w.same) ∙ old.1)
            ])
      ]
    where
      chained : (a b c : Route) → has_same_key a b ≡ true → has_same_key b c ≡ true → has_same_key a c ≡ true
      chained a b c first second = grind (arith, nat_tests, first, second)

  pub end_routes_are_sought : Each (λ route. list_any (λ one. agrees one route) sought ≡ true) (managed_routes fence end_routes)
  end_routes_are_sought =
      each_if (λ route. list_any (λ one. agrees one route) sought ≡ true) (managed_routes fence end_routes)
      (λ route within. let p = passed (λ r. not (is_kept fence r)) route end_routes within in end_is_sought route p.0 (negated (is_kept fence route) p.1))
