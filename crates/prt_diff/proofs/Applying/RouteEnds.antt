-- Which routes there are after all are put and deleted.
use Rattle.std.proofs.Common.{◌≡◌, inl, inr, true, false, not, ◌||◌, List, [], ◌∷◌, refl, sym, ap, ◌∙◌, subst}
use Rattle.std.specs.List.{AllByRecursion as Each, IsDistinct}
use Rattle.std.proofs.lemmas.Bool.{or_parts}
use Rattle.prt_addr.specs.Rising.{IsRising}
use Rattle.prt_addr.proofs.Each.{distinct_filtered}
use Rattle.prt_addr.proofs.Orders.{rising_filtered, same_risings}
use Rattle.prt_route.specs.Edit.{has_key, without_key}
use Rattle.prt_route.specs.Route.{is_listed_before, key_of}
use Rattle.prt_route.specs.declared.route.Route.{Route}
use Rattle.prt_route.proofs.Edits.{listing_order, rising_keys}
use Rattle.prt_trie.specs.Table.{has_same_key}
use Rattle.prt_version.proofs.RowOrder.{keys_both_ways}
use Rattle.prt_diff.specs.Routes.{put_all}
use Rattle.prt_diff.specs.Apply.Routes.{has_route, is_same_route, missing_routes, unwanted_routes}
use Rattle.prt_diff.proofs.Members.{IsIn, any_in, contains_in, differ, each_if, either, false_by, in_any, in_contains, negated, passed, passing}
use Rattle.prt_diff.proofs.RouteSteps.{all_rise, has_its_key, not_false, put_from, put_in, same_of_key, stays_in}
use Rattle.prt_diff.proofs.Applying.RouteSteps.{delete_all}
use Rattle.prt_diff.proofs.Applying.SameRoutes.{routes_same}

-- ---- routes are deleted

left_from : (route : Route) (todo routes : List Route) → IsIn route (delete_all todo routes) → IsIn route routes × (has_key (key_of route) todo ≡ false)
left_from route [] routes within = (within, refl)
left_from route (other ∷ todo) routes within =
    let rest = left_from route todo (without_key (key_of other) routes) within in
    let p = passed (λ x. not (has_same_key x other)) route routes rest.0 in
    (p.0, ap (λ b. b || has_key (key_of route) todo) (keys_both_ways other route ∙ negated (has_same_key route other) p.1) ∙ rest.1)

left_in : (route : Route) (todo routes : List Route) → IsIn route routes → has_key (key_of route) todo ≡ false → IsIn route (delete_all todo routes)
left_in route [] routes within absent = within
left_in route (other ∷ todo) routes within absent =
    let both = or_parts (has_same_key other route) (has_key (key_of route) todo) absent in
    left_in route todo (without_key (key_of other) routes)
    (passing (λ x. not (has_same_key x other)) route routes within (not_false (has_same_key route other) (keys_both_ways route other ∙ both.0)))
    both.1

left_rise : (todo routes : List Route) → IsRising is_listed_before routes → IsRising is_listed_before (delete_all todo routes)
left_rise [] routes rises = rises
left_rise (route ∷ todo) routes rises = left_rise todo (without_key (key_of route) routes) (rising_filtered is_listed_before (λ x. not (has_same_key x route)) routes rises)

-- ---- the routes at the end

module _ (found wanted : List Route) (found_rises : IsRising is_listed_before found) (wanted_rises : IsRising is_listed_before wanted) where
  abbrev missing : List Route
  missing = missing_routes found wanted

  abbrev unwanted : List Route
  unwanted = unwanted_routes found wanted

  -- what is found, with all that comes
  abbrev all : List Route
  all = put_all missing found

  is_found : (route : Route) → IsIn route found → has_route route found ≡ true
  is_found route within = any_in (λ other. is_same_route other route) route found within ((routes_same route route).1 refl)

  found_it : (route : Route) → has_route route found ≡ true → IsIn route found
  found_it route has = let h = in_any (λ other. is_same_route other route) found has in subst (λ x. IsIn x found) ((routes_same h.one route).0 h.passes) h.within

  missing_is : (route : Route) → IsIn route missing → IsIn route wanted × (has_route route found ≡ false)
  missing_is route within = let p = passed (λ x. not (has_route x found)) route wanted within in (p.0, negated (has_route route found) p.1)

  unwanted_is : (route : Route) → IsIn route unwanted → IsIn route found × (has_key (key_of route) wanted ≡ false)
  unwanted_is route within = let p = passed (λ x. not (has_key (key_of x) wanted)) route found within in (p.0, negated (has_key (key_of route) wanted) p.1)

  -- no route that comes has the key of one that both have
  none_comes : (route : Route) → IsIn route wanted → IsIn route found → has_key (key_of route) missing ≡ false
  none_comes route wanted_in found_in =
      false_by (has_key (key_of route) missing)
      (λ has.
      let h = in_any (λ x. has_same_key x route) missing has in
      let m = missing_is h.one h.within in
      let same : h.one ≡ route = same_of_key wanted h.one route wanted_rises m.0 wanted_in h.passes in
      differ (sym (is_found route found_in) ∙ ap (λ x. has_route x found) (sym same) ∙ m.1))

  -- no route that goes has a wanted key
  none_goes : (route : Route) → IsIn route wanted → has_key (key_of route) unwanted ≡ false
  none_goes route wanted_in =
      false_by (has_key (key_of route) unwanted)
      (λ has.
      let h = in_any (λ x. has_same_key x route) unwanted has in
      differ (sym (any_in (λ x. has_same_key x h.one) route wanted wanted_in (keys_both_ways route h.one ∙ h.passes)) ∙ (unwanted_is h.one h.within).1))

  comes_or_stays : (route : Route) → IsIn route wanted → IsIn route all
  comes_or_stays route wanted_in =
      elim (either (has_route route found)) [
        | inl has ↦ stays_in route missing found (found_it route has) (none_comes route wanted_in (found_it route has))
        | inr none ↦ put_in route missing found (λ other other_in same. same_of_key wanted other route wanted_rises (missing_is other other_in).0 wanted_in same) (passing (λ x. not (has_route x found)) route wanted wanted_in (not_false (has_route route found) none))
      ]

  into_last : (route : Route) → IsIn route wanted → IsIn route (delete_all unwanted all)
  into_last route wanted_in = left_in route unwanted all (comes_or_stays route wanted_in) (none_goes route wanted_in)

  -- a route that is found and neither changes nor goes is wanted
  stays_wanted : (route : Route) → IsIn route found → has_key (key_of route) missing ≡ false → has_key (key_of route) unwanted ≡ false → IsIn route wanted
  stays_wanted route found_in unchanged kept =
      elim (either (has_key (key_of route) wanted)) [
        | inr none ↦ differ (sym (any_in (λ x. has_same_key x route) route unwanted (passing (λ x. not (has_key (key_of x) wanted)) route found found_in (not_false (has_key (key_of route) wanted) none)) (has_its_key route)) ∙ kept)
        | inl has ↦ (let w = in_any (λ x. has_same_key x route) wanted has in
            elim (either (has_route w.one found)) [
              | inl there ↦ subst (λ x. IsIn x wanted) (same_of_key found w.one route found_rises (found_it w.one there) found_in w.passes) w.within
              | inr new ↦ differ (sym (any_in (λ x. has_same_key x route) w.one missing (passing (λ x. not (has_route x found)) w.one wanted w.within (not_false (has_route w.one found) new)) w.passes) ∙ unchanged)
            ])
      ]

  from_last : (route : Route) → IsIn route (delete_all unwanted all) → IsIn route wanted
  from_last route within =
      let l = left_from route unwanted all within in
      elim (put_from route missing found l.0) [
        | inl comes ↦ (missing_is route comes).0
        | inr both ↦ stays_wanted route both.0 both.1 l.1
      ]

  pub routes_brought : delete_all unwanted all ≡ wanted
  routes_brought =
      same_risings is_listed_before listing_order (delete_all unwanted all) wanted (left_rise unwanted all (all_rise missing found found_rises)) wanted_rises
      (λ x h. in_contains x wanted (from_last x (contains_in x (delete_all unwanted all) h)))
      (λ x h. in_contains x (delete_all unwanted all) (into_last x (contains_in x wanted h)))

  -- each that goes is there before routes go
  pub unwanted_there : Each (λ route. IsIn route all) unwanted
  unwanted_there =
      each_if (λ route. IsIn route all) unwanted
      (λ route within.
      let u = unwanted_is route within in
      stays_in route missing found u.0
      (false_by (has_key (key_of route) missing)
      (λ has.
      let h = in_any (λ x. has_same_key x route) missing has in
      differ (sym (any_in (λ x. has_same_key x route) h.one wanted (missing_is h.one h.within).0 h.passes) ∙ u.1))))

  pub unwanted_apart : IsDistinct has_same_key unwanted
  unwanted_apart = distinct_filtered has_same_key (λ route. not (has_key (key_of route) wanted)) found (rising_keys found found_rises)
