-- What the fence names is brought, or is held back.
use Rattle.std.proofs.Common.{◌≡◌, ◌⊎◌, inl, inr, Bool, true, false, not, ◌&&◌, List, refl, sym, ap, ◌∙◌}
use Rattle.std.specs.List.{Contains}
use Rattle.prt_route.specs.Edit.{has_key}
use Rattle.prt_route.specs.Route.{key_of}
use Rattle.prt_route.specs.declared.route.Route.{Route}
use Rattle.prt_rule.specs.declared.rule.Rule.{Rule}
use Rattle.prt_version.specs.Change.{has_rule}
use Rattle.prt_diff.specs.Fence.{is_kernels, is_rule_within, is_unread_key, is_unread_priority, names_route, names_rule, rules_within}
use Rattle.prt_diff.specs.Held.{blocked_routes, hindered_routes, is_meant_route, is_meant_rule, is_unread_route, is_unread_rule, staying_routes, unread_rules}
use Rattle.prt_diff.specs.Names.{is_plain_name}
use Rattle.prt_diff.specs.Routes.{is_kept, kept_routes, managed_routes, wanted_routes}
use Rattle.prt_diff.specs.Serving.{has_serving}
use Rattle.prt_diff.specs.declared.fence.Fence.{Fence}
use Rattle.prt_diff.proofs.Members.{IsIn, contains_in, differ, in_contains, passing}

-- ---- routes

within_if : (k n u p : Bool) → not k && n && p ≡ true → u ≡ false → not (not (not k && (n && (not u && p)))) ≡ true
within_if true n u p meant read = differ (sym meant)
within_if false false u p meant read = differ (sym meant)
within_if false true u false meant read = differ (sym meant)
within_if false true u true meant read = ap (λ b. not (not (not b && true))) read

managed_if : (fence : Fence) (route : Route) → is_meant_route fence route ≡ true → is_unread_key fence (key_of route) ≡ false → not (is_kept fence route) ≡ true
managed_if fence route meant read = within_if (is_kernels route) (names_route fence route) (is_unread_key fence (key_of route)) (is_plain_name route.dev) meant read

unread_if : (fence : Fence) (route : Route) → is_meant_route fence route ≡ true → is_unread_key fence (key_of route) ≡ true → is_unread_route fence route ≡ true
unread_if fence route meant unread = ap (λ b. b && is_meant_route fence route) unread ∙ meant

both : (p q : Bool) → p ≡ true → q ≡ false → p && not q ≡ true
both p q first second = ap (λ b. b && not q) first ∙ ap not second

wanted_by : (fence : Fence) (found wanted : List Route) (route : Route) → IsIn route wanted → is_meant_route fence route ≡ true
    → (there unread taken : Bool) → has_serving route found ≡ there → is_unread_key fence (key_of route) ≡ unread → has_key (key_of route) (kept_routes fence found) ≡ taken
    → Contains (wanted_routes fence found wanted) route ⊎ ((has_serving route found ≡ true) ⊎ (Contains (blocked_routes fence found wanted) route ⊎ Contains (hindered_routes fence found wanted) route))
wanted_by fence found wanted route within meant true unread taken is reads takes = inr (inl is)
wanted_by fence found wanted route within meant false true taken is reads takes =
    inr (inr (inr (in_contains route _ (passing (λ route. is_unread_route fence route && not (has_serving route found)) route wanted within (both (is_unread_route fence route) (has_serving route found) (unread_if fence route meant reads) is)))))
wanted_by fence found wanted route within meant false false true is reads takes =
    inr (inr (inl (in_contains route _ (passing (λ route. has_key (key_of route) (kept_routes fence found) && not (has_serving route found)) route (managed_routes fence wanted)
    (passing (λ route. not (is_kept fence route)) route wanted within (managed_if fence route meant reads)) (both (has_key (key_of route) (kept_routes fence found)) (has_serving route found) takes is)))))
wanted_by fence found wanted route within meant false false false is reads takes =
    inl (in_contains route _ (passing (λ route. not (has_key (key_of route) (kept_routes fence found))) route (managed_routes fence wanted)
    (passing (λ route. not (is_kept fence route)) route wanted within (managed_if fence route meant reads)) (ap not takes)))

pub wanted_route : (fence : Fence) (found wanted : List Route) (route : Route) → Contains wanted route → is_meant_route fence route ≡ true
    → Contains (wanted_routes fence found wanted) route ⊎ ((has_serving route found ≡ true) ⊎ (Contains (blocked_routes fence found wanted) route ⊎ Contains (hindered_routes fence found wanted) route))
wanted_route fence found wanted route within meant =
    wanted_by fence found wanted route (contains_in route wanted within) meant (has_serving route found) (is_unread_key fence (key_of route)) (has_key (key_of route) (kept_routes fence found)) refl refl refl

found_by : (fence : Fence) (found wanted : List Route) (route : Route) → IsIn route found → is_meant_route fence route ≡ true
    → (unread asked : Bool) → is_unread_key fence (key_of route) ≡ unread → has_key (key_of route) wanted ≡ asked
    → Contains (managed_routes fence found) route ⊎ ((has_key (key_of route) wanted ≡ true) ⊎ Contains (staying_routes fence found wanted) route)
found_by fence found wanted route within meant false asked reads asks = inl (in_contains route _ (passing (λ route. not (is_kept fence route)) route found within (managed_if fence route meant reads)))
found_by fence found wanted route within meant true true reads asks = inr (inl asks)
found_by fence found wanted route within meant true false reads asks =
    inr (inr (in_contains route _ (passing (λ route. is_unread_route fence route && not (has_key (key_of route) wanted)) route found within (both (is_unread_route fence route) (has_key (key_of route) wanted) (unread_if fence route meant reads) asks))))

pub found_route : (fence : Fence) (found wanted : List Route) (route : Route) → Contains found route → is_meant_route fence route ≡ true
    → Contains (managed_routes fence found) route ⊎ ((has_key (key_of route) wanted ≡ true) ⊎ Contains (staying_routes fence found wanted) route)
found_route fence found wanted route within meant = found_by fence found wanted route (contains_in route found within) meant (is_unread_key fence (key_of route)) (has_key (key_of route) wanted) refl refl

-- ---- rules

rule_if : (n u p : Bool) → n && p ≡ true → u ≡ false → n && (not u && p) ≡ true
rule_if false u p meant read = differ (sym meant)
rule_if true u false meant read = differ (sym meant)
rule_if true u true meant read = ap (λ b. not b && true) read

rule_by : (fence : Fence) (rules others : List Rule) (rule : Rule) → IsIn rule rules → is_meant_rule fence rule ≡ true
    → (unread there : Bool) → is_unread_priority fence rule.priority ≡ unread → has_rule rule others ≡ there
    → Contains (rules_within fence rules) rule ⊎ ((has_rule rule others ≡ true) ⊎ Contains (unread_rules fence rules others) rule)
rule_by fence rules others rule within meant false there reads is =
    inl (in_contains rule _ (passing (is_rule_within fence) rule rules within (rule_if (names_rule fence rule) (is_unread_priority fence rule.priority) (is_plain_name rule.iif) meant reads)))
rule_by fence rules others rule within meant true true reads is = inr (inl is)
rule_by fence rules others rule within meant true false reads is =
    inr (inr (in_contains rule _ (passing (λ rule. is_unread_rule fence rule && not (has_rule rule others)) rule rules within
    (both (is_unread_rule fence rule) (has_rule rule others) (ap (λ b. b && is_meant_rule fence rule) reads ∙ meant) is))))

pub unread_rule : (fence : Fence) (rules others : List Rule) (rule : Rule) → Contains rules rule → is_meant_rule fence rule ≡ true
    → Contains (rules_within fence rules) rule ⊎ ((has_rule rule others ≡ true) ⊎ Contains (unread_rules fence rules others) rule)
unread_rule fence rules others rule within meant = rule_by fence rules others rule (contains_in rule rules within) meant (is_unread_priority fence rule.priority) (has_rule rule others) refl refl
