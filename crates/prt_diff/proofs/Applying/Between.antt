-- On the way, no key of a route that both ends have is missing.
use Rattle.std.proofs.Common.{◌≡◌, ◌⊎◌, inl, inr, ℕ, zero, suc, ◌+◌, ◌≤◌, Bool, true, false, not, List, [], ◌∷◌, ◌++◌, Option, Some, None, Result, Ok, Err, length, map, sym, ap, ◌∙◌, subst, arith}
use Rattle.std.specs.Prelude.{nat_lt, if◌then◌else◌, option_map, ok_or}
use Rattle.std.specs.List.{AllByRecursion as Each, IsDistinct}
use Rattle.std.proofs.lemmas.Bool.Decides.{nat_tests}
use Rattle.prt_refusals.specs.declared.refusal.Refusal.{Refusal}
use Rattle.prt_refusals.specs.declared.refusal.Refusal.TheVariants.{CountFull, Exists, Full, NoSuch}
use Rattle.prt_addr.proofs.Each.{each_append}
use Rattle.prt_route.specs.Edit.{has_key, without_key}
use Rattle.prt_route.specs.Route.{is_listed_before, is_same_key, key_of}
use Rattle.prt_route.specs.declared.edit.RouteEdit.TheVariants.{Put, Remove}
use Rattle.prt_route.specs.declared.route.Route.{Route}
use Rattle.prt_route.specs.declared.route.RouteKey.{RouteKey}
use Rattle.prt_rule.specs.declared.rule.Rule.{Rule}
use Rattle.prt_command.specs.declared.request.Command.{Command}
use Rattle.prt_trie.specs.Table.{has_same_key}
use Rattle.prt_version.specs.Change.{apply, check, fold, has_rule, if_room, named_rule, put, put_if, rule_of, unless_count_full}
use Rattle.prt_version.specs.Sound.{IsSound}
use Rattle.prt_version.specs.State.{State}
use Rattle.prt_version.specs.declared.change.Change.{Change}
use Rattle.prt_version.specs.declared.change.Change.TheVariants as change
use Rattle.prt_version.specs.declared.limits.TheConstants.{MOST_COMMANDS, MOST_ROUTES, MOST_RULES}
use Rattle.prt_version.proofs.RowOrder.{keys_both_ways}
use Rattle.prt_diff.specs.Between.{EachState}
use Rattle.prt_diff.specs.Routes.{delete_route, replace_route}
use Rattle.prt_diff.specs.Rules.{add_rule, new_rule, rules_at}
use Rattle.prt_diff.specs.Apply.Rules.{are_same, changes_below, choice_at, delete_first, replacing}
use Rattle.prt_diff.proofs.Leads.{put_sound}
use Rattle.prt_diff.proofs.Members.{IsIn, differ, each_both, each_of, false_by, in_any, inserted, passed, passing}
use Rattle.prt_diff.proofs.RouteSteps.{delete_checked, has_one, not_false, put_one, stays_or_put}
use Rattle.prt_diff.proofs.Applying.RouteSteps.{chosen_is}

-- ---- what holds of each state

pub each_first : (P : State → Type 0) (state : State) (commands : List Command) → EachState P state commands → P state
each_first P state [] each = each
each_first P state (command ∷ commands) each = each.0

pub each_more : (P : State → Type 0) (state : State) (first second : List Command) → EachState P state first → EachState P (fold state first) second → EachState P state (first ++ second)
each_more P state [] second each later = later
each_more P state (command ∷ first) second each later = (each.0, each_more P (apply state command) first second each.1 later)

pub each_last : (P : State → Type 0) (state : State) (commands : List Command) → EachState P state commands → P (fold state commands)
each_last P state [] each = each
each_last P state (command ∷ commands) each = each_last P (apply state command) commands each.1

-- what holds of a state holds after the command, whether it is accepted or not
abbrev pub Keeps : (State → Type 0) → Command → Type 0
Keeps P command = (state : State) → P state → P (apply state command)

pub each_kept : (P : State → Type 0) (commands : List Command) → Each (Keeps P) commands → (state : State) → P state → EachState P state commands
each_kept P [] keep state holds = holds
each_kept P (command ∷ commands) keep state holds = (holds, each_kept P commands keep.1 (apply state command) (keep.0 state holds))

-- ---- what holds of a change that is made

abbrev IfMade : (Change → Type 0) → Result Change Refusal → Type 0
IfMade Q (Ok made) = Q made
IfMade Q (Err reason) = Unit {0}

made_or : (Q : Change → Type 0) (b : Bool) (one other : Result Change Refusal) → IfMade Q one → IfMade Q other → IfMade Q (if b then one else other)
made_or Q true one other first second = first
made_or Q false one other first second = second

made_unless : (Q : Change → Type 0) (count : ℕ) (checked : Result Change Refusal) → IfMade Q checked → IfMade Q (unless_count_full count checked)
made_unless Q count (Ok made) holds = made_or Q (nat_lt count MOST_COMMANDS) (Ok made) (Err CountFull) holds tt
made_unless Q count (Err reason) holds = tt

made_dropped : (Q : Change → Type 0) (named : Option Rule) → ((rule : Rule) → Q (change.RuleDrop rule.id)) → IfMade Q (ok_or (option_map (λ (rule : Rule). change.RuleDrop rule.id) named) NoSuch)
made_dropped Q None holds = tt
made_dropped Q (Some rule) holds = holds rule

after_made : (P : State → Type 0) (state : State) (checked : Result Change Refusal) → IfMade (λ made. P (put state made)) checked → P state → P (put_if state checked)
after_made P state (Ok made) holds before = holds
after_made P state (Err reason) holds before = before

-- ---- of routes

module _ (R : List Route → Type 0) where
  abbrev pub OfRoutes : State → Type 0
  OfRoutes state = R state.routes

  -- a rule that is added or deleted changes no route
  add_keeps : (rule : Rule) → Keeps OfRoutes (add_rule rule)
  add_keeps rule state holds =
      let Q : Change → Type 0 = λ made. R (put state made).routes in
      let new : Rule = rule_of state (new_rule rule) in
      after_made OfRoutes state (check state (add_rule rule))
      (made_unless Q state.count (if has_rule new state.rules then Err Exists else if_room (length state.rules) MOST_RULES (change.RulePut new))
      (made_or Q (has_rule new state.rules) (Err Exists) (if_room (length state.rules) MOST_RULES (change.RulePut new)) tt
      (made_or Q (nat_lt (length state.rules) MOST_RULES) (Ok (change.RulePut new)) (Err Full) holds tt)))
      holds

  delete_keeps : (rule : Rule) → Keeps OfRoutes (delete_first rule)
  delete_keeps rule state holds =
      let Q : Change → Type 0 = λ made. R (put state made).routes in
      let named : Option Rule = named_rule (choice_at rule.priority) state.rules in
      after_made OfRoutes state (check state (delete_first rule))
      (made_unless Q state.count (ok_or (option_map (λ (r : Rule). change.RuleDrop r.id) named) NoSuch) (made_dropped Q named (λ r. holds)))
      holds

  replace_keeps : (route : Route) → ((routes : List Route) → R routes → R (put_one route routes)) → Keeps OfRoutes (replace_route route)
  replace_keeps route gives state holds =
      let Q : Change → Type 0 = λ made. R (put state made).routes in
      let made : Change = change.Route (Put route) in
      after_made OfRoutes state (check state (replace_route route))
      (made_unless Q state.count (if has_key (key_of route) state.routes then Ok made else if_room (length state.routes) MOST_ROUTES made)
      (made_or Q (has_key (key_of route) state.routes) (Ok made) (if_room (length state.routes) MOST_ROUTES made) (gives state.routes holds)
      (made_or Q (nat_lt (length state.routes) MOST_ROUTES) (Ok made) (Err Full) (gives state.routes holds) tt)))
      holds

  each_command : {X : Type 0} (f : X → Command) (xs : List X) → Each (λ x. Keeps OfRoutes (f x)) xs → Each (Keeps OfRoutes) (map f xs)
  each_command f [] keep = tt
  each_command f (x ∷ xs) keep = (keep.0, each_command f xs keep.1)

  replacing_keeps : (found wanted : List Rule) → Each (Keeps OfRoutes) (replacing found wanted)
  replacing_keeps found wanted = by (are_same found wanted)
    where
      by : (b : Bool) → Each (Keeps OfRoutes) (if b then [] else map delete_first found ++ map add_rule wanted)
      by true = tt
      by false =
          each_append (Keeps OfRoutes) (map delete_first found) (map add_rule wanted)
          (each_command delete_first found (each_of (λ rule. Keeps OfRoutes (delete_first rule)) delete_keeps found))
          (each_command add_rule wanted (each_of (λ rule. Keeps OfRoutes (add_rule rule)) add_keeps wanted))

  pub changes_keep : (n : ℕ) (found wanted : List Rule) → Each (Keeps OfRoutes) (changes_below n found wanted)
  changes_keep zero found wanted = tt
  changes_keep (suc n) found wanted = each_append (Keeps OfRoutes) (changes_below n found wanted) (replacing (rules_at n found) (rules_at n wanted)) (changes_keep n found wanted) (replacing_keeps (rules_at n found) (rules_at n wanted))

  pub replacements_keep : (todo : List Route) → Each (λ route. (routes : List Route) → R routes → R (put_one route routes)) todo → Each (Keeps OfRoutes) (map replace_route todo)
  replacements_keep [] give = tt
  replacements_keep (route ∷ todo) give = (replace_keeps route give.0, replacements_keep todo give.1)

  pub deletions_keep : (todo : List Route) (state : State) → IsSound state → Each (λ route. IsIn route state.routes) todo → IsDistinct has_same_key todo → state.count + length todo ≤ MOST_COMMANDS → Each (λ route. (routes : List Route) → R routes → R (without_key (key_of route) routes)) todo → R state.routes → EachState OfRoutes state (map delete_route todo)
  unfolding IsDistinct
  deletions_keep [] state sound within apart counts give holds = holds
  deletions_keep (route ∷ todo) state sound within apart counts give holds =
      let made : Change = change.Route (Remove (key_of route)) in
      let is : check state (delete_route route) ≡ Ok made = delete_checked state route (chosen_is route state.routes within.0 sound.routes_rise) (omega (arith, counts)) in
      let next : apply state (delete_route route) ≡ put state made = ap (put_if state) is in (
        holds,
        subst (λ s. EachState OfRoutes s (map delete_route todo)) (sym next)
            (deletions_keep todo (put state made) (put_sound state (delete_route route) made sound is)
            (each_both (λ other. IsIn other state.routes) (λ other. has_same_key route other ≡ false) (λ other. IsIn other (without_key (key_of route) state.routes))
            (λ other there unlike. passing (λ old. not (has_same_key old route)) other state.routes there (not_false (has_same_key other route) (keys_both_ways other route ∙ unlike))) todo within.1 apart.0)
            apart.1 (omega (arith, counts)) give.1 (give.0 state.routes holds)),
      )

-- ---- between both ends

pub record RoutesBetween (found wanted routes : List Route) : Type 0 where
  pub of_both : (key : RouteKey) → has_key key found ≡ true → has_key key wanted ≡ true → has_key key routes ≡ true
  pub of_one : (route : Route) → IsIn route routes → IsIn route found ⊎ IsIn route wanted

module _ (found wanted : List Route) where
  pub put_between : (route : Route) → IsIn route wanted → (routes : List Route) → RoutesBetween found wanted routes → RoutesBetween found wanted (put_one route routes)
  put_between route comes routes between = record {
    of_both = λ key first last. (let h = in_any (λ (other : Route). is_same_key (key_of other) key) routes (between.of_both key first last) in stays_or_put route h.one routes key h.within h.passes);
    of_one = λ x within. elim (inserted is_listed_before x route (without_key (key_of route) routes) within) [
      | inl is ↦ inr (subst (λ y. IsIn y wanted) (sym is) comes)
      | inr old ↦ between.of_one x (passed (λ other. not (has_same_key other route)) x routes old).0
    ];
  }

  chained : (one last route : Route) (key : RouteKey) → is_same_key (key_of one) key ≡ true → is_same_key (key_of last) key ≡ true → has_same_key one route ≡ true → has_same_key last route ≡ true
  chained one last route key same other is = grind (arith, nat_tests, same, other, is)

  -- a route of a key that both have is not one that goes
  other_key : (route one : Route) (key : RouteKey) → has_key (key_of route) wanted ≡ false → has_key key wanted ≡ true → is_same_key (key_of one) key ≡ true → has_same_key one route ≡ false
  other_key route one key goes last same =
      false_by (has_same_key one route)
      (λ is.
      let h = in_any (λ (other : Route). is_same_key (key_of other) key) wanted last in
      differ (sym (has_one (key_of route) h.one wanted h.within (chained one h.one route key same h.passes is)) ∙ goes))

  pub without_between : (route : Route) → has_key (key_of route) wanted ≡ false → (routes : List Route) → RoutesBetween found wanted routes → RoutesBetween found wanted (without_key (key_of route) routes)
  without_between route goes routes between = record {
    of_both = λ key first last. (let h = in_any (λ (other : Route). is_same_key (key_of other) key) routes (between.of_both key first last) in
        has_one key h.one (without_key (key_of route) routes) (passing (λ old. not (has_same_key old route)) h.one routes h.within (not_false (has_same_key h.one route) (other_key route h.one key goes last h.passes))) h.passes);
    of_one = λ x within. between.of_one x (passed (λ old. not (has_same_key old route)) x routes within).0;
  }
