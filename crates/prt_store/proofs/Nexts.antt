-- What a checked change makes of a state that may be stored may be stored too.
use Rattle.std.proofs.Common.{◌≡◌, inl, inr, ℕ, ◌+◌, ◌≤◌, Bool, true, false, not, Option, Some, None, Result, Ok, Err, cond, refl, sym, ap, subst, ◌∙◌, arith}
use Rattle.std.specs.Prelude.{◌==◌, IfOk, IsTrue, nat_lt, ok_or, option_map}
use Rattle.sqlite_rules.proofs.ListLemmas.{all_from, all_has, has_filtered, has_found}
use Rattle.sqlite_rules.specs.Lists.{Has}
use Rattle.prt_refusals.specs.declared.refusal.Refusal.{Refusal}
use Rattle.prt_refusals.specs.declared.refusal.Refusal.TheVariants.{Exists, NoSuch, Full, CountFull}
use Rattle.prt_command.specs.Storable.{IsStorable}
use Rattle.prt_command.specs.declared.request.Command.{Command}
use Rattle.prt_command.specs.declared.request.Command.TheVariants.{RouteAdd, RouteChange, RouteReplace, RouteDel, RouteFlush, RuleAdd, RuleDel, RuleFlush}
use Rattle.prt_route.specs.Edit.{after_edit, has_key}
use Rattle.prt_route.specs.Route.{is_listed_before, is_same_key, key_of}
use Rattle.prt_route.specs.RouteChoice.{chosen_route, is_selected}
use Rattle.prt_route.specs.Storable.{is_storable_route}
use Rattle.prt_route.specs.declared.edit.RouteEdit.TheVariants.{Put, Remove, Flush}
use Rattle.prt_route.specs.declared.route.Route.{Route}
use Rattle.prt_rows.specs.RouteRow.{IsInRange}
use Rattle.prt_rows.specs.RuleRow.{IsRule}
use Rattle.prt_rule.specs.Rule.{is_before}
use Rattle.prt_rule.specs.RuleChoice.{is_named}
use Rattle.prt_rule.specs.Storable.{is_storable_rule}
use Rattle.prt_rule.specs.declared.rule.Rule.{Rule}
use Rattle.prt_version.proofs.Folds.{put_count}
use Rattle.prt_version.proofs.Successor.{next_sound}
use Rattle.prt_version.specs.Change.{change_of, check, has_rule, named_rule, put, rule_of, unless_count_full}
use Rattle.prt_version.specs.Sound.{IsSound}
use Rattle.prt_version.specs.State.{State}
use Rattle.prt_version.specs.declared.change.Change.{Change}
use Rattle.prt_version.specs.declared.change.Change.TheVariants as change
use Rattle.prt_version.specs.declared.limits.TheConstants.{MOST_COMMANDS}
use Rattle.prt_store.proofs.Members.{inserted_has}
use Rattle.prt_store.specs.Lengths.{plain}
use Rattle.prt_store.specs.Next.{IsNext}
use Rattle.prt_store.specs.Stored.{FitsTables}
use Rattle.prt_store.specs.Written.{HasStorableIds, IsTyped}

-- what `number` and `check` say of a version is what a commit asks for
pub next_of : (before : State) (command : Command) (made : Change) (number : ℕ) → number ≡ before.count → IsSound before → IsStorable command → Ok made ≡ check before command → IsNext before made (number + 1)
next_of before command made number is sound storable makes = record { sound = sound; command = command; storable = storable; makes = sym makes; counts = ap (λ n. n + 1) is }

abbrev IsStorableRule : Rule → Type 0
IsStorableRule rule = IsTrue (is_storable_rule rule.action rule.suppress)

abbrev IsStorableRoute : Route → Type 0
IsStorableRoute route = IsTrue (is_storable_route route)

-- what a storable command puts may be stored, under the next id, and what it drops is there
abbrev Suits : State → Change → Type 0
Suits state (change.Route (Put route)) = IsStorableRoute route
Suits state (change.RouteAdd route) = IsStorableRoute route
Suits state (change.RulePut rule) = IsStorableRule rule × (rule.id ≡ state.count + 4)
Suits state (change.RuleDrop id) = (rule : Rule) × Has state.rules rule × (rule.id ≡ id)
Suits state _ = Unit {0}

-- the rule that is put, if one is
abbrev PutsRule : (Rule → Type 0) → Change → Type 0
PutsRule P (change.RulePut rule) = P rule
PutsRule P _ = Unit {0}

-- the route that is put, if one is
abbrev PutsRoute : (Route → Type 0) → Change → Type 0
PutsRoute P (change.Route (Put route)) = P route
PutsRoute P (change.RouteAdd route) = P route
PutsRoute P _ = Unit {0}

if_either : (P : Change → Type 0) (b : Bool) (x y : Result Change Refusal) → IfOk x P → IfOk y P → IfOk (cond b x y) P
if_either P true x y first second = first
if_either P false x y first second = second

removal_suits : (state : State) (chosen : Option Route) → IfOk (ok_or (option_map (λ route. change.Route (Remove (key_of route))) chosen) NoSuch) (Suits state)
removal_suits state None = tt
removal_suits state (Some route) = tt

drop_suits : (state : State) (named : Option Rule) → ((rule : Rule) → named ≡ Some rule → Has state.rules rule) → IfOk (ok_or (option_map (λ (rule : Rule). change.RuleDrop rule.id) named) NoSuch) (Suits state)
drop_suits state None there = tt
drop_suits state (Some rule) there = (rule, there rule refl, refl)

asked_suits : (state : State) (command : Command) → IsStorable command → IfOk (change_of state command) (Suits state)
asked_suits state (RouteAdd route) storable = if_either (Suits state) (has_key (key_of route) state.routes) (Err Exists) _ tt (if_either (Suits state) _ (Ok (change.RouteAdd route)) (Err Full) storable tt)
asked_suits state (RouteChange route) storable = if_either (Suits state) (has_key (key_of route) state.routes) (Ok (change.Route (Put route))) (Err NoSuch) storable tt
asked_suits state (RouteReplace route) storable = if_either (Suits state) (has_key (key_of route) state.routes) (Ok (change.Route (Put route))) _ storable (if_either (Suits state) _ (Ok (change.Route (Put route))) (Err Full) storable tt)
asked_suits state (RouteDel choice) storable = removal_suits state (chosen_route choice state.routes)
asked_suits state (RouteFlush selector) storable = tt
asked_suits state (RuleAdd new) storable = if_either (Suits state) (has_rule (rule_of state new) state.rules) (Err Exists) _ tt (if_either (Suits state) _ (Ok (change.RulePut (rule_of state new))) (Err Full) (storable, refl) tt)
asked_suits state (RuleDel choice) storable = drop_suits state (named_rule choice state.rules) (λ rule is. (has_found (is_named choice) state.rules rule is).0)
asked_suits state RuleFlush storable = tt

counted_suits : (state : State) (count : ℕ) (asked : Result Change Refusal) → IfOk asked (Suits state) → IfOk (unless_count_full count asked) (Suits state)
counted_suits state count (Ok made) suits = if_either (Suits state) (nat_lt count MOST_COMMANDS) (Ok made) (Err CountFull) suits tt
counted_suits state count (Err reason) suits = tt

-- ---- the next state

up_to : (last most : ℕ) (rule : Rule) → rule.id ≤ most → IsRule last rule → IsRule most rule
up_to last most rule within is = record { id = record { least = is.id.least; most = within }; priority = is.priority; from = is.from; to = is.to; iif = is.iif; mark = is.mark; action = is.action; plain = is.plain }

module _ (state : State) (made : Change) (number : ℕ) (next : IsNext state made number) where
  suits : Suits state made
  suits = subst (λ asked. IfOk asked (Suits state)) next.makes (counted_suits state state.count (change_of state next.command) (asked_suits state next.command next.storable))

  pub number_is : number ≡ (put state made).count
  number_is = next.counts ∙ sym (put_count state made)

  pub next_is_sound : IsSound (put state made)
  next_is_sound =
      let parts = next_sound state state made (put state made).rules (put state made).routes refl next.sound (record { command = next.command; makes = next.makes }) refl refl in
      subst (λ n. IsSound (record { count = n; rules = (put state made).rules; routes = (put state made).routes })) (sym (put_count state made)) parts

  number_fits : number ≤ MOST_COMMANDS
  number_fits = subst (λ n. n ≤ MOST_COMMANDS) (sym number_is) next_is_sound.count_fits

  pub small_ids : HasStorableIds made
  small_ids = by_change made suits
    where
      before : state.count + 1 ≤ MOST_COMMANDS
      before = subst (λ n. n ≤ MOST_COMMANDS) next.counts number_fits

      by_change : (made : Change) → Suits state made → HasStorableIds made
      by_change (change.RulePut rule) fits = omega (arith, fits.1, before)
      by_change (change.RuleDrop id) fits =
          let least : fits.0.id ≤ state.count + 3 = all_has (λ rule. rule.id ≤ state.count + 3) state.rules fits.0 next.sound.ids fits.1 in
          omega (arith, fits.2, least, before)
      by_change _ fits = tt

  -- what holds of each rule, and of the one that is put, holds of each rule of the next state
  rules_after : (P : Rule → Type 0) (made : Change) → PutsRule P made → ((rule : Rule) → Has state.rules rule → P rule) → (rule : Rule) → Has (put state made).rules rule → P rule
  rules_after P (change.RulePut put_rule) new each rule there = elim (inserted_has is_before put_rule state.rules rule there) [
    | inl is ↦ subst P (sym is) new
    | inr was ↦ each rule was
  ]
  rules_after P (change.RuleDrop id) new each rule there = each rule (has_filtered (λ rule. not (rule.id == id)) state.rules rule there).0
  rules_after P change.RuleFlush new each rule there = each rule (has_filtered (λ rule. rule.priority == 0) state.rules rule there).0
  rules_after P _ new each rule there = each rule there

  -- the same of routes
  put_after : (P : Route → Type 0) (added : Route) → P added → ((route : Route) → Has state.routes route → P route) → (route : Route) → Has (after_edit (Put added) state.routes) route → P route
  put_after P added new each route there = elim (inserted_has is_listed_before added _ route there) [
    | inl is ↦ subst P (sym is) new
    | inr was ↦ each route (has_filtered (λ other. not (is_same_key (key_of other) (key_of added))) state.routes route was).0
  ]

  routes_after : (P : Route → Type 0) (made : Change) → PutsRoute P made → ((route : Route) → Has state.routes route → P route) → (route : Route) → Has (put state made).routes route → P route
  routes_after P (change.Route (Put added)) new each route there = put_after P added new each route there
  routes_after P (change.Route (Remove key)) new each route there = each route (has_filtered (λ other. not (is_same_key (key_of other) key)) state.routes route there).0
  routes_after P (change.Route (Flush selector)) new each route there = each route (has_filtered (λ other. not (is_selected selector other)) state.routes route there).0
  routes_after P (change.RouteAdd added) new each route there = put_after P added new each route there
  routes_after P _ new each route there = each route there

  -- what is put is in range, and a table may hold it
  rule_in_range : (made : Change) → Suits state made → IsTyped made → PutsRule (λ rule. IsRule (state.count + 1 + 3) (plain rule)) made
  rule_in_range (change.RulePut new) fits typed = up_to new.id (state.count + 1 + 3) (plain new) (omega (arith, fits.1)) (typed (omega (arith, fits.1)))
  rule_in_range _ fits typed = tt

  route_in_range : (made : Change) → IsTyped made → PutsRoute IsInRange made
  route_in_range (change.Route (Put route)) typed = typed
  route_in_range (change.RouteAdd route) typed = typed
  route_in_range _ typed = tt

  rule_storable : (made : Change) → Suits state made → PutsRule IsStorableRule made
  rule_storable (change.RulePut rule) fits = fits.0
  rule_storable _ fits = tt

  route_storable : (made : Change) → Suits state made → PutsRoute IsStorableRoute made
  route_storable (change.Route (Put route)) fits = fits
  route_storable (change.RouteAdd route) fits = fits
  route_storable _ fits = tt

  module _ (storable : FitsTables state) (typed : IsTyped made) where
    older_rules : (rule : Rule) → Has state.rules rule → IsRule (state.count + 1 + 3) (plain rule)
    older_rules rule there = let is = storable.rules rule there in up_to (state.count + 3) (state.count + 1 + 3) (plain rule) (omega (arith, is.id.most)) is

    pub next_storable : FitsTables (put state made)
    next_storable = record {
      sound = next_is_sound;
      rules = λ rule there. subst (λ n. IsRule (n + 3) (plain rule)) (sym (put_count state made)) (rules_after (λ r. IsRule (state.count + 1 + 3) (plain r)) made (rule_in_range made suits typed) older_rules rule there);
      routes = routes_after IsInRange made (route_in_range made typed) storable.routes;
      storable = record {
        rules = all_from IsStorableRule (put state made).rules (rules_after IsStorableRule made (rule_storable made suits) (λ rule there. all_has IsStorableRule state.rules rule storable.storable.rules there));
        routes = all_from IsStorableRoute (put state made).routes (routes_after IsStorableRoute made (route_storable made suits) (λ route there. all_has IsStorableRoute state.routes route storable.storable.routes there));
      };
    }
