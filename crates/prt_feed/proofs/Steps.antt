-- A command makes of a state that is the same except for ids what it makes of the state.
use Rattle.std.proofs.Common.{◌≡◌, ℕ, ◌+◌, ◌<◌, ◌≤◌, Bool, true, false, List, [], ◌∷◌, Option, Some, None, Result, Ok, Err, IfOk, length, refl, sym, ap, ◌∙◌, subst, arith, cond}
use Rattle.std.specs.Prelude.{◌==◌, if◌then◌else◌, nat_lt, ok_or, option_map, unwrap_or}
use Rattle.std.specs.List.{AllByRecursion as Each}
use Rattle.std.specs.Result.{result_err}
use Rattle.std.proofs.lemmas.Bool.Decides.{nat_tests}
use Rattle.std.proofs.lemmas.List.{length-map}
use Rattle.prt_addr.proofs.Each.{each_implies}
use Rattle.prt_refusals.specs.declared.refusal.Refusal.{Refusal}
use Rattle.prt_refusals.specs.declared.refusal.Refusal.TheVariants.{Exists, NoSuch, Full, CountFull}
use Rattle.prt_route.specs.Edit.{has_key}
use Rattle.prt_route.specs.Route.{key_of}
use Rattle.prt_route.specs.RouteChoice.{chosen_route}
use Rattle.prt_route.specs.declared.edit.RouteEdit.TheVariants.{Remove}
use Rattle.prt_route.specs.declared.route.Route.{Route}
use Rattle.prt_rule.specs.RuleChoice.{is_named}
use Rattle.prt_rule.specs.Same.{is_same_rule}
use Rattle.prt_rule.specs.declared.choice.RuleChoice.{RuleChoice}
use Rattle.prt_rule.specs.declared.rule.Rule.{Rule}
use Rattle.prt_command.specs.declared.request.Command.{Command}
use Rattle.prt_command.specs.declared.request.Command.TheVariants.{RouteAdd, RouteChange, RouteReplace, RouteDel, RouteFlush, RuleAdd, RuleDel, RuleFlush}
use Rattle.prt_command.specs.declared.request.NewRule.{NewRule}
use Rattle.prt_version.specs.Accepted.{IsAccepted}
use Rattle.prt_version.specs.Change.{apply, change_of, check, fold, has_rule, if_room, named_rule, put, put_if, refusal, rule_of, unless_count_full}
use Rattle.prt_version.specs.Sound.{IsSound}
use Rattle.prt_version.specs.State.{State, opening_state, table_rule}
use Rattle.prt_version.specs.declared.change.Change.{Change}
use Rattle.prt_version.specs.declared.change.Change.TheVariants as change
use Rattle.prt_version.specs.declared.limits.TheConstants.{MOST_COMMANDS, MOST_ROUTES, MOST_RULES}
use Rattle.prt_version.proofs.Folds.{apply_count, put_count}
use Rattle.prt_version.proofs.Successor.{next_sound, opens_sound}
use Rattle.prt_dump.specs.PutBack.{IsSameButForIds, without_id}
use Rattle.prt_dump.proofs.Remade.{state_of}
use Rattle.prt_feed.proofs.Rules.{IsFound, any_same, auto_same, bare, dropped_same, filtered_same, found_too, put_same}

-- ---- commands on routes

-- a change of routes alone
abbrev IsOfRoutes : Change → Type 0
IsOfRoutes (change.Route edit) = Unit {0}
IsOfRoutes (change.RouteAdd route) = Unit {0}
IsOfRoutes other = ⊥

-- it makes of routes the same, whatever the rules
routes_put : (known state : State) (made : Change) → IsOfRoutes made → IsSameButForIds known state → IsSameButForIds (put known made) (put state made)
routes_put known state (change.Route edit) of same = record { rules = same.rules; routes = ap (λ routes. (put (state_of 0 [] routes) (change.Route edit)).routes) same.routes }
routes_put known state (change.RouteAdd route) of same = record { rules = same.rules; routes = ap (λ routes. (put (state_of 0 [] routes) (change.RouteAdd route)).routes) same.routes }
routes_put known state (change.RulePut rule) of same = absurd of
routes_put known state (change.RuleDrop id) of same = absurd of
routes_put known state change.RuleFlush of same = absurd of

abbrev OfRoutes : Result Change Refusal → Type 0
OfRoutes made = IfOk made IsOfRoutes

if_of : (b : Bool) (r s : Result Change Refusal) → OfRoutes r → OfRoutes s → OfRoutes (if b then r else s)
if_of true r s then_so else_so = then_so
if_of false r s then_so else_so = else_so

found_of : (o : Option Route) → OfRoutes (ok_or (option_map (λ route. change.Route (Remove (key_of route))) o) NoSuch)
found_of None = tt
found_of (Some route) = tt

made_of : (r : Result Change Refusal) (made : Change) → OfRoutes r → r ≡ Ok made → IsOfRoutes made
made_of r made of is = subst OfRoutes is of

-- ---- what a command asks for

-- What a command asks for if the same is known except for ids, and what that makes.
pub record IsAskedToo (known state : State) (command : Command) (made : Change) : Type 0 where
  pub own : Change
  pub asked : change_of known command ≡ Ok own
  pub same : IsSameButForIds (put known own) (put state made)

routes_asked : (known state : State) (command : Command) (made : Change) → IsSameButForIds known state → change_of known command ≡ change_of state command → OfRoutes (change_of state command) → change_of state command ≡ Ok made → IsAskedToo known state command made
routes_asked known state command made same alike of is = record {
  own = made;
  asked = alike ∙ is;
  same = routes_put known state made (made_of (change_of state command) made of is) same;
}

-- a change, if what it adds isn't there and there is room
abbrev unless_there : Bool → Bool → Change → Result Change Refusal
unless_there there room asked = if there then Err Exists else if room then Ok asked else Err Full

-- what is asked for is made, and another would be
record IsAllowed (there room : Bool) (asked own made : Change) : Type 0 where
  is : asked ≡ made
  allowed : unless_there there room own ≡ Ok own

allowed_by : (there room : Bool) (asked own made : Change) → unless_there there room asked ≡ Ok made → IsAllowed there room asked own made
allowed_by true room asked own made h = absurd cc
allowed_by false true asked own made h = record { is = cc; allowed = refl }
allowed_by false false asked own made h = absurd cc

length_bare : (rules others : List Rule) → bare rules ≡ bare others → length rules ≡ length others
length_bare rules others same = sym (length-map rules without_id) ∙ ap length same ∙ length-map others without_id

older : (state : State) → IsSound state → Each (λ (rule : Rule). rule.id < state.count + 4) state.rules
older state sound = each_implies (λ (rule : Rule). rule.id ≤ state.count + 3) (λ (rule : Rule). rule.id < state.count + 4) (λ rule h. omega (arith, h)) state.rules sound.ids

new_same : (known state : State) (new : NewRule) → IsSameButForIds known state → without_id (rule_of known new) ≡ without_id (rule_of state new)
new_same known state new same =
    ap (λ (priority : ℕ). without_id (rule_by priority)) (ap (unwrap_or new.priority) (auto_same known.rules state.rules same.rules))
  where
    rule_by : ℕ → Rule
    rule_by priority = record { id = 0; priority = priority; inverted = new.inverted; from = new.from; to = new.to; iif = new.iif; mark = new.mark; action = new.action; suppress = new.suppress }

rule_added : (known state : State) (new : NewRule) (made : Change) → IsSound known → IsSound state → IsSameButForIds known state → change_of state (RuleAdd new) ≡ Ok made → IsAskedToo known state (RuleAdd new) made
rule_added known state new made known_sound sound same is =
    let own : Rule = rule_of known new in
    let rule : Rule = rule_of state new in
    let alike : without_id own ≡ without_id rule = new_same known state new same in
    let there : has_rule own known.rules ≡ has_rule rule state.rules =
    any_same (λ other. is_same_rule other own) (λ other. is_same_rule other rule) (λ other. is_same_rule other (without_id rule))
    (λ other. ap (λ (one : Rule). is_same_rule (without_id other) one) alike) (λ other. refl) known.rules state.rules same.rules in
    let room : nat_lt (length known.rules) MOST_RULES ≡ nat_lt (length state.rules) MOST_RULES = ap (λ n. nat_lt n MOST_RULES) (length_bare known.rules state.rules same.rules) in
    let a : IsAllowed (has_rule rule state.rules) (nat_lt (length state.rules) MOST_RULES) (change.RulePut rule) (change.RulePut own) made = allowed_by _ _ _ _ _ is in
    record {
      own = change.RulePut own;
      asked =
          ap (λ b. cond b (Err Exists) (if_room (length known.rules) MOST_RULES (change.RulePut own))) there
          ∙ ap (λ b. cond (has_rule rule state.rules) (Err Exists) (cond b (Ok (change.RulePut own)) (Err Full))) room
          ∙ a.allowed;
      same = subst (λ c. IsSameButForIds (put known (change.RulePut own)) (put state c)) a.is (record {
        rules = put_same own rule known.rules state.rules alike same.rules (older known known_sound) (older state sound);
        routes = same.routes;
      });
    }

-- A rule that is to go.
record IsRemoval (o : Option Rule) (made : Change) : Type 0 where
  rule : Rule
  found : o ≡ Some rule
  is : change.RuleDrop rule.id ≡ made

removal_by : (o : Option Rule) (made : Change) → ok_or (option_map (λ (rule : Rule). change.RuleDrop rule.id) o) NoSuch ≡ Ok made → IsRemoval o made
removal_by None made h = absurd cc
removal_by (Some rule) made h = record { rule = rule; found = refl; is = cc }

rule_deleted : (known state : State) (choice : RuleChoice) (made : Change) → IsSound known → IsSound state → IsSameButForIds known state → change_of state (RuleDel choice) ≡ Ok made → IsAskedToo known state (RuleDel choice) made
rule_deleted known state choice made known_sound sound same is =
    let r : IsRemoval (named_rule choice state.rules) made = removal_by (named_rule choice state.rules) made is in
    let f : IsFound (named_rule choice known.rules) = found_too (is_named choice) (λ rule. refl) known.rules state.rules same.rules r.rule r.found in
    record {
      own = change.RuleDrop f.rule.id;
      asked = ap (λ o. ok_or (option_map (λ (rule : Rule). change.RuleDrop rule.id) o) NoSuch) f.is;
      same = subst (λ c. IsSameButForIds (put known (change.RuleDrop f.rule.id)) (put state c)) r.is (record {
        rules = dropped_same (is_named choice) (λ rule. refl) known.rules state.rules f.rule r.rule same.rules known_sound.distinct_ids sound.distinct_ids f.is r.found;
        routes = same.routes;
      });
    }

-- the routes are the same
asked_of_routes : (known state : State) (command : Command) → IsSameButForIds known state → change_of known command ≡ change_of (state_of known.count known.rules state.routes) command
asked_of_routes known state command same = ap (λ routes. change_of (state_of known.count known.rules routes) command) same.routes

asked_too : (known state : State) (command : Command) (made : Change) → IsSound known → IsSound state → IsSameButForIds known state → change_of state command ≡ Ok made → IsAskedToo known state command made
asked_too known state (RouteAdd route) made known_sound sound same is = routes_asked known state (RouteAdd route) made same (asked_of_routes known state (RouteAdd route) same) (if_of (has_key (key_of route) state.routes) _ _ tt (if_of (nat_lt (length state.routes) MOST_ROUTES) _ _ tt tt)) is
asked_too known state (RouteChange route) made known_sound sound same is = routes_asked known state (RouteChange route) made same (asked_of_routes known state (RouteChange route) same) (if_of (has_key (key_of route) state.routes) _ _ tt tt) is
asked_too known state (RouteReplace route) made known_sound sound same is = routes_asked known state (RouteReplace route) made same (asked_of_routes known state (RouteReplace route) same) (if_of (has_key (key_of route) state.routes) _ _ tt (if_of (nat_lt (length state.routes) MOST_ROUTES) _ _ tt tt)) is
asked_too known state (RouteDel choice) made known_sound sound same is = routes_asked known state (RouteDel choice) made same (asked_of_routes known state (RouteDel choice) same) (found_of (chosen_route choice state.routes)) is
asked_too known state (RouteFlush selector) made known_sound sound same is = routes_asked known state (RouteFlush selector) made same refl tt is
asked_too known state (RuleAdd new) made known_sound sound same is = rule_added known state new made known_sound sound same is
asked_too known state (RuleDel choice) made known_sound sound same is = rule_deleted known state choice made known_sound sound same is
asked_too known state RuleFlush made known_sound sound same is =
    let flush : change.RuleFlush ≡ made = cc in
    record {
      own = change.RuleFlush;
      asked = refl;
      same = subst (λ c. IsSameButForIds (put known change.RuleFlush) (put state c)) flush (record {
        rules = filtered_same (λ (rule : Rule). rule.priority == 0) (λ rule. refl) known.rules state.rules same.rules;
        routes = same.routes;
      });
    }

-- ---- one command

-- The change that an accepted command makes.
record IsMade (state : State) (command : Command) : Type 0 where
  made : Change
  checked : check state command ≡ Ok made
  asked : change_of state command ≡ Ok made

made_by : (r : Result Change Refusal) → result_err r ≡ None → (made : Change) × (r ≡ Ok made)
made_by (Ok made) h = (made, refl)
made_by (Err reason) h = absurd cc

asked_if : (b : Bool) (asked made : Change) → cond b (Ok asked) (Err CountFull) ≡ Ok made → asked ≡ made
asked_if true asked made h = cc
asked_if false asked made h = absurd cc

asked_by : (count : ℕ) (r : Result Change Refusal) (made : Change) → unless_count_full count r ≡ Ok made → r ≡ Ok made
asked_by count (Ok asked) made h = ap (λ c. Ok c) (asked_if (nat_lt count MOST_COMMANDS) asked made h)
asked_by count (Err reason) made h = absurd cc

is_made : (state : State) (command : Command) → refusal state command ≡ None → IsMade state command
is_made state command allowed =
    let one = made_by (check state command) allowed in
    record { made = one.0; checked = one.1; asked = asked_by state.count (change_of state command) one.0 one.1 }

has_room : (count : ℕ) → count < MOST_COMMANDS → nat_lt count MOST_COMMANDS ≡ true
has_room count below = grind (arith, nat_tests)

checked_too : (state : State) (command : Command) (made : Change) → state.count < MOST_COMMANDS → change_of state command ≡ Ok made → check state command ≡ Ok made
checked_too state command made room asked = ap (unless_count_full state.count) asked ∙ ap (λ b. if b then Ok made else Err CountFull) (has_room state.count room)

-- what an accepted command leaves is sound
pub apply_sound : (state : State) (command : Command) → IsSound state → refusal state command ≡ None → IsSound (apply state command)
apply_sound state command sound allowed =
    let one = is_made state command allowed in
    let whole : IsSound (put state one.made) = subst (λ n. IsSound (state_of n (put state one.made).rules (put state one.made).routes)) (sym (put_count state one.made))
    (next_sound state state one.made (put state one.made).rules (put state one.made).routes refl sound (record { command = command; makes = one.checked }) refl refl) in
    subst IsSound (ap (put_if state) (sym one.checked)) whole

-- A command is accepted if the same is known except for ids, and the same is known after it.
pub record IsFollowedBy (known state : State) (command : Command) : Type 0 where
  pub allowed : refusal known command ≡ None
  pub same : IsSameButForIds (apply known command) (apply state command)

pub followed_by : (known state : State) (command : Command) → IsSound known → IsSound state → IsSameButForIds known state → known.count < MOST_COMMANDS → refusal state command ≡ None → IsFollowedBy known state command
followed_by known state command known_sound sound same room allowed =
    let one = is_made state command allowed in
    let too = asked_too known state command one.made known_sound sound same one.asked in
    let checked : check known command ≡ Ok too.own = checked_too known command too.own room too.asked in
    record {
      allowed = ap result_err checked;
      same = subst (λ s. IsSameButForIds s (apply state command)) (ap (put_if known) (sym checked)) (subst (λ s. IsSameButForIds (put known too.own) s) (ap (put_if state) (sym one.checked)) too.same);
    }

-- ---- commands one after another

-- Commands are accepted if the same is known except for ids, and the same is known after them.
pub record AreFollowed (known state : State) (commands : List Command) : Type 0 where
  pub accepted : IsAccepted known commands
  pub same : IsSameButForIds (fold known commands) (fold state commands)

pub are_followed : (known state : State) (commands : List Command) → IsSound known → IsSound state → IsSameButForIds known state → IsAccepted state commands → known.count + length commands ≤ MOST_COMMANDS → AreFollowed known state commands
are_followed known state [] known_sound sound same accepted room = record { accepted = tt; same = same }
are_followed known state (command ∷ commands) known_sound sound same accepted room =
    let one = followed_by known state command known_sound sound same (omega (arith, room)) accepted.0 in
    let count = apply_count known command one.allowed in
    let rest = are_followed (apply known command) (apply state command) commands (apply_sound known command known_sound one.allowed) (apply_sound state command sound accepted.0) one.same accepted.1 (omega (arith, room, count)) in
    record { accepted = (one.allowed, rest.accepted); same = rest.same }

-- what accepted commands leave is sound
pub fold_sound : (state : State) (commands : List Command) → IsSound state → IsAccepted state commands → IsSound (fold state commands)
fold_sound state [] sound accepted = sound
fold_sound state (command ∷ commands) sound accepted = fold_sound (apply state command) commands (apply_sound state command sound accepted.0) accepted.1

pub opening_sound : IsSound opening_state
opening_sound = opens_sound (table_rule 1 0 255) (table_rule 2 32766 254) (table_rule 3 32767 253) _ _ refl refl refl refl refl
