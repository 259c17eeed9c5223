-- The first rule that agrees with a packet's verdict is the one that decides it.
use Rattle.std.proofs.Common.{◌≡◌, ℕ, Bool, true, false, not, ◌&&◌, cond, eqb, List, [], ◌∷◌, Option, Some, None, refl, sym, ap, ◌∙◌, subst, find, eq-eqb}
use Rattle.std.specs.Prelude.{filter, is_some, option_and_then, option_map, unwrap_or}
use Rattle.std.specs.List.{AllByRecursion as Each}
use Rattle.std.proofs.lemmas.Bool.{eqb-true}
use Rattle.prt_addr.specs.Order.{first_by}
use Rattle.prt_addr.specs.Prefix.{contains}
use Rattle.prt_addr.specs.Rising.{IsRising}
use Rattle.prt_addr.specs.Word.{keep}
use Rattle.prt_addr.proofs.Each.{each_implies, each_passing}
use Rattle.prt_addr.proofs.Orders.{first_is_head, not_itself}
use Rattle.prt_route.specs.Best.{best, candidates, is_candidate}
use Rattle.prt_route.specs.declared.route.Route.{Route}
use Rattle.prt_rule.specs.Rule.{is_before, matches}
use Rattle.prt_rule.specs.Same.{is_same_action}
use Rattle.prt_rule.specs.declared.packet.Packet.{Packet}
use Rattle.prt_rule.specs.declared.rule.Action.{Action}
use Rattle.prt_rule.specs.declared.rule.Action.TheVariants.{Lookup, Blackhole, Unreachable, Prohibit}
use Rattle.prt_rule.specs.declared.rule.Rule.{Rule}
use Rattle.prt_version.specs.Select.{decider, decision, is_throw, select, suppresses, table_lookup, verdict_by}
use Rattle.prt_version.specs.State.{State}
use Rattle.prt_version.specs.declared.answer.Verdict.{Verdict}
use Rattle.prt_version.specs.declared.answer.Verdict.TheVariants as verdict
use Rattle.prt_version.proofs.RuleOrder.{rule_order}
use Rattle.prt_partition.specs.Cuts.{AreAlike}
use Rattle.prt_partition.proofs.Alike.{same_select}
use Rattle.prt_partition.proofs.Starts.{IsIn}
use Rattle.prt_analyses.specs.Unused.Steps.{agrees}
use Rattle.prt_analyses.proofs.Finds.{both_true, filtered, find_narrower, find_same_tests, found, kept, mapped}

-- ---- actions

pub action_from : (a b : Action) → is_same_action a b ≡ true → a ≡ b
action_from (Lookup a) (Lookup b) e = ap Lookup (eqb-true a b e)
action_from Blackhole Blackhole e = refl
action_from Unreachable Unreachable e = refl
action_from Prohibit Prohibit e = refl
action_from (Lookup a) Blackhole e = absurd cc
action_from (Lookup a) Unreachable e = absurd cc
action_from (Lookup a) Prohibit e = absurd cc
action_from Blackhole (Lookup b) e = absurd cc
action_from Blackhole Unreachable e = absurd cc
action_from Blackhole Prohibit e = absurd cc
action_from Unreachable (Lookup b) e = absurd cc
action_from Unreachable Blackhole e = absurd cc
action_from Unreachable Prohibit e = absurd cc
action_from Prohibit (Lookup b) e = absurd cc
action_from Prohibit Blackhole e = absurd cc
action_from Prohibit Unreachable e = absurd cc

pub action_itself : (a : Action) → is_same_action a a ≡ true
action_itself (Lookup table) = eq-eqb table table refl
action_itself Blackhole = refl
action_itself Unreachable = refl
action_itself Prohibit = refl

-- ---- what a lookup finds

-- the route that a lookup finds is one of the routes, and of the table
looked : (table : ℕ) (routes : List Route) (packet : Packet) (route : Route) → table_lookup table routes packet ≡ Some route → IsIn route routes × (route.table ≡ table)
looked table routes packet route is =
    let best_is : best routes table packet.dst ≡ Some route = (kept (λ (r : Route). not (is_throw r.kind)) (best routes table packet.dst) route is).0 in
    let among : IsIn route (candidates routes table packet.dst) = (found _ (candidates routes table packet.dst) route best_is).1 in
    let one : IsIn route routes × (is_candidate table packet.dst route ≡ true) = filtered (is_candidate table packet.dst) route routes among in
    (one.0, eqb-true route.table table (both_true (eqb route.table table) (contains route.prefix packet.dst) one.1).0)

abbrev OfRoutes : List Route → Verdict → Type 0
OfRoutes routes (verdict.Route priority route) = IsIn route routes
OfRoutes routes (verdict.RuleSays priority action) = Unit {0}
OfRoutes routes verdict.NoRoute = Unit {0}

-- a rule that decides agrees with what it says, each rule that agrees with that decides, and a route that it finds is one of
-- the routes
record Agree (rule : Rule) (routes : List Route) (packet : Packet) (says : Verdict) : Type 0 where
  itself : agrees packet says rule ≡ true
  others : (other : Rule) → agrees packet says other ≡ true → is_some (decision other routes packet) ≡ true
  routed : OfRoutes routes says

says_by : (other : Rule) (action : Action) (routes : List Route) (packet : Packet) (v : Verdict) → matches other packet ≡ true → other.action ≡ action → verdict_by action other.suppress other.priority routes packet ≡ Some v → is_some (decision other routes packet) ≡ true
says_by other action routes packet v takes acts says =
    ap is_some
    (ap (λ b. cond b (verdict_by other.action other.suppress other.priority routes packet) None) takes
    ∙ ap (λ (a : Action). verdict_by a other.suppress other.priority routes packet) acts
    ∙ says)

-- a rule that looks up a table
by_lookup : (rule : Rule) (table : ℕ) (routes : List Route) (packet : Packet) (says : Verdict) → matches rule packet ≡ true → rule.action ≡ Lookup table → verdict_by (Lookup table) rule.suppress rule.priority routes packet ≡ Some says → Agree rule routes packet says
by_lookup rule table routes packet says takes acts is =
    let given = mapped (λ (route : Route). verdict.Route rule.priority route) (keep (λ (route : Route). not (suppresses rule.suppress route)) (table_lookup table routes packet)) says is in
    let route : Route = given.0 in
    let let_through = kept (λ (route : Route). not (suppresses rule.suppress route)) (table_lookup table routes packet) route given.1 in
    let one : IsIn route routes × (route.table ≡ table) = looked table routes packet route let_through.0 in
    subst (Agree rule routes packet) given.2 (lookup_agrees rule table routes packet route takes acts let_through.0 let_through.1 one.0 one.1)
  where
    lookup_agrees : (rule : Rule) (table : ℕ) (routes : List Route) (packet : Packet) (route : Route) → matches rule packet ≡ true → rule.action ≡ Lookup table → table_lookup table routes packet ≡ Some route → not (suppresses rule.suppress route) ≡ true → IsIn route routes → route.table ≡ table → Agree rule routes packet (verdict.Route rule.priority route)
    lookup_agrees rule table routes packet route takes acts looks passes among of_table = record {
      itself =
          let same : is_same_action rule.action (Lookup route.table) ≡ true = ap (λ (a : Action). is_same_action a (Lookup route.table)) (acts ∙ ap Lookup (sym of_table)) ∙ action_itself (Lookup route.table) in
          ap (λ b. b && matches rule packet && is_same_action rule.action (Lookup route.table) && not (suppresses rule.suppress route)) (eq-eqb rule.priority rule.priority refl)
          ∙ ap (λ b. true && b && is_same_action rule.action (Lookup route.table) && not (suppresses rule.suppress route)) takes
          ∙ ap (λ b. true && true && b && not (suppresses rule.suppress route)) same
          ∙ passes;
      others = λ other agree.
          let last = both_true (eqb other.priority rule.priority && matches other packet && is_same_action other.action (Lookup route.table)) (not (suppresses other.suppress route)) agree in
          let acting = both_true (eqb other.priority rule.priority && matches other packet) (is_same_action other.action (Lookup route.table)) last.0 in
          let taking = both_true (eqb other.priority rule.priority) (matches other packet) acting.0 in
          says_by other (Lookup table) routes packet (verdict.Route other.priority route) taking.1 (action_from other.action (Lookup route.table) acting.1 ∙ ap Lookup of_table)
          (ap (λ (o : Option Route). option_map (λ route. verdict.Route other.priority route) (keep (λ (route : Route). not (suppresses other.suppress route)) o)) looks
          ∙ ap (λ b. option_map (λ (route : Route). verdict.Route other.priority route) (cond b (Some route) None)) last.1);
      routed = among;
    }

-- a rule whose action is itself what it says
by_action : (rule : Rule) (action : Action) (routes : List Route) (packet : Packet) (says : Verdict) → ((suppress : Option ℕ) (priority : ℕ) → verdict_by action suppress priority routes packet ≡ Some (verdict.RuleSays priority action)) → matches rule packet ≡ true → rule.action ≡ action → verdict_by action rule.suppress rule.priority routes packet ≡ Some says → Agree rule routes packet says
by_action rule action routes packet says plain takes acts is =
    let same : verdict.RuleSays rule.priority action ≡ says = let e : Some (verdict.RuleSays rule.priority action) ≡ Some says = sym (plain rule.suppress rule.priority) ∙ is in cc in
    subst (Agree rule routes packet) same (record {
      itself =
          ap (λ b. b && matches rule packet && is_same_action rule.action action) (eq-eqb rule.priority rule.priority refl)
          ∙ ap (λ b. true && b && is_same_action rule.action action) takes
          ∙ ap (λ (a : Action). is_same_action a action) acts
          ∙ action_itself action;
      others = λ other agree.
          let last = both_true (eqb other.priority rule.priority && matches other packet) (is_same_action other.action action) agree in
          let taking = both_true (eqb other.priority rule.priority) (matches other packet) last.0 in
          says_by other action routes packet (verdict.RuleSays other.priority action) taking.1 (action_from other.action action last.1) (plain other.suppress other.priority);
      routed = tt;
    })

by_any : (rule : Rule) (action : Action) (routes : List Route) (packet : Packet) (says : Verdict) → matches rule packet ≡ true → rule.action ≡ action → verdict_by action rule.suppress rule.priority routes packet ≡ Some says → Agree rule routes packet says
by_any rule (Lookup table) routes packet says takes acts is = by_lookup rule table routes packet says takes acts is
by_any rule Blackhole routes packet says takes acts is = by_action rule Blackhole routes packet says (λ suppress priority. refl) takes acts is
by_any rule Unreachable routes packet says takes acts is = by_action rule Unreachable routes packet says (λ suppress priority. refl) takes acts is
by_any rule Prohibit routes packet says takes acts is = by_action rule Prohibit routes packet says (λ suppress priority. refl) takes acts is

if_taken : (rule : Rule) (routes : List Route) (packet : Packet) (says : Verdict) (b : Bool) → matches rule packet ≡ b → cond b (verdict_by rule.action rule.suppress rule.priority routes packet) None ≡ Some says → Agree rule routes packet says
if_taken rule routes packet says true takes is = by_any rule rule.action routes packet says takes refl is
if_taken rule routes packet says false takes is = absurd cc

agree : (rule : Rule) (routes : List Route) (packet : Packet) (says : Verdict) → decision rule routes packet ≡ Some says → Agree rule routes packet says
agree rule routes packet says is = if_taken rule routes packet says (matches rule packet) refl is

-- ---- the first that decides

in_order_by : (q : Rule → Bool) (rule : Rule) (rest : List Rule) (b : Bool) → Each (λ other. is_before other rule ≡ false) (filter q rest) → first_by is_before (filter q rest) ≡ find q rest → first_by is_before (cond b (rule ∷ filter q rest) (filter q rest)) ≡ cond b (Some rule) (find q rest)
in_order_by q rule rest true after others = first_is_head is_before rule (filter q rest) (not_itself is_before rule_order rule) after
in_order_by q rule rest false after others = others

-- of rules in order, the first that passes is the one that no passing one is before
first_in_order : (q : Rule → Bool) (rules : List Rule) → IsRising is_before rules → first_by is_before (filter q rules) ≡ find q rules
first_in_order q [] rises = refl
first_in_order q (rule ∷ rest) rises =
    in_order_by q rule rest (q rule)
    (each_passing (λ other. is_before rule other ≡ true) (λ other. is_before other rule ≡ false) q (λ other first passes. rule_order.one_way rule other first) rest rises.0)
    (first_in_order q rest rises.1)

finds_nothing : (packet : Packet) (rules : List Rule) → None ≡ find (agrees packet verdict.NoRoute) rules
finds_nothing packet [] = refl
finds_nothing packet (rule ∷ rules) = finds_nothing packet rules

abbrev verdict_by_rule : List Route → Packet → Option Rule → Verdict
verdict_by_rule routes packet rule = unwrap_or (option_and_then (λ (rule : Rule). decision rule routes packet) rule) verdict.NoRoute

some_of : {X : Type 0} (o : Option X) → is_some o ≡ true → (x : X) × (o ≡ Some x)
some_of None e = absurd cc
some_of (Some x) e = (x, refl)

decider_by : (rules : List Rule) (routes : List Route) (packet : Packet) (d : Option Rule) → find (λ rule. is_some (decision rule routes packet)) rules ≡ d → d ≡ find (agrees packet (verdict_by_rule routes packet d)) rules
decider_by rules routes packet None is = finds_nothing packet rules
decider_by rules routes packet (Some rule) is =
    let passes = (found (λ rule. is_some (decision rule routes packet)) rules rule is).0 in
    let said = some_of (decision rule routes packet) passes in
    let all : Agree rule routes packet said.0 = agree rule routes packet said.0 said.1 in
    sym (find_narrower (λ rule. is_some (decision rule routes packet)) (agrees packet said.0) rules rule all.others all.itself is)
    ∙ ap (λ (o : Option Verdict). find (agrees packet (unwrap_or o verdict.NoRoute)) rules) (sym said.1)

pub decider_is : (state : State) (packet : Packet) → IsRising is_before state.rules → decider state.rules state.routes packet ≡ find (agrees packet (select state packet)) state.rules
decider_is state packet rises =
    let rules = state.rules in
    let routes = state.routes in
    let first : decider rules routes packet ≡ find (λ rule. is_some (decision rule routes packet)) rules = first_in_order (λ rule. is_some (decision rule routes packet)) rules rises in
    decider_by rules routes packet (decider rules routes packet) (sym first)

-- ---- packets that are taken alike

same_agrees : (packet other : Packet) (says : Verdict) (rule : Rule) → matches rule packet ≡ matches rule other → agrees packet says rule ≡ agrees other says rule
same_agrees packet other (verdict.Route priority route) rule e = ap (λ b. eqb rule.priority priority && b && is_same_action rule.action (Lookup route.table) && not (suppresses rule.suppress route)) e
same_agrees packet other (verdict.RuleSays priority action) rule e = ap (λ b. eqb rule.priority priority && b && is_same_action rule.action action) e
same_agrees packet other verdict.NoRoute rule e = refl

-- one rule decides both
pub same_decider : (state : State) (packet other : Packet) → IsRising is_before state.rules → AreAlike state packet other → decider state.rules state.routes packet ≡ decider state.rules state.routes other
same_decider state packet other rises alike =
    decider_is state packet rises
    ∙ find_same_tests (agrees packet (select state packet)) (agrees other (select state packet)) state.rules
    (each_implies (λ rule. matches rule packet ≡ matches rule other) (λ rule. agrees packet (select state packet) rule ≡ agrees other (select state packet) rule) (λ rule e. same_agrees packet other (select state packet) rule e) state.rules alike.rules)
    ∙ ap (λ (says : Verdict). find (agrees other says) state.rules) (same_select state packet other alike)
    ∙ sym (decider_is state other rises)

-- ---- routes that packets get

routed_by : (rules : List Rule) (routes : List Route) (packet : Packet) (d : Option Rule) → decider rules routes packet ≡ d → OfRoutes routes (verdict_by_rule routes packet d)
routed_by rules routes packet None is = tt
routed_by rules routes packet (Some rule) is = says (decision rule routes packet) refl
  where
    says : (o : Option Verdict) → decision rule routes packet ≡ o → OfRoutes routes (unwrap_or o verdict.NoRoute)
    says None told = tt
    says (Some v) told = (agree rule routes packet v told).routed

-- a route that a packet gets is one of the routes
pub gotten : (state : State) (packet : Packet) (priority : ℕ) (route : Route) → select state packet ≡ verdict.Route priority route → IsIn route state.routes
gotten state packet priority route is = subst (OfRoutes state.routes) is (routed_by state.rules state.routes packet (decider state.rules state.routes packet) refl)
