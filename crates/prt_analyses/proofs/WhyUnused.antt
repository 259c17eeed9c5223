-- What is told of unused rules and routes is so.
use Rattle.std.proofs.Common.{◌≡◌, ◌≢◌, ℕ, ◌+◌, ◌<◌, Bool, true, false, ◌||◌, List, [], ◌∷◌, ◌++◌, Option, Some, None, length, get_or, take, inl, inr, refl, sym, ap, ◌∙◌, subst}
use Rattle.std.specs.Prelude.{map}
use Rattle.std.specs.List.{Contains, list_any, AllByRecursion as Each}
use Rattle.std.proofs.lemmas.List.{take_more}
use Rattle.std.proofs.lemmas.List.Elements.{Contains-get_or}
use Rattle.prt_addr.specs.Prefix.{contains}
use Rattle.prt_addr.proofs.Each.{each_append, each_fails, each_implies}
use Rattle.prt_route.specs.declared.route.Route.{Route}
use Rattle.prt_rule.specs.Rule.{matches}
use Rattle.prt_rule.specs.declared.packet.Packet.{Packet}
use Rattle.prt_rule.specs.Same.{is_same_action}
use Rattle.prt_rule.specs.declared.rule.Action.{Action}
use Rattle.prt_rule.specs.declared.rule.Action.TheVariants.{Lookup}
use Rattle.prt_rule.specs.declared.rule.Rule.{Rule}
use Rattle.prt_version.specs.State.{State}
use Rattle.prt_partition.proofs.Starts.{IsIn, contains_in, each_in, in_contains}
use Rattle.prt_analyses.specs.Unused.Steps.{AreSamples, is_lookup_of, matched_packet, named_packet, rule_reason_by, unused_rule}
use Rattle.prt_analyses.specs.Unused.{IsLookup, IsReached, IsRuleReason, MatchesNone, rules_of}
use Rattle.prt_analyses.specs.declared.unused.report.UnusedRule.{UnusedRule}
use Rattle.prt_analyses.proofs.Deciders.{action_from, action_itself}
use Rattle.prt_analyses.proofs.Finds.{found, none_found}

-- ---- rules

rule_reason_by_found : (state : State) (samples : List Packet) (rule : Rule) (o : Option Packet) → AreSamples state samples → Contains state.rules rule → matched_packet samples rule ≡ o → IsRuleReason state rule (rule_reason_by state o)
rule_reason_by_found state samples rule (Some packet) are held is = ((found (matches rule) (named_packet rule rule.to.bits ∷ samples) packet is).0, refl)
rule_reason_by_found state samples rule None are held is = λ packet one.
    let fails : Each (λ packet. matches rule packet ≡ false) (named_packet rule rule.to.bits ∷ samples) = none_found (matches rule) (named_packet rule rule.to.bits ∷ samples) is in
    let sample = are packet one in
    each_in (λ r. matches r packet ≡ matches r sample.0) rule state.rules sample.2.rules (contains_in rule state.rules held)
    ∙ each_in (λ packet. matches rule packet ≡ false) sample.0 samples fails.1 (contains_in sample.0 samples sample.1)

pub rule_reasons : (state : State) (samples : List Packet) (rules : List Rule) → AreSamples state samples → Each (Contains state.rules) rules → Each (λ (one : UnusedRule). IsRuleReason state one.rule one.reason) (map (unused_rule state samples) rules)
rule_reasons state samples [] are held = tt
rule_reasons state samples (rule ∷ rules) are held = (rule_reason_by_found state samples rule (matched_packet samples rule) are held.0 refl, rule_reasons state samples rules are held.1)

pub rules_same : (state : State) (samples : List Packet) (rules : List Rule) → rules_of (map (unused_rule state samples) rules) ≡ rules
rules_same state samples [] = refl
rules_same state samples (rule ∷ rules) = ap (λ others. rule ∷ others) (rules_same state samples rules)

-- ---- routes

no_lookup : (table : ℕ) (rule : Rule) → is_lookup_of table rule ≡ false → rule.action ≢ Lookup table
no_lookup table rule fails is = let e : false ≡ true = sym fails ∙ ap (λ (action : Action). is_same_action action (Lookup table)) is ∙ action_itself (Lookup table) in absurd cc

pub no_rule : (rules : List Rule) (table : ℕ) → list_any (is_lookup_of table) rules ≡ false → Each (λ (rule : Rule). rule.action ≢ Lookup table) rules
no_rule rules table none =
    each_implies (λ rule. is_lookup_of table rule ≡ false) (λ (rule : Rule). rule.action ≢ Lookup table) (λ rule fails. no_lookup table rule fails) rules
    (each_fails (is_lookup_of table) rules none)

passed_by : {X : Type 0} (p : X → Bool) (y : X) (ys : List X) (b : Bool) → p y ≡ b → (list_any p ys ≡ true → (x : X) × IsIn x ys × (p x ≡ true)) → (b || list_any p ys) ≡ true → (x : X) × IsIn x (y ∷ ys) × (p x ≡ true)
passed_by p y ys true passes later any = (y, inl refl, passes)
passed_by p y ys false fails later any = let one = later any in (one.0, inr one.1, one.2)

passing : {X : Type 0} (p : X → Bool) (xs : List X) → list_any p xs ≡ true → (x : X) × IsIn x xs × (p x ≡ true)
passing p [] any = absurd cc
passing p (y ∷ ys) any = passed_by p y ys (p y) refl (passing p ys) any

pub a_rule : (rules : List Rule) (table : ℕ) → list_any (is_lookup_of table) rules ≡ true → (rule : Rule) × IsLookup rules table rule
a_rule rules table any =
    let one = passing (is_lookup_of table) rules any in
    (one.0, (in_contains one.0 rules one.1, action_from one.0.action (Lookup table) one.2))

-- it matches no packet to the prefix of the route, if it looks up its table
abbrev pub Misses : Route → Rule → Type 0
Misses route rule = rule.action ≡ Lookup route.table → MatchesNone route.prefix rule

-- ---- one more rule

pub one_more : (route : Route) (rules : List Rule) (rule : Rule) (i : ℕ) → i < length rules → rule ≡ get_or rules i rule → Each (Misses route) (take i rules) → Misses route rule → Each (Misses route) (take (i + 1) rules)
one_more route rules rule i inside is before here =
    subst (Each (Misses route)) (sym (take_more rules i rule inside ∙ ap (λ r. take i rules ++ r ∷ []) (sym is)))
    (each_append (Misses route) (take i rules) (rule ∷ []) before (here, tt))

pub misses_other : (route : Route) (rule : Rule) → is_lookup_of route.table rule ≡ false → Misses route rule
misses_other route rule fails is = absurd (no_lookup route.table rule fails is)

pub is_reached : (route : Route) (rules : List Rule) (rule : Rule) (packet : Packet) (i : ℕ) → i < length rules → rule ≡ get_or rules i rule → is_lookup_of route.table rule ≡ true → (contains route.prefix packet.dst ≡ true) × (matches rule packet ≡ true) → IsReached rules route packet
is_reached route rules rule packet i inside is looks hit =
    ((rule, (subst (Contains rules) (sym is) (Contains-get_or rules i rule inside), action_from rule.action (Lookup route.table) looks), hit.1), hit.0)
