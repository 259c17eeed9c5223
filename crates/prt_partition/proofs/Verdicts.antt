-- The test of two verdicts decides whether they are equal.
use Rattle.std.proofs.Common.{◌≡◌, ℕ, Bool, true, false, cond, Option, Some, None, refl, sym, ap, ◌∙◌}
use Rattle.std.specs.Prelude.{bytes_eq, is_some}
use Rattle.std.specs.Option.{option_eq}
use Rattle.std.specs.Bool.{Decides}
use Rattle.std.proofs.lemmas.Bool.Decides.{Decides-eqb, Decides-and, Decides-like}
use Rattle.std.proofs.lemmas.Slice.Eq.{bytes_eq-Decides}
use Rattle.prt_addr.specs.Block.{Block}
use Rattle.prt_addr.specs.Prefix.{is_same_prefix}
use Rattle.prt_addr.specs.declared.addr.Addr.{Addr}
use Rattle.prt_route.specs.Route.{is_same_key, key_of}
use Rattle.prt_route.specs.RouteChoice.{is_same_addr, is_same_kind}
use Rattle.prt_route.specs.declared.kind.Kind.{Kind}
use Rattle.prt_route.specs.declared.kind.Kind.TheVariants.{Unicast, Blackhole, Unreachable, Prohibit, Throw}
use Rattle.prt_route.specs.declared.route.Route.{Route}
use Rattle.prt_rule.specs.Same.{is_same_action}
use Rattle.prt_rule.specs.declared.rule.Action.{Action}
use Rattle.prt_rule.specs.declared.rule.Action.TheVariants as action
use Rattle.prt_rule.specs.declared.packet.Packet.{Packet}
use Rattle.prt_version.specs.Select.{select}
use Rattle.prt_version.specs.State.{State}
use Rattle.prt_version.specs.declared.answer.Verdict.{Verdict}
use Rattle.prt_version.specs.declared.answer.Verdict.TheVariants as verdict
use Rattle.prt_partition.specs.Sameness.{AreSame, are_same, is_same_outcome, is_same_route, is_same_verdict, outcome_of}
use Rattle.prt_partition.specs.Touching.{transition_of}
use Rattle.prt_partition.specs.declared.sameness.Outcome.{Outcome}
use Rattle.prt_partition.specs.declared.comparison.Transition.{Transition}
use Rattle.prt_partition.specs.declared.sameness.Sameness.{Sameness}
use Rattle.prt_partition.specs.declared.sameness.Sameness.TheVariants.{Outcomes, Verdicts}

abbrev block_by : ℕ → ℕ → Block
block_by bits len = record { bits = bits; len = len }

prefixes : (a b : Block) → Decides (is_same_prefix a b) (a ≡ b)
prefixes a b = Decides-like (is_same_prefix a b) (λ h. ap (λ n. block_by n a.len) h.0 ∙ ap (block_by b.bits) h.1) (λ e. (ap (λ x. x.bits) e, ap (λ x. x.len) e)) (Decides-and _ _ (Decides-eqb a.bits b.bits) (Decides-eqb a.len b.len))

options : {X : Type 0} (test : X → X → Bool) → ((x y : X) → Decides (test x y) (x ≡ y)) → (a b : Option X) → Decides (option_eq test a b) (a ≡ b)
options test tells None None = (λ _. refl, λ _. refl)
options test tells None (Some y) = (λ e. absurd cc, λ e. absurd cc)
options test tells (Some x) None = (λ e. absurd cc, λ e. absurd cc)
options test tells (Some x) (Some y) = Decides-like (test x y) (λ e. ap Some e) (λ e. cc) (tells x y)

abbrev addr_by : ℕ → Addr
addr_by bits = record { 0 = bits }

addresses : (a b : Addr) → Decides (is_same_addr a b) (a ≡ b)
addresses a b = Decides-like (is_same_addr a b) (λ h. ap addr_by h) (λ e. ap (λ x. x.0) e) (Decides-eqb a.0 b.0)

kinds : (a b : Kind) → Decides (is_same_kind a b) (a ≡ b)
kinds Unicast Unicast = (λ _. refl, λ _. refl)
kinds Blackhole Blackhole = (λ _. refl, λ _. refl)
kinds Unreachable Unreachable = (λ _. refl, λ _. refl)
kinds Prohibit Prohibit = (λ _. refl, λ _. refl)
kinds Throw Throw = (λ _. refl, λ _. refl)
kinds _ _ = (λ e. absurd cc, λ e. absurd cc)

keys : (a b : Route) → Decides (is_same_key (key_of a) (key_of b)) (((a.table ≡ b.table) × (a.prefix ≡ b.prefix)) × (a.metric ≡ b.metric))
keys a b = Decides-and _ _ (Decides-and _ _ (Decides-eqb a.table b.table) (prefixes a.prefix b.prefix)) (Decides-eqb a.metric b.metric)

abbrev route_by_parts : Route → Route
route_by_parts b = record { table = b.table; prefix = b.prefix; metric = b.metric; kind = b.kind; via = b.via; dev = b.dev; src = b.src; proto = b.proto; scope = b.scope }

equal : (a b : Route) → a.table ≡ b.table → a.prefix ≡ b.prefix → a.metric ≡ b.metric → a.kind ≡ b.kind → a.via ≡ b.via → a.dev ≡ b.dev → a.src ≡ b.src → a.proto ≡ b.proto → a.scope ≡ b.scope → a ≡ b
equal a b table prefix metric kind via dev src proto scope = let e : route_by_parts a ≡ route_by_parts b = cc in e

pub routes_same : (a b : Route) → Decides (is_same_route a b) (a ≡ b)
routes_same a b =
    Decides-like (is_same_route a b)
    (λ h. equal a b h.0.0.0.0.0.0.0.0 h.0.0.0.0.0.0.0.1 h.0.0.0.0.0.0.1 h.0.0.0.0.0.1 h.0.0.0.0.1 h.0.0.0.1 h.0.0.1 h.0.1 h.1)
    (λ e. ((((((((ap (λ x. x.table) e, ap (λ x. x.prefix) e), ap (λ x. x.metric) e), ap (λ x. x.kind) e), ap (λ x. x.via) e), ap (λ x. x.dev) e), ap (λ x. x.src) e), ap (λ x. x.proto) e), ap (λ x. x.scope) e))
    (Decides-and _ _
    (Decides-and _ _
    (Decides-and _ _ (Decides-and _ _ (Decides-and _ _ (Decides-and _ _ (keys a b) (kinds a.kind b.kind)) (options is_same_addr addresses a.via b.via)) (options bytes_eq bytes_eq-Decides a.dev b.dev)) (options is_same_addr addresses a.src b.src))
    (Decides-eqb a.proto b.proto))
    (Decides-eqb a.scope b.scope))

actions : (a b : Action) → Decides (is_same_action a b) (a ≡ b)
actions (action.Lookup a) (action.Lookup b) = Decides-like (is_same_action (action.Lookup a) (action.Lookup b)) (λ e. ap action.Lookup e) (λ e. cc) (Decides-eqb a b)
actions action.Blackhole action.Blackhole = (λ _. refl, λ _. refl)
actions action.Unreachable action.Unreachable = (λ _. refl, λ _. refl)
actions action.Prohibit action.Prohibit = (λ _. refl, λ _. refl)
actions _ _ = (λ e. absurd cc, λ e. absurd cc)

pub verdicts_same : (a b : Verdict) → Decides (is_same_verdict a b) (a ≡ b)
verdicts_same (verdict.Route m a) (verdict.Route n b) = Decides-like (is_same_verdict (verdict.Route m a) (verdict.Route n b)) (λ h. ap (λ k. verdict.Route k a) h.0 ∙ ap (verdict.Route n) h.1) (λ e. (cc, cc)) (Decides-and _ _ (Decides-eqb m n) (routes_same a b))
verdicts_same (verdict.RuleSays m a) (verdict.RuleSays n b) = Decides-like (is_same_verdict (verdict.RuleSays m a) (verdict.RuleSays n b)) (λ h. ap (λ k. verdict.RuleSays k a) h.0 ∙ ap (verdict.RuleSays n) h.1) (λ e. (cc, cc)) (Decides-and _ _ (Decides-eqb m n) (actions a b))
verdicts_same verdict.NoRoute verdict.NoRoute = (λ _. refl, λ _. refl)
verdicts_same _ _ = (λ e. absurd cc, λ e. absurd cc)

abbrev outcome_by_parts : Outcome → Outcome
outcome_by_parts b = record { kind = b.kind; via = b.via; dev = b.dev; src = b.src }

equal_outcomes : (a b : Outcome) → a.kind ≡ b.kind → a.via ≡ b.via → a.dev ≡ b.dev → a.src ≡ b.src → a ≡ b
equal_outcomes a b kind via dev src = let e : outcome_by_parts a ≡ outcome_by_parts b = cc in e

outcomes_same : (a b : Outcome) → Decides (is_same_outcome a b) (a ≡ b)
outcomes_same a b =
    Decides-like (is_same_outcome a b) (λ h. equal_outcomes a b h.0.0.0 h.0.0.1 h.0.1 h.1) (λ e. (((ap (λ x. x.kind) e, ap (λ x. x.via) e), ap (λ x. x.dev) e), ap (λ x. x.src) e))
    (Decides-and _ _
    (Decides-and _ _ (Decides-and _ _ (options is_same_kind kinds a.kind b.kind) (options is_same_addr addresses a.via b.via)) (options bytes_eq bytes_eq-Decides a.dev b.dev))
    (options is_same_addr addresses a.src b.src))

-- the test decides whether verdicts count as the same
pub all_same : (sameness : Sameness) (a b : Verdict) → Decides (are_same sameness a b) (AreSame sameness a b)
all_same Outcomes a b = outcomes_same (outcome_of a) (outcome_of b)
all_same Verdicts a b = verdicts_same a b

pub equal_are_same : (sameness : Sameness) (a b : Verdict) → a ≡ b → AreSame sameness a b
equal_are_same Outcomes a b e = ap outcome_of e
equal_are_same Verdicts a b e = e

-- equal verdicts count as the same
pub same_itself : (sameness : Sameness) (a b : Verdict) → a ≡ b → are_same sameness a b ≡ true
same_itself sameness a b e = (all_same sameness a b).1 (equal_are_same sameness a b e)

abbrev made : Bool → Verdict → Verdict → Option Transition
made b v w = cond b None (Some (record { was = v; is = w }))

-- a packet with a transition has verdicts that are not the same
pub some_transition : (sameness : Sameness) (before after : State) (packet : Packet) → is_some (transition_of sameness before after packet) ≡ true → ¬ AreSame sameness (select before packet) (select after packet)
some_transition sameness before after packet some alike =
    let same : are_same sameness (select before packet) (select after packet) ≡ true = (all_same sameness (select before packet) (select after packet)).1 alike in
    let f : false ≡ true = ap (λ t. is_some (made t (select before packet) (select after packet))) (sym same) ∙ some in
    cc

-- a packet with equal verdicts makes no transition
pub no_transition : (sameness : Sameness) (before after : State) (packet : Packet) → select before packet ≡ select after packet → transition_of sameness before after packet ≡ None
no_transition sameness before after packet e =
    ap (λ t. made t (select before packet) (select after packet)) (same_itself sameness (select before packet) (select after packet) e)
