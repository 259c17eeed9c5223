-- Packets that no differing rule matches and no differing route has go the same way.
use Rattle.std.proofs.Common.{◌≡◌, ◌⊎◌, inl, inr, ℕ, ◌^◌, ◌<◌, ◌≤◌, Bool, true, false, not, ◌&&◌, ◌||◌, cond, List, [], ◌∷◌, ◌++◌, Option, Some, None, refl, sym, ap, ◌∙◌, arith, ⊎_elim}
use Rattle.std.specs.Prelude.{filter, flat_map, map}
use Rattle.std.specs.List.{list_any, AllByRecursion as Each}
use Rattle.std.proofs.lemmas.Bool.{cases_Bool, cases_lt}
use Rattle.prt_addr.specs.Block.{Block}
use Rattle.prt_addr.specs.Prefix.{contains, everything}
use Rattle.prt_addr.specs.declared.addr.Addr.{Addr}
use Rattle.prt_addr.proofs.Each.{each_implies}
use Rattle.prt_route.specs.declared.route.Route.{Route}
use Rattle.prt_rule.specs.Rule.{matches, takes_interface, takes_mark}
use Rattle.prt_rule.specs.Same.{is_same_rule}
use Rattle.prt_rule.specs.Sound.{IsInOrder}
use Rattle.prt_rule.specs.declared.packet.Packet.{Packet}
use Rattle.prt_rule.specs.declared.rule.Rule.{Rule}
use Rattle.prt_rule.proofs.SameRules.{rules_same}
use Rattle.prt_version.specs.Select.{select}
use Rattle.prt_version.specs.State.{State}
use Rattle.prt_version.specs.declared.answer.Verdict.{Verdict}
use Rattle.prt_partition.specs.Classes.{takes_apart}
use Rattle.prt_partition.specs.Cuts.{HasNoCut, cuts_of, to}
use Rattle.prt_partition.specs.Differing.{Confine, HoldRouteChanges, HoldRuleChanges, IsUntouched, cuts_within, has_any, holding, near_cuts, reach_of, route_cuts_within, rule_cuts_within, without_id}
use Rattle.prt_partition.specs.Sameness.{are_same, is_same_route}
use Rattle.prt_partition.specs.Touching.{IsTouching, can_match, transition_of}
use Rattle.prt_partition.specs.declared.sameness.Sameness.{Sameness}
use Rattle.prt_partition.specs.declared.touching.Touching.{Touching}
use Rattle.prt_partition.specs.declared.comparison.Transition.{Transition}
use Rattle.prt_partition.proofs.Between.{each_left, each_of_each, each_right, from_cuts, same_between, same_contains, within_cuts}
use Rattle.prt_partition.proofs.Joined.{reorder}
use Rattle.prt_partition.proofs.Locality.{same_but_ids}
use Rattle.prt_partition.proofs.Merging.{Hold, neither, none_of_both}
use Rattle.prt_partition.proofs.Starts.{IsIn, any_found, each_in}
use Rattle.prt_partition.proofs.Verdicts.{no_transition, routes_same}

-- ---- what is compared

abbrev pub rule_test : Packet → Rule → Bool
rule_test packet rule = matches rule packet

abbrev pub route_test : Addr → Route → Bool
route_test addr route = contains route.prefix addr

abbrev pub itself : Route → Route
itself route = route

-- rules that are equal in all but their ids match the same packets
pub same_rule : (a b : Rule) → is_same_rule a b ≡ true → without_id a ≡ without_id b
same_rule a b h = ap without_id ((rules_same a b).0 h)

pub match_same : (a b : Rule) → is_same_rule a b ≡ true → (packet : Packet) → rule_test packet a ≡ rule_test packet b
match_same a b h packet = ap (λ (rule : Rule). matches rule packet) (same_rule a b h)

pub same_route : (a b : Route) → is_same_route a b ≡ true → a ≡ b
same_route a b h = (routes_same a b).0 h

pub holds_same : (a b : Route) → is_same_route a b ≡ true → (addr : Addr) → route_test addr a ≡ route_test addr b
holds_same a b h addr = ap (route_test addr) (same_route a b h)

map_itself : (routes : List Route) → map itself routes ≡ routes
map_itself [] = refl
map_itself (route ∷ routes) = ap (λ others. route ∷ others) (map_itself routes)

pub hold_routes : (before after apart : List Route) → Hold route_test itself before after apart → HoldRouteChanges before after apart
hold_routes before after apart held addr none = sym (map_itself (holding addr before)) ∙ held addr none ∙ map_itself (holding addr after)

pub quiet : (before after : State) (rules : List Rule) (routes : List Route) → IsInOrder before.rules → IsInOrder after.rules →
    HoldRuleChanges before.rules after.rules rules → HoldRouteChanges before.routes after.routes routes →
    (packet : Packet) → IsUntouched rules routes packet → select before packet ≡ select after packet
quiet before after rules routes order order_after same_rules same_routes packet untouched =
    same_but_ids before after packet order order_after (same_rules packet untouched.rules) (same_routes packet.dst untouched.routes)

-- ---- where it can be met

never : (a b c d : Bool) → b ≡ false → (a && b && c && d) ≡ false
never true true c d h = absurd cc
never true false c d h = refl
never false b c d h = refl

no_match_by : (rule : Rule) (packet : Packet) (b : Bool) → rule.inverted ≡ b → packet.dst.0 < 2 ^ 32 → contains (cond b everything rule.to) packet.dst ≡ false →
    cond b (not (contains rule.from packet.src && contains rule.to packet.dst && takes_interface rule.iif packet.iif && takes_mark rule.mark packet.mark)) (contains rule.from packet.src && contains rule.to packet.dst && takes_interface rule.iif packet.iif && takes_mark rule.mark packet.mark) ≡ false
no_match_by rule packet true e fits out = let inside : contains everything packet.dst ≡ true = from_cuts everything packet.dst.0 (omega arith) (omega arith) in let f : true ≡ false = sym inside ∙ out in absurd cc
no_match_by rule packet false e fits out = never (contains rule.from packet.src) (contains rule.to packet.dst) (takes_interface rule.iif packet.iif) (takes_mark rule.mark packet.mark) out

no_match : (rule : Rule) (packet : Packet) → packet.dst.0 < 2 ^ 32 → contains (reach_of rule) packet.dst ≡ false → matches rule packet ≡ false
no_match rule packet fits out = no_match_by rule packet rule.inverted refl fits out

no_rule : (rules : List Rule) (packet : Packet) → packet.dst.0 < 2 ^ 32 → has_any (map reach_of rules) packet.dst.0 ≡ false → list_any (rule_test packet) rules ≡ false
no_rule [] packet fits out = refl
no_rule (rule ∷ rules) packet fits out =
    let parts : (contains (reach_of rule) packet.dst ≡ false) × (has_any (map reach_of rules) packet.dst.0 ≡ false) = neither (contains (reach_of rule) packet.dst) (has_any (map reach_of rules) packet.dst.0) out in
    ap (λ b. b || list_any (rule_test packet) rules) (no_match rule packet fits parts.0) ∙ no_rule rules packet fits parts.1

no_route : (routes : List Route) (addr : Addr) → has_any (map (λ (route : Route). route.prefix) routes) addr.0 ≡ false → list_any (route_test addr) routes ≡ false
no_route [] addr out = refl
no_route (route ∷ routes) addr out =
    let parts : (contains route.prefix addr ≡ false) × (has_any (map (λ (route : Route). route.prefix) routes) addr.0 ≡ false) = neither (contains route.prefix addr) (has_any (map (λ (route : Route). route.prefix) routes) addr.0) out in
    ap (λ b. b || list_any (route_test addr) routes) parts.0 ∙ no_route routes addr parts.1

pub confine_few : (blocks : List Block) (rules : List Rule) (routes : List Route) → blocks ≡ map reach_of rules ++ map (λ (route : Route). route.prefix) routes → Confine blocks rules routes
confine_few blocks rules routes are packet fits out =
    let there : Block → Bool = λ block. contains block packet.dst in
    let parts : (list_any there (map reach_of rules) ≡ false) × (list_any there (map (λ (route : Route). route.prefix) routes) ≡ false) =
    none_of_both there (map reach_of rules) (map (λ (route : Route). route.prefix) routes) (ap (list_any there) (sym are) ∙ out) in
    record { rules = no_rule rules packet fits parts.0; routes = no_route routes packet.dst parts.1 }

pub confine_all : (blocks : List Block) (rules : List Rule) (routes : List Route) → blocks ≡ everything ∷ [] → Confine blocks rules routes
confine_all blocks rules routes are packet fits out =
    let there : Block → Bool = λ block. contains block packet.dst in
    let outside : contains everything packet.dst ≡ false = (neither (contains everything packet.dst) false (ap (list_any there) (sym are) ∙ out)).0 in
    let inside : contains everything packet.dst ≡ true = from_cuts everything packet.dst.0 (omega arith) (omega arith) in
    let f : true ≡ false = sym inside ∙ outside in
    absurd cc

-- ---- what can touch packets that differ in their destinations alone

and_false : (a b : Bool) → b ≡ false → (a && b) ≡ false
and_false true b h = h
and_false false b h = refl

pub not_candidate : (rule : Rule) (packet : Packet) (addr : ℕ) → can_match packet rule ≡ false → matches rule (to packet addr) ≡ false
not_candidate rule packet addr out =
    let there : Bool = contains rule.to (record { 0 = addr }) in
    let parts : (rule.inverted ≡ false) × (takes_apart rule packet ≡ false) = neither rule.inverted (takes_apart rule packet) out in
    let from : Bool = contains rule.from packet.src in
    let iif : Bool = takes_interface rule.iif packet.iif in
    let mark : Bool = takes_mark rule.mark packet.mark in
    ap (λ b. cond b (not (from && there && iif && mark)) (from && there && iif && mark)) parts.0
    ∙ reorder from there iif mark
    ∙ and_false there (takes_apart rule packet) parts.1

all_candidates_by : (packet : Packet) (addr : ℕ) (rule : Rule) (rules : List Rule) (b : Bool) → can_match packet rule ≡ b → list_any (rule_test (to packet addr)) (cond b (rule ∷ filter (can_match packet) rules) (filter (can_match packet) rules)) ≡ false →
    (matches rule (to packet addr) ≡ false) × (list_any (rule_test (to packet addr)) (filter (can_match packet) rules) ≡ false)
all_candidates_by packet addr rule rules true e none = neither (matches rule (to packet addr)) (list_any (rule_test (to packet addr)) (filter (can_match packet) rules)) none
all_candidates_by packet addr rule rules false e none = (not_candidate rule packet addr e, none)

all_candidates : (packet : Packet) (addr : ℕ) (rules : List Rule) → list_any (rule_test (to packet addr)) (filter (can_match packet) rules) ≡ false → list_any (rule_test (to packet addr)) rules ≡ false
all_candidates packet addr [] none = refl
all_candidates packet addr (rule ∷ rules) none =
    let parts : (matches rule (to packet addr) ≡ false) × (list_any (rule_test (to packet addr)) (filter (can_match packet) rules) ≡ false) = all_candidates_by packet addr rule rules (can_match packet rule) refl none in
    ap (λ b. b || list_any (rule_test (to packet addr)) rules) parts.0 ∙ all_candidates packet addr rules parts.1

pub touching_few : (rules : List Rule) (routes : List Route) (packet : Packet) (touching : Touching) → touching.rules.items ≡ filter (can_match packet) rules → touching.routes.items ≡ routes → IsTouching rules routes packet touching
touching_few rules routes packet touching are of addr out =
    let by_rules : Bool = list_any (rule_test (to packet addr)) touching.rules.items in
    let by_routes : Bool = list_any (route_test (record { 0 = addr })) touching.routes.items in
    let outer : ((touching.all || by_rules) ≡ false) × (by_routes ≡ false) = neither (touching.all || by_rules) by_routes out in
    let inner : (touching.all ≡ false) × (by_rules ≡ false) = neither touching.all by_rules outer.0 in
    record {
      rules = all_candidates packet addr rules (ap (list_any (rule_test (to packet addr))) (sym are) ∙ inner.1);
      routes = ap (list_any (route_test (record { 0 = addr }))) (sym of) ∙ outer.1;
    }

-- ---- between two starts

same_any : (blocks : List Block) (a b : ℕ) → a ≤ b → b < 2 ^ 32 → HasNoCut (flat_map cuts_of blocks) a b → has_any blocks a ≡ has_any blocks b
same_any [] a b le fits none = refl
same_any (block ∷ blocks) a b le fits none =
    let uncut : ℕ → Type 0 = λ cut. (cut ≤ a) ⊎ (b < cut) in
    ap (λ t. t || has_any blocks a) (same_contains block a b le fits (each_left uncut (cuts_of block) (flat_map cuts_of blocks) none))
    ∙ ap (λ t. contains block (record { 0 = b }) || t) (same_any blocks a b le fits (each_right uncut (cuts_of block) (flat_map cuts_of blocks) none))

any_in : (p : Block → Bool) (block : Block) (blocks : List Block) → IsIn block blocks → p block ≡ true → list_any p blocks ≡ true
any_in p block [] h e = absurd h
any_in p block (b ∷ bs) (inl is) e = let t : p b ≡ true = ap p (sym is) ∙ e in rw t refl
any_in p block (b ∷ bs) (inr h) e = any_right (p b) (list_any p bs) (any_in p block bs h e)
  where
    any_right : (a b : Bool) → b ≡ true → (a || b) ≡ true
    any_right true b h = refl
    any_right false b h = h

-- all addresses between two of a block are in it
between_in : (block : Block) (a b n : ℕ) → contains block (record { 0 = a }) ≡ true → contains block (record { 0 = b }) ≡ true → a ≤ n → n ≤ b → contains block (record { 0 = n }) ≡ true
between_in block a b n h k low high =
    let from_a = within_cuts block a h in
    let to_b = within_cuts block b k in
    from_cuts block n (omega (arith, from_a.0)) (omega (arith, to_b.1))

module _ (blocks : List Block) (a b : ℕ) (near : (n : ℕ) → a ≤ n → n ≤ b → has_any blocks n ≡ true) where
  uncut_by : (cut : ℕ) (t : Bool) → has_any blocks cut ≡ t → (t ≡ true → (cut ≤ a) ⊎ (b < cut)) → (cut ≤ a) ⊎ (b < cut)
  uncut_by cut true e gives = gives refl
  uncut_by cut false e gives =
      ⊎_elim
      (λ (lt : a < cut).
      ⊎_elim
      (λ (past : b < cut). inr past)
      (λ (le : cut ≤ b). let f : false ≡ true = sym e ∙ near cut (omega arith) le in absurd cc)
      (cases_lt b cut))
      (λ (le : cut ≤ a). inl le)
      (cases_lt a cut)

  head_of : (cut : ℕ) (cuts : List ℕ) (t : Bool) → HasNoCut (cond t (cut ∷ cuts) cuts) a b → t ≡ true → (cut ≤ a) ⊎ (b < cut)
  head_of cut cuts true none e = none.0
  head_of cut cuts false none e = absurd cc

  tail_of : (cut : ℕ) (cuts : List ℕ) (t : Bool) → HasNoCut (cond t (cut ∷ cuts) cuts) a b → HasNoCut cuts a b
  tail_of cut cuts true none = none.1
  tail_of cut cuts false none = none

  unfiltered : (cuts : List ℕ) → HasNoCut (filter (has_any blocks) cuts) a b → HasNoCut cuts a b
  unfiltered [] none = tt
  unfiltered (cut ∷ cuts) none = (
    uncut_by cut (has_any blocks cut) refl (head_of cut (filter (has_any blocks) cuts) (has_any blocks cut) none),
    unfiltered cuts (tail_of cut (filter (has_any blocks) cuts) (has_any blocks cut) none),
  )

  rules_uncut : (rules : List Rule) → HasNoCut (rule_cuts_within blocks rules) a b → Each (λ (rule : Rule). HasNoCut (cuts_of rule.to) a b) rules
  rules_uncut rules none =
      each_implies (λ (rule : Rule). HasNoCut (cuts_within blocks rule.to) a b) (λ (rule : Rule). HasNoCut (cuts_of rule.to) a b) (λ rule h. unfiltered (cuts_of rule.to) h) rules
      (each_of_each (λ cut. (cut ≤ a) ⊎ (b < cut)) (λ (rule : Rule). cuts_within blocks rule.to) rules none)

  routes_uncut : (routes : List Route) → HasNoCut (route_cuts_within blocks routes) a b → Each (λ (route : Route). HasNoCut (cuts_of route.prefix) a b) routes
  routes_uncut routes none =
      each_implies (λ (route : Route). HasNoCut (cuts_within blocks route.prefix) a b) (λ (route : Route). HasNoCut (cuts_of route.prefix) a b) (λ route h. unfiltered (cuts_of route.prefix) h) routes
      (each_of_each (λ cut. (cut ≤ a) ⊎ (b < cut)) (λ (route : Route). cuts_within blocks route.prefix) routes none)

module _ (sameness : Sameness) (before after : State) (packet : Packet) where
  abbrev at : ℕ → Option Transition
  at n = transition_of sameness before after (to packet n)

  abbrev of : Verdict → Verdict → Option Transition
  of v w = cond (are_same sameness v w) None (Some (record { was = v; is = w }))

  quiet_at : (n : ℕ) → select before (to packet n) ≡ select after (to packet n) → at n ≡ None
  quiet_at n e = no_transition sameness before after (to packet n) e

  both_at : (m n : ℕ) → select before (to packet m) ≡ select before (to packet n) → select after (to packet m) ≡ select after (to packet n) → at m ≡ at n
  both_at m n e f = ap (λ v. of v (select after (to packet m))) e ∙ ap (λ w. of (select before (to packet n)) w) f

  module _ (blocks : List Block) (rules : List Rule) (routes : List Route)
      (same : (packet : Packet) → IsUntouched rules routes packet → select before packet ≡ select after packet) (confine : Confine blocks rules routes) where
    abbrev cuts : List ℕ
    cuts = near_cuts blocks before.rules after.rules before.routes after.routes

    outside : (a b : ℕ) → a ≤ b → b < 2 ^ 32 → has_any blocks a ≡ false → has_any blocks b ≡ false → at a ≡ at b
    outside a b le fits out out_b =
        quiet_at a (same (to packet a) (confine (to packet a) (omega arith) out))
        ∙ sym (quiet_at b (same (to packet b) (confine (to packet b) fits out_b)))

    inside : (a b : ℕ) → a ≤ b → b < 2 ^ 32 → HasNoCut cuts a b → has_any blocks a ≡ true → at a ≡ at b
    inside a b le fits none h =
        let uncut : ℕ → Type 0 = λ cut. (cut ≤ a) ⊎ (b < cut) in
        let of_blocks : List ℕ = flat_map cuts_of blocks in
        let of_before : List ℕ = rule_cuts_within blocks before.rules in
        let of_after : List ℕ = rule_cuts_within blocks after.rules in
        let of_routes : List ℕ = route_cuts_within blocks before.routes in
        let of_routes_after : List ℕ = route_cuts_within blocks after.routes in
        let four = each_left uncut (((of_blocks ++ of_before) ++ of_after) ++ of_routes) of_routes_after none in
        let three = each_left uncut ((of_blocks ++ of_before) ++ of_after) of_routes four in
        let two = each_left uncut (of_blocks ++ of_before) of_after three in
        let found = any_found (λ (block : Block). contains block (record { 0 = a })) blocks h in
        let block : Block = found.0 in
        let own : HasNoCut (cuts_of block) a b = each_in (λ (block : Block). HasNoCut (cuts_of block) a b) block blocks (each_of_each uncut cuts_of blocks (each_left uncut of_blocks of_before two)) found.1 in
        let there : contains block (record { 0 = b }) ≡ true = sym (same_contains block a b le fits own) ∙ found.2 in
        let near : (n : ℕ) → a ≤ n → n ≤ b → has_any blocks n ≡ true = λ n low high. any_in (λ (block : Block). contains block (record { 0 = n })) block blocks found.1 (between_in block a b n found.2 there low high) in
        both_at a b
        (same_between before packet a b le fits (rules_uncut blocks a b near before.rules (each_right uncut of_blocks of_before two)) (routes_uncut blocks a b near before.routes (each_right uncut ((of_blocks ++ of_before) ++ of_after) of_routes four)))
        (same_between after packet a b le fits (rules_uncut blocks a b near after.rules (each_right uncut (of_blocks ++ of_before) of_after three)) (routes_uncut blocks a b near after.routes (each_right uncut (((of_blocks ++ of_before) ++ of_after) ++ of_routes) of_routes_after none)))

    -- near what differs, verdicts change only at the cuts
    pub same_transition : (a b : ℕ) → a ≤ b → b < 2 ^ 32 → HasNoCut cuts a b → at a ≡ at b
    same_transition a b le fits none =
        ⊎_elim
        (λ (e : has_any blocks a ≡ true). inside a b le fits none e)
        (λ (e : has_any blocks a ≡ false).
        let uncut : ℕ → Type 0 = λ cut. (cut ≤ a) ⊎ (b < cut) in
        let of_blocks : List ℕ = flat_map cuts_of blocks in
        let of_before : List ℕ = rule_cuts_within blocks before.rules in
        let of_after : List ℕ = rule_cuts_within blocks after.rules in
        let of_routes : List ℕ = route_cuts_within blocks before.routes in
        let of_routes_after : List ℕ = route_cuts_within blocks after.routes in
        let four = each_left uncut (((of_blocks ++ of_before) ++ of_after) ++ of_routes) of_routes_after none in
        let three = each_left uncut ((of_blocks ++ of_before) ++ of_after) of_routes four in
        let two = each_left uncut (of_blocks ++ of_before) of_after three in
        outside a b le fits e (sym (same_any blocks a b le fits (each_left uncut of_blocks of_before two)) ∙ e))
        (cases_Bool (has_any blocks a))
