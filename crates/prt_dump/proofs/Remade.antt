-- The commands of a dump remake the state.
use Rattle.std.proofs.Common.{◌≡◌, ℕ, ◌+◌, ◌<◌, ◌≤◌, Bool, true, false, not, List, [], ◌∷◌, ◌++◌, Option, Some, None, Ok, Err, length, map, refl, sym, ap, ◌∙◌, subst, append_assoc, arith, get_or, cond}
use Rattle.std.specs.Prelude.{filter, is_none, is_some, nat_lt, if◌then◌else◌}
use Rattle.std.specs.List.{Contains, IsDistinct, AllByRecursion as Each}
use Rattle.std.specs.List.Sorted.{IsPermutation}
use Rattle.std.proofs.lemmas.Bool.Decides.{nat_tests}
use Rattle.std.proofs.lemmas.List.{append-nil}
use Rattle.std.proofs.lemmas.List.Elements.{All-contains, All-contains_itself, All-from_recursion, Contains-get_or, recursion_from_All}
use Rattle.std.proofs.lemmas.List.Sorted.{Contains-permutation, IsPermutation-filter_both, IsPermutation-sym, length_permutation}
use Rattle.std.proofs.lemmas.Map.Keys.{IsDistinct-IsPermutation}
use Rattle.prt_addr.specs.Order.{insert_by}
use Rattle.prt_addr.specs.Rising.{IsRising}
use Rattle.prt_refusals.specs.declared.refusal.Refusal.TheVariants.{Exists, Full, CountFull}
use Rattle.prt_addr.proofs.Each.{any_none, each_append, each_implies}
use Rattle.prt_addr.proofs.Orders.{each_inserted, inserted_rises, length_inserted, same_risings}
use Rattle.std.proofs.lemmas.List.{length-append}
use Rattle.prt_route.specs.Route.{is_listed_before, is_same_key, key_of}
use Rattle.prt_route.specs.declared.route.Route.{Route}
use Rattle.prt_route.proofs.Edits.{listing_order}
use Rattle.prt_rule.specs.Rule.{is_before}
use Rattle.prt_rule.specs.Same.{is_same_rule}
use Rattle.prt_rule.specs.declared.rule.Rule.{Rule}
use Rattle.prt_trie.specs.Table.{has_same_key}
use Rattle.prt_command.specs.declared.request.Command.{Command}
use Rattle.prt_command.specs.declared.request.Command.TheVariants.{RouteAdd, RuleAdd, RuleDel, RuleFlush}
use Rattle.prt_version.specs.Accepted.{IsAccepted}
use Rattle.prt_version.specs.Change.{apply, check, fold, has_rule, if_room, put_if, refusal, unless_count_full}
use Rattle.prt_version.specs.Sound.{IsSound}
use Rattle.prt_version.specs.State.{State, opening_state}
use Rattle.prt_version.specs.declared.change.Change.{Change}
use Rattle.prt_version.specs.declared.change.Change.TheVariants as change
use Rattle.prt_version.specs.declared.limits.TheConstants.{MOST_COMMANDS, MOST_ROUTES, MOST_RULES}
use Rattle.std.specs.Result.{result_err}
use Rattle.prt_version.proofs.RowOrder.{either_listed, keys_both_ways}
use Rattle.prt_version.proofs.SortedRows.{rising_apart}
use Rattle.prt_version.proofs.RowOrder.{key_differs}
use Rattle.prt_command.specs.declared.request.Query.TheVariants as queries
use Rattle.prt_listing.specs.QueryText.{listing_text, table_shown}
use Rattle.prt_listing.specs.RouteText.{route_text}
use Rattle.prt_listing.specs.RuleText.{rule_text}
use Rattle.prt_version.specs.Listing.{listing}
use Rattle.prt_dump.specs.PutBack.{IsSameButForIds, ListsSame, without_id}
use Rattle.prt_dump.specs.Dump.{dump_commands, first_rule, gateways_last, new_rule}

abbrev pub state_of : ℕ → List Rule → List Route → State
state_of count rules routes = record { count = count; rules = rules; routes = routes }

-- The commands are accepted one after another, and make this state.
pub record Remakes (state : State) (commands : List Command) (after : State) : Type 0 where
  pub accepted : IsAccepted state commands
  pub makes : fold state commands ≡ after

nothing_more : (state after : State) → state ≡ after → Remakes state [] after
nothing_more state after same = record { accepted = tt; makes = same }

-- one command, and those after it
one_more : (state next after : State) (command : Command) (commands : List Command) → refusal state command ≡ None → apply state command ≡ next → Remakes next commands after → Remakes state (command ∷ commands) after
one_more state next after command commands allowed is rest = record {
  accepted = (allowed, subst (λ s. IsAccepted s commands) (sym is) rest.accepted);
  makes = ap (λ s. fold s commands) is ∙ rest.makes;
}

accepted_both : (state : State) (first second : List Command) → IsAccepted state first → IsAccepted (fold state first) second → IsAccepted state (first ++ second)
accepted_both state [] second one two = two
accepted_both state (command ∷ first) second one two = (one.0, accepted_both (apply state command) first second one.1 two)

fold_both : (state : State) (first second : List Command) → fold state (first ++ second) ≡ fold (fold state first) second
fold_both state [] second = refl
fold_both state (command ∷ first) second = fold_both (apply state command) first second

then_more : (state next after : State) (first second : List Command) → Remakes state first next → Remakes next second after → Remakes state (first ++ second) after
then_more state next after first second one two = record {
  accepted = accepted_both state first second one.accepted (subst (λ s. IsAccepted s second) (sym one.makes) two.accepted);
  makes = fold_both state first second ∙ ap (λ s. fold s second) one.makes ∙ two.makes;
}

-- a change that is made
made_by : (state : State) (command : Command) (made : Change) → check state command ≡ Ok made → (refusal state command ≡ None) × (apply state command ≡ put_if state (Ok made))
made_by state command made is = (ap result_err is, ap (put_if state) is)

has_room : (n most : ℕ) → n < most → nat_lt n most ≡ true
has_room n most below = grind (arith, nat_tests)

each_both : {X : Type 0} (P Q R : X → Type 0) → ((x : X) → P x → Q x → R x) → (xs : List X) → Each P xs → Each Q xs → Each R xs
each_both P Q R gives [] p q = tt
each_both P Q R gives (x ∷ xs) p q = (gives x p.0 q.0, each_both P Q R gives xs p.1 q.1)

-- ---- rules

abbrev pub numbered : ℕ → Rule → Rule
numbered id rule = record rule { id = id }

-- the rules with ids from this one on
abbrev pub renumbered : ℕ → List Rule → List Rule
renumbered id [] = []
renumbered id (rule ∷ rules) = numbered id rule ∷ renumbered (id + 1) rules

-- a rule that comes before another, and is unlike it
record Precedes (rule other : Rule) : Type 0 where
  priority : rule.priority ≤ other.priority
  unlike : is_same_rule rule other ≡ false

-- each rule before all those after it
abbrev AreInTurn : List Rule → Type 0
AreInTurn [] = Unit {0}
AreInTurn (rule ∷ rules) = Each (Precedes rule) rules × AreInTurn rules

precedes : (rule other : Rule) → is_before rule other ≡ true → is_same_rule rule other ≡ false → Precedes rule other
precedes rule other ahead unlike = record { priority = grind (arith, nat_tests, ahead); unlike = unlike }

in_turn : (rules : List Rule) → IsRising is_before rules → IsDistinct is_same_rule rules → AreInTurn rules
unfolding IsDistinct
in_turn [] rises apart = tt
in_turn (rule ∷ rules) rises apart = (each_both (λ other. is_before rule other ≡ true) (λ other. is_same_rule rule other ≡ false) (Precedes rule) (precedes rule) rules rises.0 apart.0, in_turn rules rises.1 apart.1)

insert_last : {X : Type 0} (before : X → X → Bool) (x : X) (xs : List X) → Each (λ other. before x other ≡ false) xs → insert_by before x xs ≡ xs ++ x ∷ []
insert_last before x [] after = refl
insert_last before x (y ∷ ys) after =
    ap (λ b. if b then x ∷ (y ∷ ys) else y ∷ insert_by before x ys) after.0 ∙ ap (λ zs. y ∷ zs) (insert_last before x ys after.1)

-- a rule with the ids so far, which a later one comes after
record IsPlaced (count : ℕ) (rule other : Rule) : Type 0 where
  id : other.id < count + 4
  ahead : Precedes other rule

not_before : (count : ℕ) (rule other : Rule) → IsPlaced count rule other → is_before (numbered (count + 4) rule) other ≡ false
not_before count rule other placed = let id = placed.id in let priority = placed.ahead.priority in grind (arith, nat_tests)

add_rule : (count : ℕ) (placed : List Rule) (rule : Rule) → Each (IsPlaced count rule) placed → length placed < MOST_RULES → count < MOST_COMMANDS → check (state_of count placed []) (RuleAdd (new_rule rule)) ≡ Ok (change.RulePut (numbered (count + 4) rule))
add_rule count placed rule each room counts =
    let made : Change = change.RulePut (numbered (count + 4) rule) in
    let absent : has_rule (numbered (count + 4) rule) placed ≡ false = any_none (λ other. is_same_rule other (numbered (count + 4) rule)) placed (each_implies (IsPlaced count rule) (λ other. is_same_rule other rule ≡ false) (λ other p. p.ahead.unlike) placed each) in
    ap (λ b. unless_count_full count (if b then Err Exists else if_room (length placed) MOST_RULES made)) absent
    ∙ ap (λ b. unless_count_full count (if b then Ok made else Err Full)) (has_room (length placed) MOST_RULES room)
    ∙ ap (λ b. if b then Ok made else Err CountFull) (has_room count MOST_COMMANDS counts)

rule_put : (count : ℕ) (placed : List Rule) (rule : Rule) → Each (IsPlaced count rule) placed → put_if (state_of count placed []) (Ok (change.RulePut (numbered (count + 4) rule))) ≡ state_of (count + 1) (placed ++ numbered (count + 4) rule ∷ []) []
rule_put count placed rule each =
    ap (λ rules. state_of (count + 1) rules []) (insert_last is_before (numbered (count + 4) rule) placed (each_implies (IsPlaced count rule) (λ other. is_before (numbered (count + 4) rule) other ≡ false) (not_before count rule) placed each))

abbrev add : Rule → Command
add rule = RuleAdd (new_rule rule)

-- placed rules have the ids so far, and each comes before those to be placed
record ArePlaced (count : ℕ) (todo placed : List Rule) : Type 0 where
  ids : Each (λ (other : Rule). other.id < count + 4) placed
  ahead : Each (λ (other : Rule). Each (Precedes other) todo) placed

all_rules : (todo placed : List Rule) (count : ℕ) → AreInTurn todo → ArePlaced count todo placed → length placed + length todo ≤ MOST_RULES → count + length todo ≤ MOST_COMMANDS → Remakes (state_of count placed []) (map add todo) (state_of (count + length todo) (placed ++ renumbered (count + 4) todo) [])
all_rules [] placed count turn are room counts = nothing_more _ _ (ap (λ rules. state_of count rules []) (sym (append-nil placed)) ∙ ap (λ n. state_of n (placed ++ []) []) {x = count} {y = count + length {A = Rule} []} (omega arith))
all_rules (rule ∷ todo) placed count turn are room counts =
    let first : Each (IsPlaced count rule) placed = each_both (λ (other : Rule). other.id < count + 4) (λ (other : Rule). Each (Precedes other) (rule ∷ todo)) (IsPlaced count rule) (λ other id ahead. record { id = id; ahead = ahead.0 }) placed are.ids are.ahead in
    let new : Rule = numbered (count + 4) rule in
    let made = made_by (state_of count placed []) (add rule) (change.RulePut new) (add_rule count placed rule first (omega (arith, room)) (omega (arith, counts))) in
    let later : ArePlaced (count + 1) todo (placed ++ new ∷ []) = record {
      ids = each_append (λ (other : Rule). other.id < count + 1 + 4) placed (new ∷ []) (each_implies (λ (other : Rule). other.id < count + 4) (λ (other : Rule). other.id < count + 1 + 4) (λ other h. omega (arith, h)) placed are.ids) (omega arith, tt);
      ahead = each_append (λ (other : Rule). Each (Precedes other) todo) placed (new ∷ []) (each_implies (λ (other : Rule). Each (Precedes other) (rule ∷ todo)) (λ (other : Rule). Each (Precedes other) todo) (λ other h. h.1) placed are.ahead)
          (each_implies (Precedes rule) (Precedes new) (λ other h. record { priority = h.priority; unlike = h.unlike }) todo turn.0, tt);
    } in
    let l : length (placed ++ new ∷ []) ≡ length placed + 1 = length-append placed (new ∷ []) in
    let rest = all_rules todo (placed ++ new ∷ []) (count + 1) turn.1 later (omega (arith, l, room)) (omega (arith, counts)) in
    one_more _ _ _ (add rule) (map add todo) made.0 (made.1 ∙ rule_put count placed rule first)
    (subst (Remakes (state_of (count + 1) (placed ++ new ∷ []) []) (map add todo)) (same_end count placed new todo) rest)
  where
    same_end : (count : ℕ) (placed : List Rule) (new : Rule) (todo : List Rule) → state_of (count + 1 + length todo) ((placed ++ new ∷ []) ++ renumbered (count + 1 + 4) todo) [] ≡ state_of (count + length (new ∷ todo)) (placed ++ new ∷ renumbered (count + 4 + 1) todo) []
    same_end count placed new todo =
        ap (λ n. state_of n ((placed ++ new ∷ []) ++ renumbered (count + 1 + 4) todo) []) {x = count + 1 + length {A = Rule} todo} {y = count + length {A = Rule} (new ∷ todo)} (omega arith)
        ∙ ap (λ rules. state_of (count + length (new ∷ todo)) rules []) (append_assoc placed (new ∷ []) (renumbered (count + 1 + 4) todo))
        ∙ ap (λ id. state_of (count + length (new ∷ todo)) (placed ++ new ∷ renumbered id todo) []) {x = count + 1 + 4} {y = count + 4 + 1} (omega arith)

-- ---- routes

keeps_all : {X : Type 0} (p : X → Bool) (xs : List X) → Each (λ x. p x ≡ false) xs → filter (λ x. not (p x)) xs ≡ xs
keeps_all p [] fails = refl
keeps_all p (x ∷ xs) fails = ap (λ b. cond (not b) (x ∷ filter (λ x. not (p x)) xs) (filter (λ x. not (p x)) xs)) fails.0 ∙ ap (λ ys. x ∷ ys) (keeps_all p xs fails.1)

abbrev Differs : Route → Route → Type 0
Differs route other = has_same_key other route ≡ false

add_route : (count : ℕ) (rules : List Rule) (placed : List Route) (route : Route) → Each (Differs route) placed → length placed < MOST_ROUTES → count < MOST_COMMANDS → check (state_of count rules placed) (RouteAdd route) ≡ Ok (change.RouteAdd route)
add_route count rules placed route each room counts =
    let made : Change = change.RouteAdd route in
    ap (λ b. unless_count_full count (if b then Err Exists else if_room (length placed) MOST_ROUTES made)) (any_none (λ other. is_same_key (key_of other) (key_of route)) placed each)
    ∙ ap (λ b. unless_count_full count (if b then Ok made else Err Full)) (has_room (length placed) MOST_ROUTES room)
    ∙ ap (λ b. if b then Ok made else Err CountFull) (has_room count MOST_COMMANDS counts)

route_put : (count : ℕ) (rules : List Rule) (placed : List Route) (route : Route) → Each (Differs route) placed → put_if (state_of count rules placed) (Ok (change.RouteAdd route)) ≡ state_of (count + 1) rules (insert_by is_listed_before route placed)
route_put count rules placed route each = ap (λ routes. state_of (count + 1) rules (insert_by is_listed_before route routes)) (keeps_all (λ other. is_same_key (key_of other) (key_of route)) placed each)

-- these routes with more put in, each at its place
abbrev placed_all : List Route → List Route → List Route
placed_all placed [] = placed
placed_all placed (route ∷ todo) = placed_all (insert_by is_listed_before route placed) todo

all_routes : (todo placed : List Route) (count : ℕ) (rules : List Rule) → IsDistinct has_same_key todo → Each (λ route. Each (Differs route) placed) todo → length placed + length todo ≤ MOST_ROUTES → count + length todo ≤ MOST_COMMANDS → Remakes (state_of count rules placed) (map RouteAdd todo) (state_of (count + length todo) rules (placed_all placed todo))
unfolding IsDistinct
all_routes [] placed count rules apart differ room counts = nothing_more _ _ (ap (λ n. state_of n rules placed) {x = count} {y = count + length {A = Route} []} (omega arith))
all_routes (route ∷ todo) placed count rules apart differ room counts =
    let made = made_by (state_of count rules placed) (RouteAdd route) (change.RouteAdd route) (add_route count rules placed route differ.0 (omega (arith, room)) (omega (arith, counts))) in
    let next : List Route = insert_by is_listed_before route placed in
    let later : Each (λ x. Each (Differs x) next) todo =
    each_both (λ x. has_same_key route x ≡ false) (λ x. Each (Differs x) placed) (λ x. Each (Differs x) next) (λ x unlike others. each_inserted (Differs x) is_listed_before route placed unlike others) todo apart.0 differ.1 in
    let l : length next ≡ length placed + 1 = length_inserted is_listed_before route placed in
    let rest = all_routes todo next (count + 1) rules apart.1 later (omega (arith, l, room)) (omega (arith, counts)) in
    one_more _ _ _ (RouteAdd route) (map RouteAdd todo) made.0 (made.1 ∙ route_put count rules placed route differ.0)
    (subst (Remakes (state_of (count + 1) rules next) (map RouteAdd todo)) (ap (λ n. state_of n rules (placed_all next todo)) {x = count + 1 + length {A = Route} todo} {y = count + length {A = Route} (route ∷ todo)} (omega arith)) rest)

-- ---- where they are

placed_rise : (todo placed : List Route) → IsDistinct has_same_key todo → Each (λ route. Each (Differs route) placed) todo → IsRising is_listed_before placed → IsRising is_listed_before (placed_all placed todo)
unfolding IsDistinct
placed_rise [] placed apart differ rises = rises
placed_rise (route ∷ todo) placed apart differ rises =
    placed_rise todo (insert_by is_listed_before route placed) apart.1
    (each_both (λ x. has_same_key route x ≡ false) (λ x. Each (Differs x) placed) (λ x. Each (Differs x) (insert_by is_listed_before route placed)) (λ x unlike others. each_inserted (Differs x) is_listed_before route placed unlike others) todo apart.0 differ.1)
    (inserted_rises is_listed_before listing_order route placed
    (each_implies (Differs route) (λ other. is_listed_before route other ≡ false → is_listed_before other route ≡ true) (λ other unlike after. either_listed other route after unlike) placed differ.0) rises)

each_placed : (P : Route → Type 0) (todo placed : List Route) → Each P placed → Each P todo → Each P (placed_all placed todo)
each_placed P [] placed old new = old
each_placed P (route ∷ todo) placed old new = each_placed P todo (insert_by is_listed_before route placed) (each_inserted P is_listed_before route placed new.0 old) new.1

uninserted_by : (P : Route → Type 0) (x y : Route) (ys : List Route) (b : Bool) → (Each P (insert_by is_listed_before x ys) → P x × Each P ys) → Each P (cond b (x ∷ (y ∷ ys)) (y ∷ insert_by is_listed_before x ys)) → P x × Each P (y ∷ ys)
uninserted_by P x y ys true rest h = h
uninserted_by P x y ys false rest h = let more = rest h.1 in (more.0, (h.0, more.1))

uninserted : (P : Route → Type 0) (x : Route) (ys : List Route) → Each P (insert_by is_listed_before x ys) → P x × Each P ys
uninserted P x [] h = h
uninserted P x (y ∷ ys) h = uninserted_by P x y ys (is_listed_before x y) (uninserted P x ys) h

each_unplaced : (P : Route → Type 0) (todo placed : List Route) → Each P (placed_all placed todo) → Each P placed × Each P todo
each_unplaced P [] placed h = (h, tt)
each_unplaced P (route ∷ todo) placed h =
    let more = each_unplaced P todo (insert_by is_listed_before route placed) h in
    let one = uninserted P route placed more.0 in
    (one.1, (one.0, more.1))

gateway_or : (route : Route) → is_some route.via ≡ not (is_none route.via)
gateway_or route = by route.via
  where
    by : {X : Type 0} (o : Option X) → is_some o ≡ not (is_none o)
    by None = refl
    by (Some x) = refl

moved : (routes : List Route) → IsPermutation routes (gateways_last routes)
moved routes = IsPermutation-filter_both (λ route. is_none route.via) (λ route. is_some route.via) gateway_or routes

each_none : (routes : List Route) → Each (λ route. Each (Differs route) []) routes
each_none [] = tt
each_none (route ∷ routes) = (tt, each_none routes)

apart_moved : (routes : List Route) → IsRising is_listed_before routes → IsDistinct has_same_key (gateways_last routes)
apart_moved routes rises = IsDistinct-IsPermutation has_same_key keys_both_ways routes (gateways_last routes) (moved routes) (rising_apart is_listed_before has_same_key key_differs routes rises)

pub length_moved : (routes : List Route) → length (gateways_last routes) ≡ length routes
length_moved routes = length_permutation routes (gateways_last routes) (moved routes)

pub in_order : (routes : List Route) → IsRising is_listed_before routes → IsDistinct has_same_key (gateways_last routes) → placed_all [] (gateways_last routes) ≡ routes
in_order routes rises apart =
    let moved_routes : List Route = gateways_last routes in
    let all : List Route = placed_all [] moved_routes in
    let forth : Each (Contains routes) moved_routes = recursion_from_All (Contains routes) moved_routes (λ k d inside. Contains-permutation moved_routes routes (get_or moved_routes k d) (IsPermutation-sym routes moved_routes (moved routes)) (Contains-get_or moved_routes k d inside)) in
    let there : Each (Contains routes) all = each_placed (Contains routes) moved_routes [] tt forth in
    let back : Each (Contains all) moved_routes = (each_unplaced (Contains all) moved_routes [] (recursion_from_All (Contains all) all (All-contains_itself all))).1 in
    same_risings is_listed_before listing_order all routes
    (placed_rise moved_routes [] apart (each_none moved_routes) tt) rises
    (λ x inside. All-contains (Contains routes) all x (All-from_recursion (Contains routes) all there) inside)
    (λ x inside. All-contains (Contains all) moved_routes x (All-from_recursion (Contains all) moved_routes back) (Contains-permutation routes moved_routes x (moved routes) inside))

-- ---- all commands of a dump

-- the state that a dump makes
abbrev pub remade : State → State
remade state = state_of (2 + length state.rules + length state.routes) (renumbered 6 state.rules) state.routes

remade_is : (state : State) → IsSound state → state_of (2 + length state.rules + length (gateways_last state.routes)) (renumbered 6 state.rules) (placed_all [] (gateways_last state.routes)) ≡ remade state
remade_is state sound =
    ap (λ n. state_of (2 + length state.rules + n) (renumbered 6 state.rules) (placed_all [] (gateways_last state.routes))) (length_moved state.routes)
    ∙ ap (λ routes. state_of (2 + length state.rules + length state.routes) (renumbered 6 state.rules) routes) (in_order state.routes sound.routes_rise (apart_moved state.routes sound.routes_rise))

pub dump_remade : (state : State) → IsSound state → Remakes opening_state (dump_commands state) (remade state)
dump_remade state sound =
    let moved_routes : List Route = gateways_last state.routes in
    let l : length moved_routes ≡ length state.routes = length_moved state.routes in
    let rules : Remakes (state_of 2 [] []) (map add state.rules) (state_of (2 + length state.rules) (renumbered 6 state.rules) []) =
    all_rules state.rules [] 2 (in_turn state.rules sound.rules_rise sound.distinct_rules) (record { ids = tt; ahead = tt }) (omega (arith, sound.rules_fit)) (omega (arith, sound.rules_fit)) in
    let routes : Remakes (state_of (2 + length state.rules) (renumbered 6 state.rules) []) (map RouteAdd moved_routes) (state_of (2 + length state.rules + length moved_routes) (renumbered 6 state.rules) (placed_all [] moved_routes)) =
    all_routes moved_routes [] (2 + length state.rules) (renumbered 6 state.rules) (apart_moved state.routes sound.routes_rise) (each_none moved_routes) (omega (arith, l, sound.routes_fit)) (omega (arith, l, sound.rules_fit, sound.routes_fit)) in
    let both : Remakes (state_of 2 [] []) (map add state.rules ++ map RouteAdd moved_routes) (remade state) =
    subst (Remakes (state_of 2 [] []) (map add state.rules ++ map RouteAdd moved_routes)) (remade_is state sound) (then_more (state_of 2 [] []) _ _ (map add state.rules) (map RouteAdd moved_routes) rules routes) in
    one_more opening_state (apply opening_state RuleFlush) (remade state) RuleFlush (RuleDel first_rule ∷ (map add state.rules ++ map RouteAdd moved_routes)) refl refl
    (one_more (apply opening_state RuleFlush) (state_of 2 [] []) (remade state) (RuleDel first_rule) (map add state.rules ++ map RouteAdd moved_routes) refl refl both)

-- ---- it is the same

same_rules : (id : ℕ) (rules : List Rule) → map without_id (renumbered id rules) ≡ map without_id rules
same_rules id [] = refl
same_rules id (rule ∷ rules) = ap (λ others. without_id rule ∷ others) (same_rules (id + 1) rules)

pub remade_same : (state : State) → IsSameButForIds (remade state) state
remade_same state = record { rules = same_rules 6 state.rules; routes = refl }

shown_rules : (rules : List Rule) → map rule_text rules ≡ map rule_text (map without_id rules)
shown_rules [] = refl
shown_rules (rule ∷ rules) = ap (λ others. rule_text rule ∷ others) (shown_rules rules)

-- states that are the same except for ids have the same listings
pub lists_same : (state other : State) → IsSameButForIds state other → ListsSame state other
lists_same state other same (queries.RouteShow selector) is = ap (λ routes. listing_text (map (λ route. route_text route (table_shown selector.table)) (listing selector routes))) same.routes
lists_same state other same queries.RuleShow is =
    ap listing_text (shown_rules state.rules ∙ ap (map rule_text) same.rules ∙ sym (shown_rules other.rules))
lists_same state other same (queries.Get packet) is = absurd is
