-- Routes are put and deleted one after another, between both ends.
use Rattle.std.proofs.Common.{◌≡◌, ◌⊎◌, inl, inr, ℕ, ◌+◌, ◌<◌, ◌≤◌, Bool, true, false, not, ◌&&◌, ◌||◌, List, [], ◌∷◌, ◌++◌, Some, None, Ok, Err, length, map, refl, sym, ap, ◌∙◌, subst, append_assoc, arith, cond}
use Rattle.std.specs.Prelude.{filter, ◌==◌, if◌then◌else◌, option_map, ok_or}
use Rattle.std.specs.List.{AllByRecursion as Each, IsDistinct}
use Rattle.std.proofs.lemmas.Bool.Decides.{nat_tests}
use Rattle.std.proofs.lemmas.List.{append-nil, length-append}
use Rattle.std.proofs.lemmas.List.Elements.{filter-append}
use Rattle.prt_refusals.specs.declared.refusal.Refusal.TheVariants.{CountFull, Full, NoSuch}
use Rattle.prt_addr.specs.Order.{first_by, insert_by}
use Rattle.prt_addr.specs.Prefix.{is_same_prefix}
use Rattle.prt_addr.specs.Rising.{IsRising}
use Rattle.prt_addr.proofs.Each.{each_append, each_fails, each_implies, each_passing}
use Rattle.prt_addr.proofs.Orders.{first_is_head, length_inserted}
use Rattle.prt_route.specs.Edit.{after_edit, has_key, without_key}
use Rattle.prt_route.specs.Route.{has_lower_metric, is_listed_before, is_same_key, key_of}
use Rattle.prt_route.specs.RouteChoice.{chosen_route, is_chosen, takes_metric}
use Rattle.prt_route.specs.declared.edit.RouteEdit.TheVariants.{Put, Remove}
use Rattle.prt_route.specs.declared.route.Route.{Route}
use Rattle.prt_route.specs.declared.route.RouteKey.{RouteKey}
use Rattle.prt_route.proofs.Edits.{edit_rises}
use Rattle.prt_rule.specs.declared.rule.Rule.{Rule}
use Rattle.prt_trie.specs.Table.{has_same_key}
use Rattle.prt_version.specs.Change.{check, if_room, put, unless_count_full}
use Rattle.prt_version.specs.State.{State}
use Rattle.prt_version.specs.declared.change.Change.{Change}
use Rattle.prt_version.specs.declared.change.Change.TheVariants as change
use Rattle.prt_version.specs.declared.limits.TheConstants.{MOST_COMMANDS, MOST_ROUTES}
use Rattle.prt_version.proofs.RowOrder.{key_differs, keys_both_ways}
use Rattle.prt_version.proofs.SortedRows.{rising_apart}
use Rattle.prt_diff.specs.Between.{IsBetween}
use Rattle.prt_diff.specs.Plan.{Plan, delete_routes, replace_routes}
use Rattle.prt_diff.specs.Routes.{choice_of, delete_route, named_metric, put_all, replace_route}
use Rattle.prt_diff.proofs.Leads.{has_room, leads_on}
use Rattle.prt_diff.proofs.Members.{IsIn, all_pass, any_in, apart_at, differ, each_in, each_split, either, in_any, inserted, inserting, negated, none_pass, passed, passing, without_one}
use Rattle.prt_diff.proofs.Reached.{Reached, RoutesBetween, is_between}

-- the routes after one is put
abbrev pub put_one : Route → List Route → List Route
put_one route routes = after_edit (Put route) routes

pub not_false : (b : Bool) → b ≡ false → not b ≡ true
not_false b is = ap not is

-- ---- there are no fewer after it

key_gone : (key route other : Route) → has_same_key route key ≡ true → is_listed_before route other ≡ true → has_same_key other key ≡ false
key_gone key route other same ahead = grind (arith, nat_tests, same, ahead)

one_fewer_by : (key route : Route) (routes : List Route) (b : Bool) → has_same_key route key ≡ b → Each (λ other. is_listed_before route other ≡ true) routes → length routes ≤ length (without_key (key_of key) routes) + 1 → length (route ∷ routes) ≤ length (cond (not b) (route ∷ without_key (key_of key) routes) (without_key (key_of key) routes)) + 1
one_fewer_by key route routes true is ahead rest =
    let all : without_key (key_of key) routes ≡ routes = all_pass (λ other. not (has_same_key other key)) routes (each_implies (λ other. is_listed_before route other ≡ true) (λ other. not (has_same_key other key) ≡ true) (λ other later. not_false (has_same_key other key) (key_gone key route other is later)) routes ahead) in
    let l : length (without_key (key_of key) routes) ≡ length routes = ap length all in
    omega (arith, l)
one_fewer_by key route routes false is ahead rest = omega (arith, rest)

-- at most one has the key
one_fewer : (key : Route) (routes : List Route) → IsRising is_listed_before routes → length routes ≤ length (without_key (key_of key) routes) + 1
one_fewer key [] rises = omega arith
one_fewer key (route ∷ routes) rises = one_fewer_by key route routes (has_same_key route key) refl rises.0 (one_fewer key routes rises.1)

no_fewer : (route : Route) (routes : List Route) → IsRising is_listed_before routes → length routes ≤ length (put_one route routes)
no_fewer route routes rises = omega (arith, length_inserted is_listed_before route (without_key (key_of route) routes), one_fewer route routes rises)

pub none_fewer : (todo routes : List Route) → IsRising is_listed_before routes → length routes ≤ length (put_all todo routes)
none_fewer [] routes rises = omega arith
none_fewer (route ∷ todo) routes rises = omega (arith, no_fewer route routes rises, none_fewer todo (put_one route routes) (edit_rises (Put route) routes rises))

pub all_rise : (todo routes : List Route) → IsRising is_listed_before routes → IsRising is_listed_before (put_all todo routes)
all_rise [] routes rises = rises
all_rise (route ∷ todo) routes rises = all_rise todo (put_one route routes) (edit_rises (Put route) routes rises)

-- a route of a new key is one more
pub one_more_route : (route : Route) (routes : List Route) → has_key (key_of route) routes ≡ false → length (put_one route routes) ≡ length routes + 1
one_more_route route routes absent =
    let all : without_key (key_of route) routes ≡ routes = all_pass (λ other. not (has_same_key other route)) routes (each_implies (λ other. has_same_key other route ≡ false) (λ other. not (has_same_key other route) ≡ true) (λ other. not_false (has_same_key other route)) routes (each_fails (λ other. has_same_key other route) routes absent)) in
    length_inserted is_listed_before route (without_key (key_of route) routes) ∙ ap (λ xs. length xs + 1) all

-- ---- a route is put

replace_by : (count : ℕ) (routes : List Route) (route : Route) (b : Bool) → (b ≡ false → length routes < MOST_ROUTES) → count < MOST_COMMANDS → unless_count_full count (if b then Ok (change.Route (Put route)) else if_room (length routes) MOST_ROUTES (change.Route (Put route))) ≡ Ok (change.Route (Put route))
replace_by count routes route true room counts = ap (λ b. if b then Ok (change.Route (Put route)) else Err CountFull) (has_room count MOST_COMMANDS counts)
replace_by count routes route false room counts =
    ap (λ b. unless_count_full count (if b then Ok (change.Route (Put route)) else Err Full)) (has_room (length routes) MOST_ROUTES (room refl))
    ∙ ap (λ b. if b then Ok (change.Route (Put route)) else Err CountFull) (has_room count MOST_COMMANDS counts)

pub replace_checked : (state : State) (route : Route) → (has_key (key_of route) state.routes ≡ false → length state.routes < MOST_ROUTES) → state.count < MOST_COMMANDS → check state (replace_route route) ≡ Ok (change.Route (Put route))
replace_checked state route room counts = replace_by state.count state.routes route (has_key (key_of route) state.routes) room counts

-- one has the key, if the other list has one that has it
pub record HasOne (key : RouteKey) (routes : List Route) : Type 0 where
  pub one : Route
  pub within : IsIn one routes
  pub same : is_same_key (key_of one) key ≡ true

pub one_of : (key : RouteKey) (routes : List Route) → has_key key routes ≡ true → HasOne key routes
one_of key routes has = let p = in_any (λ (route : Route). is_same_key (key_of route) key) routes has in record { one = p.one; within = p.within; same = p.passes }

pub has_one : (key : RouteKey) (route : Route) (routes : List Route) → IsIn route routes → is_same_key (key_of route) key ≡ true → has_key key routes ≡ true
has_one key route routes within same = any_in (λ (other : Route). is_same_key (key_of other) key) route routes within same

pub keys_chain : (a b : Route) (key : RouteKey) → has_same_key a b ≡ true → is_same_key (key_of a) key ≡ true → is_same_key (key_of b) key ≡ true
keys_chain a b key same is = grind (arith, nat_tests, same, is)

pub stays_or_put : (route other : Route) (routes : List Route) (key : RouteKey) → IsIn other routes → is_same_key (key_of other) key ≡ true → has_key key (put_one route routes) ≡ true
stays_or_put route other routes key within same =
    elim (either (has_same_key other route)) [
      | inl here ↦ has_one key route (put_one route routes) (inserting is_listed_before route route (without_key (key_of route) routes) (inl refl)) (keys_chain other route key here same)
      | inr there ↦ has_one key other (put_one route routes) (inserting is_listed_before other route (without_key (key_of route) routes) (inr (passing (λ old. not (has_same_key old route)) other routes within (not_false (has_same_key other route) there)))) same
    ]

put_between : (found end : State) (route : Route) (routes : List Route) → IsIn route end.routes → RoutesBetween found end routes → RoutesBetween found end (put_one route routes)
put_between found end route routes comes between = record {
  of_both = λ key first last. (let h = one_of key routes (between.of_both key first last) in stays_or_put route h.one routes key h.within h.same);
  of_one = λ x within. elim (inserted is_listed_before x route (without_key (key_of route) routes) within) [
    | inl is ↦ inr (subst (λ y. IsIn y end.routes) (sym is) comes)
    | inr old ↦ between.of_one x (passed (λ other. not (has_same_key other route)) x routes old).0
  ];
}

puts_one : (found end : State) (moved : List Rule) (route : Route) (plan : Plan) (routes : List Route) → Reached found end moved plan routes → IsIn route end.routes → (has_key (key_of route) routes ≡ false → length routes < MOST_ROUTES) → found.count + length plan.commands < MOST_COMMANDS → Reached found end moved (record plan { commands = plan.commands ++ replace_route route ∷ [] }) (put_one route routes)
puts_one found end moved route plan routes r comes room counts =
    let state : State = r.state in
    let n = r.leads.count in
    let made : Change = change.Route (Put route) in
    let is : check state (replace_route route) ≡ Ok made = replace_checked state route (subst (λ some. has_key (key_of route) some ≡ false → length some < MOST_ROUTES) (sym r.routes_are) room) (omega (arith, n, counts)) in
    let routes_are : (put state made).routes ≡ put_one route routes = ap (put_one route) r.routes_are in
    let between : RoutesBetween found end (put_one route routes) = put_between found end route routes comes r.routes_between in
    record {
      state = put state made;
      leads = leads_on (IsBetween found end moved) found state plan.commands (replace_route route) made r.leads is (is_between found end (put state made) moved plan.rules (put_one route routes) r.rules_are routes_are r.rules_between between);
      rules_are = r.rules_are;
      routes_are = routes_are;
      rules_between = r.rules_between;
      routes_between = between;
    }

pub puts : (found end : State) (moved : List Rule) (todo : List Route) (plan : Plan) (routes : List Route) → Reached found end moved plan routes → Each (λ route. IsIn route end.routes) todo → IsRising is_listed_before routes → length (put_all todo routes) ≤ MOST_ROUTES → found.count + length plan.commands + length todo ≤ MOST_COMMANDS → Reached found end moved (replace_routes todo plan) (put_all todo routes)
puts found end moved [] plan routes r come rises room counts = subst (λ commands. Reached found end moved (record plan { commands = commands }) routes) (sym (append-nil plan.commands)) r
puts found end moved (route ∷ todo) plan routes r come rises room counts =
    let next : List Route = put_one route routes in
    let next_rises : IsRising is_listed_before next = edit_rises (Put route) routes rises in
    let grows : length next ≤ length (put_all todo next) = none_fewer todo next next_rises in
    let l : length (plan.commands ++ replace_route route ∷ []) ≡ length plan.commands + length (replace_route route ∷ []) = length-append plan.commands (replace_route route ∷ []) in
    subst (λ commands. Reached found end moved (record plan { commands = commands }) (put_all todo next)) (append_assoc plan.commands (replace_route route ∷ []) (map replace_route todo))
    (puts found end moved todo (record plan { commands = plan.commands ++ replace_route route ∷ [] }) next
    (puts_one found end moved route plan routes r come.0 (λ absent. omega (arith, one_more_route route routes absent, grows, room)) (omega (arith, counts)))
    come.1 next_rises room (omega (arith, l, counts)))

-- ---- which routes there are after it

-- a route stays whose key none of those has
pub stays_in : (route : Route) (todo routes : List Route) → IsIn route routes → has_key (key_of route) todo ≡ false → IsIn route (put_all todo routes)
stays_in route [] routes within absent = within
stays_in route (other ∷ todo) routes within absent =
    let both = both_fail (has_same_key other route) (has_key (key_of route) todo) absent in
    stays_in route todo (put_one other routes)
    (inserting is_listed_before route other (without_key (key_of other) routes) (inr (passing (λ old. not (has_same_key old other)) route routes within (not_false (has_same_key route other) (keys_both_ways route other ∙ both.0)))))
    both.1
  where
    both_fail : (b c : Bool) → (b || c) ≡ false → (b ≡ false) × (c ≡ false)
    both_fail true c h = differ h
    both_fail false c h = (refl, h)

-- a route that is put stays, if those of its key are the same
pub put_in : (route : Route) (todo routes : List Route) → ((other : Route) → IsIn other todo → has_same_key other route ≡ true → other ≡ route) → IsIn route todo → IsIn route (put_all todo routes)
put_in route [] routes alike within = absurd within
put_in route (other ∷ todo) routes alike (inr later) = put_in route todo (put_one other routes) (λ x x_in. alike x (inr x_in)) later
put_in route (other ∷ todo) routes alike (inl is) =
    elim (either (has_key (key_of route) todo)) [
      | inl has ↦ (let h = one_of (key_of route) todo has in put_in route todo (put_one other routes) (λ x x_in. alike x (inr x_in)) (subst (λ x. IsIn x todo) (alike h.one (inr h.within) h.same) h.within))
      | inr none ↦ stays_in route todo (put_one other routes) (inserting is_listed_before route other (without_key (key_of other) routes) (inl is)) none
    ]

-- where one came from
pub put_from : (route : Route) (todo routes : List Route) → IsIn route (put_all todo routes) → IsIn route todo ⊎ (IsIn route routes × (has_key (key_of route) todo ≡ false))
put_from route [] routes within = inr (within, refl)
put_from route (other ∷ todo) routes within =
    elim (put_from route todo (put_one other routes) within) [
      | inl later ↦ inl (inr later)
      | inr both ↦ elim (inserted is_listed_before route other (without_key (key_of other) routes) both.0) [
        | inl is ↦ inl (inl is)
        | inr old ↦ (let p = passed (λ x. not (has_same_key x other)) route routes old in inr (p.0, ap (λ b. b || has_key (key_of route) todo) (keys_both_ways other route ∙ negated (has_same_key route other) p.1) ∙ both.1))
      ]
    ]

-- ---- those that pass a test, which no route that is put passes

filtered_insert_by : {X : Type 0} (p : X → Bool) (x y : X) (ys placed : List X) (b : Bool) → p x ≡ false → filter p placed ≡ filter p ys → filter p (cond b (x ∷ (y ∷ ys)) (y ∷ placed)) ≡ filter p (y ∷ ys)
filtered_insert_by p x y ys placed true fails rest = ap (λ b. cond b (x ∷ filter p (y ∷ ys)) (filter p (y ∷ ys))) fails
filtered_insert_by p x y ys placed false fails rest = ap (λ zs. cond (p y) (y ∷ zs) zs) rest

pub filtered_insert : {X : Type 0} (p : X → Bool) (before : X → X → Bool) (x : X) (ys : List X) → p x ≡ false → filter p (insert_by before x ys) ≡ filter p ys
filtered_insert p before x [] fails = ap (λ b. cond b (x ∷ []) []) fails
filtered_insert p before x (y ∷ ys) fails = filtered_insert_by p x y ys (insert_by before x ys) (before x y) fails (filtered_insert p before x ys fails)

filtered_without_by : {X : Type 0} (p q : X → Bool) (x : X) (xs : List X) (b c : Bool) → p x ≡ b → q x ≡ c → (b ≡ true → c ≡ false) → filter p (filter (λ y. not (q y)) xs) ≡ filter p xs → filter p (cond (not c) (x ∷ filter (λ y. not (q y)) xs) (filter (λ y. not (q y)) xs)) ≡ cond b (x ∷ filter p xs) (filter p xs)
filtered_without_by p q x xs true true is q_is apart rest = differ (apart refl)
filtered_without_by p q x xs false true is q_is apart rest = rest
filtered_without_by p q x xs true false is q_is apart rest = ap (λ b. cond b (x ∷ filter p (filter (λ y. not (q y)) xs)) (filter p (filter (λ y. not (q y)) xs))) is ∙ ap (λ ys. x ∷ ys) rest
filtered_without_by p q x xs false false is q_is apart rest = ap (λ b. cond b (x ∷ filter p (filter (λ y. not (q y)) xs)) (filter p (filter (λ y. not (q y)) xs))) is ∙ rest

-- none that passes the one test passes the other
pub filtered_without : {X : Type 0} (p q : X → Bool) (xs : List X) → ((x : X) → IsIn x xs → p x ≡ true → q x ≡ false) → filter p (filter (λ y. not (q y)) xs) ≡ filter p xs
filtered_without p q [] apart = refl
filtered_without p q (x ∷ xs) apart = filtered_without_by p q x xs (p x) (q x) refl refl (apart x (inl refl)) (filtered_without p q xs (λ y within. apart y (inr within)))

key_fails : (p : Route → Bool) (route x : Route) (routes : List Route) → has_key (key_of route) (filter p routes) ≡ false → IsIn x routes → p x ≡ true → (b : Bool) → has_same_key x route ≡ b → b ≡ false
key_fails p route x routes absent within passes true same = differ (sym (has_one (key_of route) x (filter p routes) (passing p x routes within passes) same) ∙ absent)
key_fails p route x routes absent within passes false same = refl

put_passes : (p : Route → Bool) (route : Route) (routes : List Route) → p route ≡ false → has_key (key_of route) (filter p routes) ≡ false → filter p (put_one route routes) ≡ filter p routes
put_passes p route routes fails absent =
    filtered_insert p is_listed_before route (without_key (key_of route) routes) fails
    ∙ filtered_without p (λ x. has_same_key x route) routes (λ x within passes. key_fails p route x routes absent within passes (has_same_key x route) refl)

pub puts_pass : (p : Route → Bool) (todo routes : List Route) → Each (λ route. p route ≡ false) todo → Each (λ route. has_key (key_of route) (filter p routes) ≡ false) todo → filter p (put_all todo routes) ≡ filter p routes
puts_pass p [] routes fail absent = refl
puts_pass p (route ∷ todo) routes fail absent =
    let same = put_passes p route routes fail.0 absent.0 in
    puts_pass p todo (put_one route routes) fail.1 (subst (λ some. Each (λ (x : Route). has_key (key_of x) some ≡ false) todo) (sym same) absent.1) ∙ same

-- ---- which route a key names

takes_by : (given metric : ℕ) (b : Bool) → (given == 0) ≡ b → takes_metric (if b then None else Some given) metric ≡ (given == 0 || given == metric)
takes_by given metric true is = sym (ap (λ b. b || given == metric) is)
takes_by given metric false is = refl

nothing_else_given : (b : Bool) → (b && true && true && true && true && true && true) ≡ b
nothing_else_given true = refl
nothing_else_given false = refl

-- the other route is of the same table and prefix, and has the same metric unless that is 0
abbrev is_taken : Route → Route → Bool
is_taken route other = route.table == other.table && is_same_prefix route.prefix other.prefix && (route.metric == 0 || route.metric == other.metric)

taken : (route other : Route) → is_chosen (choice_of route) other ≡ is_taken route other
taken route other =
    nothing_else_given (route.table == other.table && is_same_prefix route.prefix other.prefix && takes_metric (named_metric route.metric) other.metric)
    ∙ ap (λ b. route.table == other.table && is_same_prefix route.prefix other.prefix && b) (takes_by route.metric other.metric (route.metric == 0) refl)

takes_itself : (route : Route) → is_taken route route ≡ true
takes_itself route = grind (arith, nat_tests)

-- a route that is listed before it is not taken
earlier : (route other : Route) → is_listed_before other route ≡ true → is_taken route other ≡ false
earlier route other ahead = grind (arith, nat_tests, ahead)

-- no other that is taken has a lower metric
not_lower : (route other : Route) → is_taken route other ≡ true → has_lower_metric other route ≡ false
not_lower route other takes = grind (arith, nat_tests, takes)

-- each that comes before the one in the middle
rising_at : (xs : List Route) (y : Route) (zs : List Route) → IsRising is_listed_before (xs ++ y ∷ zs) → Each (λ x. is_listed_before x y ≡ true) xs
rising_at [] y zs rises = tt
rising_at (x ∷ xs) y zs rises = ((each_split (λ z. is_listed_before x z ≡ true) xs (y ∷ zs) rises.0).1.0, rising_at xs y zs rises.1)

pub chosen_first : (xs : List Route) (route : Route) (zs : List Route) → IsRising is_listed_before (xs ++ route ∷ zs) → chosen_route (choice_of route) (xs ++ route ∷ zs) ≡ Some route
chosen_first xs route zs rises =
    let chosen : Route → Bool = is_chosen (choice_of route) in
    let none : filter chosen xs ≡ [] = none_pass chosen xs (each_implies (λ x. is_listed_before x route ≡ true) (λ x. is_chosen (choice_of route) x ≡ false) (λ x ahead. taken route x ∙ earlier route x ahead) xs (rising_at xs route zs rises)) in
    let here : chosen route ≡ true = taken route route ∙ takes_itself route in
    ap (first_by has_lower_metric) (filter-append chosen xs (route ∷ zs) ∙ ap (λ ys. ys ++ filter chosen (route ∷ zs)) none ∙ ap (λ b. cond b (route ∷ filter chosen zs) (filter chosen zs)) here)
    ∙ first_is_head has_lower_metric route (filter chosen zs) (itself route)
    (each_passing (λ z. Unit {0}) (λ z. has_lower_metric z route ≡ false) chosen (λ z any passes. not_lower route z (sym (taken route z) ∙ passes)) zs (anything zs))
  where
    itself : (route : Route) → has_lower_metric route route ≡ false
    itself route = grind (arith, nat_tests)

    anything : (zs : List Route) → Each (λ z. Unit {0}) zs
    anything [] = tt
    anything (z ∷ zs) = (tt, anything zs)

-- ---- one route a key

pub same_of_key : (routes : List Route) (a b : Route) → IsRising is_listed_before routes → IsIn a routes → IsIn b routes → has_same_key a b ≡ true → a ≡ b
same_of_key [] a b rises a_in b_in same = absurd a_in
same_of_key (route ∷ routes) a b rises (inl a_is) (inl b_is) same = a_is ∙ sym b_is
same_of_key (route ∷ routes) a b rises (inl a_is) (inr b_in) same =
    let ahead : is_listed_before route b ≡ true = each_in (λ x. is_listed_before route x ≡ true) b routes rises.0 b_in in
    differ (sym same ∙ ap (λ x. has_same_key x b) a_is ∙ key_differs route b ahead)
same_of_key (route ∷ routes) a b rises (inr a_in) (inl b_is) same =
    let ahead : is_listed_before route a ≡ true = each_in (λ x. is_listed_before route x ≡ true) a routes rises.0 a_in in
    differ (sym same ∙ ap (λ x. has_same_key a x) b_is ∙ keys_both_ways a route ∙ key_differs route a ahead)
same_of_key (route ∷ routes) a b rises (inr a_in) (inr b_in) same = same_of_key routes a b rises.1 a_in b_in same

-- ---- a route is deleted

pub delete_checked : (state : State) (route : Route) → chosen_route (choice_of route) state.routes ≡ Some route → state.count < MOST_COMMANDS → check state (delete_route route) ≡ Ok (change.Route (Remove (key_of route)))
delete_checked state route chosen counts =
    ap (λ o. unless_count_full state.count (ok_or (option_map (λ (found : Route). change.Route (Remove (key_of found))) o) NoSuch)) chosen
    ∙ ap (λ b. if b then Ok (change.Route (Remove (key_of route))) else Err CountFull) (has_room state.count MOST_COMMANDS counts)

pub has_its_key : (route : Route) → has_same_key route route ≡ true
has_its_key route = grind (arith, nat_tests)

keys_apart : (routes : List Route) → IsRising is_listed_before routes → IsDistinct has_same_key routes
keys_apart routes rises = rising_apart is_listed_before has_same_key key_differs routes rises

removed : (front : List Route) (route : Route) (back : List Route) → IsRising is_listed_before (front ++ route ∷ back) → without_key (key_of route) (front ++ route ∷ back) ≡ front ++ back
removed front route back rises =
    let apart = apart_at has_same_key front route back (keys_apart (front ++ route ∷ back) rises) in
    without_one (λ other. has_same_key other route) front route back apart.before (has_its_key route) (each_implies (λ other. has_same_key route other ≡ false) (λ other. has_same_key other route ≡ false) (λ other differs. keys_both_ways other route ∙ differs) back apart.after)

pub rising_without : (kept : List Route) (route : Route) (todo : List Route) → IsRising is_listed_before (kept ++ route ∷ todo) → IsRising is_listed_before (kept ++ todo)
rising_without [] route todo rises = rises.1
rising_without (other ∷ kept) route todo rises =
    let after = each_split (λ x. is_listed_before other x ≡ true) kept (route ∷ todo) rises.0 in
    (each_append (λ x. is_listed_before other x ≡ true) kept todo after.0 after.1.1, rising_without kept route todo rises.1)

without_between : (found end : State) (route : Route) (routes : List Route) → has_key (key_of route) end.routes ≡ false → RoutesBetween found end routes → RoutesBetween found end (without_key (key_of route) routes)
without_between found end route routes goes between = record {
  of_both = λ key first last. (let h = one_of key routes (between.of_both key first last) in
      has_one key h.one (without_key (key_of route) routes) (passing (λ old. not (has_same_key old route)) h.one routes h.within (not_false (has_same_key h.one route) (other_key key h.one last h.same (has_same_key h.one route) refl))) h.same);
  of_one = λ x within. between.of_one x (passed (λ old. not (has_same_key old route)) x routes within).0;
}
  where
    chained : (one last route : Route) (key : RouteKey) → is_same_key (key_of one) key ≡ true → is_same_key (key_of last) key ≡ true → has_same_key one route ≡ true → has_same_key last route ≡ true
    chained one last route key same other is = grind (arith, nat_tests, same, other, is)

    other_key : (key : RouteKey) (one : Route) → has_key key end.routes ≡ true → is_same_key (key_of one) key ≡ true → (b : Bool) → has_same_key one route ≡ b → b ≡ false
    other_key key one last same false is = refl
    other_key key one last same true is =
        let h = one_of key end.routes last in
        differ (sym (has_one (key_of route) h.one end.routes h.within (chained one h.one route key same h.same is)) ∙ goes)

deletes_one : (found end : State) (moved : List Rule) (plan : Plan) (front : List Route) (route : Route) (back : List Route) → Reached found end moved plan (front ++ route ∷ back) → has_key (key_of route) end.routes ≡ false → IsRising is_listed_before (front ++ route ∷ back) → found.count + length plan.commands < MOST_COMMANDS → Reached found end moved (record plan { commands = plan.commands ++ delete_route route ∷ [] }) (front ++ back)
deletes_one found end moved plan front route back r goes rises counts =
    let state : State = r.state in
    let n = r.leads.count in
    let made : Change = change.Route (Remove (key_of route)) in
    let is : check state (delete_route route) ≡ Ok made = delete_checked state route (ap (chosen_route (choice_of route)) r.routes_are ∙ chosen_first front route back rises) (omega (arith, n, counts)) in
    let left : without_key (key_of route) (front ++ route ∷ back) ≡ front ++ back = removed front route back rises in
    let routes_are : (put state made).routes ≡ front ++ back = ap (without_key (key_of route)) r.routes_are ∙ left in
    let between : RoutesBetween found end (front ++ back) = subst (RoutesBetween found end) left (without_between found end route (front ++ route ∷ back) goes r.routes_between) in
    record {
      state = put state made;
      leads = leads_on (IsBetween found end moved) found state plan.commands (delete_route route) made r.leads is (is_between found end (put state made) moved plan.rules (front ++ back) r.rules_are routes_are r.rules_between between);
      rules_are = r.rules_are;
      routes_are = routes_are;
      rules_between = r.rules_between;
      routes_between = between;
    }

-- Deleted are those of the routes to come that pass the test.
abbrev pub Removes : (found end : State) (moved : List Rule) (p : Route → Bool) (todo : List Route) → Type 0
Removes found end moved p todo = (kept : List Route) (plan : Plan) → Reached found end moved plan (kept ++ todo) → Each (λ route. p route ≡ true → has_key (key_of route) end.routes ≡ false) todo → IsRising is_listed_before (kept ++ todo) → found.count + length plan.commands + length (filter p todo) ≤ MOST_COMMANDS → Reached found end moved (delete_routes (filter p todo) plan) (kept ++ filter (λ route. not (p route)) todo)

removes_by : (found end : State) (moved : List Rule) (p : Route → Bool) (route : Route) (todo kept : List Route) (plan : Plan) (b : Bool) → p route ≡ b → Removes found end moved p todo → Reached found end moved plan (kept ++ route ∷ todo) → Each (λ route. p route ≡ true → has_key (key_of route) end.routes ≡ false) (route ∷ todo) → IsRising is_listed_before (kept ++ route ∷ todo) → found.count + length plan.commands + length (cond b (route ∷ filter p todo) (filter p todo)) ≤ MOST_COMMANDS → Reached found end moved (delete_routes (cond b (route ∷ filter p todo) (filter p todo)) plan) (kept ++ cond (not b) (route ∷ filter (λ route. not (p route)) todo) (filter (λ route. not (p route)) todo))
removes_by found end moved p route todo kept plan true is rest r go rises counts =
    let l : length (plan.commands ++ delete_route route ∷ []) ≡ length plan.commands + length (delete_route route ∷ []) = length-append plan.commands (delete_route route ∷ []) in
    subst (λ commands. Reached found end moved (record plan { commands = commands }) (kept ++ filter (λ route. not (p route)) todo)) (append_assoc plan.commands (delete_route route ∷ []) (map delete_route (filter p todo)))
    (rest kept (record plan { commands = plan.commands ++ delete_route route ∷ [] })
    (deletes_one found end moved plan kept route todo r (go.0 is) rises (omega (arith, counts)))
    go.1 (rising_without kept route todo rises) (omega (arith, l, counts)))
removes_by found end moved p route todo kept plan false is rest r go rises counts =
    subst (λ routes. Reached found end moved (delete_routes (filter p todo) plan) routes) (append_assoc kept (route ∷ []) (filter (λ route. not (p route)) todo))
    (rest (kept ++ route ∷ []) plan
    (subst (Reached found end moved plan) (sym (append_assoc kept (route ∷ []) todo)) r)
    go.1 (subst (IsRising is_listed_before) (sym (append_assoc kept (route ∷ []) todo)) rises) counts)

pub removes : (found end : State) (moved : List Rule) (p : Route → Bool) (todo : List Route) → Removes found end moved p todo
removes found end moved p [] kept plan r go rises counts = subst (λ commands. Reached found end moved (record plan { commands = commands }) (kept ++ [])) (sym (append-nil plan.commands)) r
removes found end moved p (route ∷ todo) kept plan r go rises counts = removes_by found end moved p route todo kept plan (p route) refl (removes found end moved p todo) r go rises counts
