-- Rules of one priority are deleted and added, one after another.
use Rattle.std.proofs.Common.{◌≡◌, ℕ, ◌+◌, ◌<◌, ◌≤◌, Bool, true, false, not, ◌&&◌, List, [], ◌∷◌, ◌++◌, Ok, Err, length, map, refl, sym, ap, ◌∙◌, subst, append_assoc, arith, cond, find}
use Rattle.std.specs.Prelude.{filter, ◌==◌, if◌then◌else◌, option_map, ok_or}
use Rattle.std.specs.List.{AllByRecursion as Each, IsDistinct}
use Rattle.std.specs.Option.{option_eq}
use Rattle.std.proofs.lemmas.Bool.{eq-eqb, ne_eqb}
use Rattle.std.proofs.lemmas.Bool.Decides.{nat_tests}
use Rattle.std.proofs.lemmas.List.{append-nil, length-append, map-append}
use Rattle.prt_refusals.specs.declared.refusal.Refusal.TheVariants.{CountFull, Exists, Full, NoSuch}
use Rattle.prt_addr.specs.Order.{insert_by}
use Rattle.prt_addr.proofs.Each.{any_none, each_append, each_implies}
use Rattle.prt_rule.specs.Rule.{is_before}
use Rattle.prt_rule.specs.RuleChoice.{is_named}
use Rattle.prt_rule.specs.Same.{is_same_action, is_same_flag, is_same_rule, is_same_selector}
use Rattle.prt_rule.specs.declared.rule.Rule.{Rule}
use Rattle.prt_version.specs.Change.{check, has_rule, if_room, put, rule_of, unless_count_full}
use Rattle.prt_version.specs.Sound.{IsSound}
use Rattle.prt_version.specs.State.{State}
use Rattle.prt_version.specs.declared.change.Change.{Change}
use Rattle.prt_version.specs.declared.change.Change.TheVariants as change
use Rattle.prt_version.specs.declared.limits.TheConstants.{MOST_COMMANDS, MOST_RULES}
use Rattle.prt_version.proofs.ByTable.{insert_after}
use Rattle.prt_version.proofs.RowOrder.{ids_both_ways}
use Rattle.prt_diff.specs.Rules.{add_rule, new_rule, without_id}
use Rattle.prt_diff.specs.Apply.Rules.{choice_at, delete_first}
use Rattle.prt_diff.proofs.Leads.{has_room, put_sound}
use Rattle.prt_diff.proofs.Members.{apart_at, each_split, without_one}
use Rattle.prt_diff.proofs.Named.{finds}
use Rattle.prt_diff.proofs.Applying.Accepted.{Leave, leave_first}

-- ---- the first rule of a priority is deleted

nothing_else_given : (b : Bool) → (b && true && true && true && true && true && true && true) ≡ b
nothing_else_given true = refl
nothing_else_given false = refl

named_at : (priority : ℕ) (rule : Rule) → is_named (choice_at priority) rule ≡ (priority == rule.priority)
named_at priority rule = nothing_else_given (priority == rule.priority)

not_named : (rule other : Rule) → other.priority < rule.priority → is_named (choice_at rule.priority) other ≡ false
not_named rule other lower = named_at rule.priority other ∙ ne_eqb rule.priority other.priority (λ same. absurd (omega arith))

named_itself : (rule : Rule) → is_named (choice_at rule.priority) rule ≡ true
named_itself rule = named_at rule.priority rule ∙ eq-eqb rule.priority rule.priority refl

delete_checked : (state : State) (low : List Rule) (rule : Rule) (rest : List Rule) → state.rules ≡ low ++ rule ∷ rest → Each (λ (other : Rule). other.priority < rule.priority) low → state.count < MOST_COMMANDS → check state (delete_first rule) ≡ Ok (change.RuleDrop rule.id)
delete_checked state low rule rest are lower counts =
    ap (λ rules. unless_count_full state.count (ok_or (option_map (λ (r : Rule). change.RuleDrop r.id) (find (is_named (choice_at rule.priority)) rules)) NoSuch)) are
    ∙ ap (λ o. unless_count_full state.count (ok_or (option_map (λ (r : Rule). change.RuleDrop r.id) o) NoSuch))
    (finds (is_named (choice_at rule.priority)) low rule rest (each_implies (λ (other : Rule). other.priority < rule.priority) (λ other. is_named (choice_at rule.priority) other ≡ false) (not_named rule) low lower) (named_itself rule))
    ∙ ap (λ b. if b then Ok (change.RuleDrop rule.id) else Err CountFull) (has_room state.count MOST_COMMANDS counts)

deleted : (state : State) (low : List Rule) (rule : Rule) (rest : List Rule) → IsSound state → state.rules ≡ low ++ rule ∷ rest → filter (λ (other : Rule). not (other.id == rule.id)) state.rules ≡ low ++ rest
deleted state low rule rest sound are =
    let apart = apart_at (λ (a : Rule) (b : Rule). a.id == b.id) low rule rest (subst (IsDistinct (λ (a : Rule) (b : Rule). a.id == b.id)) are sound.distinct_ids) in
    ap (filter (λ (other : Rule). not (other.id == rule.id))) are
    ∙ without_one (λ (other : Rule). other.id == rule.id) low rule rest apart.before (eq-eqb rule.id rule.id refl)
    (each_implies (λ (other : Rule). (rule.id == other.id) ≡ false) (λ (other : Rule). (other.id == rule.id) ≡ false) (λ other differs. ids_both_ways other rule ∙ differs) rest apart.after)

-- All rules of a priority are deleted: they stand between those of lower and of higher ones.
pub deletes : (todo : List Rule) (n : ℕ) (low high : List Rule) (state : State) → IsSound state → state.rules ≡ low ++ (todo ++ high) → Each (λ (rule : Rule). rule.priority < n) low → Each (λ (rule : Rule). rule.priority ≡ n) todo → state.count + length todo ≤ MOST_COMMANDS → Leave state (map delete_first todo) (low ++ high) state.routes
deletes [] n low high state sound are lower at counts = record { accepted = tt; rules_are = are; routes_are = refl }
deletes (rule ∷ todo) n low high state sound are lower at counts =
    let made : Change = change.RuleDrop rule.id in
    let is : check state (delete_first rule) ≡ Ok made =
    delete_checked state low rule (todo ++ high) are (subst (λ m. Each (λ (other : Rule). other.priority < m) low) (sym at.0) lower) (omega (arith, counts)) in
    leave_first state (delete_first rule) made (map delete_first todo) (low ++ high) state.routes is
    (deletes todo n low high (put state made) (put_sound state (delete_first rule) made sound is) (deleted state low rule (todo ++ high) sound are) lower at.1 (omega (arith, counts)))

-- ---- rules are added

other_priority : (a b : Rule) → (a.priority == b.priority) ≡ false → is_same_rule a b ≡ false
other_priority a b differs = ap (λ c. c && is_same_flag a.inverted b.inverted && is_same_selector a b && is_same_action a.action b.action && option_eq (λ m n. m == n) a.suppress b.suppress) differs

pub unlike_lower : (a b : Rule) → a.priority < b.priority → is_same_rule a b ≡ false
unlike_lower a b lower = other_priority a b (ne_eqb a.priority b.priority (λ same. absurd (omega arith)))

pub unlike_higher : (a b : Rule) → b.priority < a.priority → is_same_rule a b ≡ false
unlike_higher a b higher = other_priority a b (ne_eqb a.priority b.priority (λ same. absurd (omega arith)))

add_by : (count rules : ℕ) (rule : Rule) (b : Bool) → b ≡ false → rules < MOST_RULES → count < MOST_COMMANDS → unless_count_full count (if b then Err Exists else if_room rules MOST_RULES (change.RulePut rule)) ≡ Ok (change.RulePut rule)
add_by count rules rule true new room counts = absurd cc
add_by count rules rule false new room counts =
    ap (λ b. unless_count_full count (if b then Ok (change.RulePut rule) else Err Full)) (has_room rules MOST_RULES room)
    ∙ ap (λ b. if b then Ok (change.RulePut rule) else Err CountFull) (has_room count MOST_COMMANDS counts)

add_checked : (state : State) (rule : Rule) → has_rule rule state.rules ≡ false → length state.rules < MOST_RULES → state.count < MOST_COMMANDS → check state (add_rule rule) ≡ Ok (change.RulePut (rule_of state (new_rule rule)))
add_checked state rule new room counts = add_by state.count (length state.rules) (rule_of state (new_rule rule)) (has_rule rule state.rules) new room counts

goes_behind : (new other : Rule) → other.priority ≤ new.priority → other.id < new.id → is_before new other ≡ false
goes_behind new other low old = grind (arith, nat_tests, low, old)

goes_ahead : (new other : Rule) → new.priority < other.priority → is_before new other ≡ true
goes_ahead new other higher = grind (arith, nat_tests, higher)

in_front : (new : Rule) (high : List Rule) → Each (λ (other : Rule). new.priority < other.priority) high → insert_by is_before new high ≡ new ∷ high
in_front new [] higher = refl
in_front new (other ∷ high) higher = ap (λ b. cond b (new ∷ (other ∷ high)) (other ∷ insert_by is_before new high)) (goes_ahead new other higher.0)

behind_each : (new : Rule) (low : List Rule) → Each (λ (other : Rule). other.priority ≤ new.priority) low → Each (λ (other : Rule). other.id < new.id) low → Each (λ other. is_before new other ≡ false) low
behind_each new [] low_priority old = tt
behind_each new (other ∷ low) low_priority old = (goes_behind new other low_priority.0 old.0, behind_each new low low_priority.1 old.1)

added : (new : Rule) (low high : List Rule) → Each (λ (other : Rule). other.priority ≤ new.priority) low → Each (λ (other : Rule). other.id < new.id) low → Each (λ (other : Rule). new.priority < other.priority) high → insert_by is_before new (low ++ high) ≡ (low ++ new ∷ []) ++ high
added new low high low_priority old higher =
    insert_after is_before new low high (behind_each new low low_priority old)
    ∙ ap (λ xs. low ++ xs) (in_front new high higher)
    ∙ sym (append_assoc low (new ∷ []) high)

alike_more : (front low todo : List Rule) (new rule : Rule) → without_id new ≡ without_id rule → map without_id front ≡ map without_id (low ++ new ∷ []) ++ map without_id todo → map without_id front ≡ map without_id low ++ map without_id (rule ∷ todo)
alike_more front low todo new rule same alike =
    alike
    ∙ ap (λ xs. xs ++ map without_id todo) (map-append without_id low (new ∷ []))
    ∙ append_assoc (map without_id low) (without_id new ∷ []) (map without_id todo)
    ∙ ap (λ r. map without_id low ++ r ∷ map without_id todo) same

-- What additions leave: the added rules stand behind the lower ones.
pub record Added (state : State) (todo low high : List Rule) : Type 0 where
  pub front : List Rule
  pub leave : Leave state (map add_rule todo) (front ++ high) state.routes
  pub alike : map without_id front ≡ map without_id low ++ map without_id todo

pub adds : (todo : List Rule) (n : ℕ) (low high : List Rule) (state : State) → IsSound state → state.rules ≡ low ++ high → Each (λ (rule : Rule). rule.priority ≤ n) low → Each (λ (rule : Rule). n < rule.priority) high → Each (λ (rule : Rule). rule.priority ≡ n) todo → Each (λ rule. Each (λ other. is_same_rule other rule ≡ false) low) todo → IsDistinct is_same_rule todo → length low + length high + length todo ≤ MOST_RULES → state.count + length todo ≤ MOST_COMMANDS → Added state todo low high
unfolding IsDistinct
adds [] n low high state sound are lower higher at unlike apart room counts = record {
  front = low;
  leave = record { accepted = tt; rules_are = are; routes_are = refl };
  alike = sym (append-nil (map without_id low));
}
adds (rule ∷ todo) n low high state sound are lower higher at unlike apart room counts =
    let new : Rule = rule_of state (new_rule rule) in
    let made : Change = change.RulePut new in
    let l : length (low ++ high) ≡ length low + length high = length-append low high in
    let k : length (low ++ new ∷ []) ≡ length low + length (new ∷ []) = length-append low (new ∷ []) in
    let size : length state.rules ≡ length (low ++ high) = ap length are in
    let higher_than : Each (λ (other : Rule). rule.priority < other.priority) high = subst (λ m. Each (λ (other : Rule). m < other.priority) high) (sym at.0) higher in
    let lower_than : Each (λ (other : Rule). other.priority ≤ rule.priority) low = subst (λ m. Each (λ (other : Rule). other.priority ≤ m) low) (sym at.0) lower in
    let none : has_rule rule state.rules ≡ false =
    ap (has_rule rule) are
    ∙ any_none (λ other. is_same_rule other rule) (low ++ high)
    (each_append (λ other. is_same_rule other rule ≡ false) low high unlike.0 (each_implies (λ (other : Rule). rule.priority < other.priority) (λ other. is_same_rule other rule ≡ false) (λ other above. unlike_higher other rule above) high higher_than)) in
    let is : check state (add_rule rule) ≡ Ok made = add_checked state rule none (omega (arith, room, l, size)) (omega (arith, counts)) in
    let old : Each (λ (other : Rule). other.id < new.id) low =
    each_implies (λ (other : Rule). other.id ≤ state.count + 3) (λ (other : Rule). other.id < new.id) (λ other id. omega (arith, id)) low
    (each_split (λ (other : Rule). other.id ≤ state.count + 3) low high (subst (Each (λ (other : Rule). other.id ≤ state.count + 3)) are sound.ids)).0 in
    let next : (put state made).rules ≡ (low ++ new ∷ []) ++ high = ap (insert_by is_before new) are ∙ added new low high lower_than old higher_than in
    let at_n : new.priority ≤ n = omega (arith, at.0) in
    let rest : Added (put state made) todo (low ++ new ∷ []) high =
    adds todo n (low ++ new ∷ []) high (put state made) (put_sound state (add_rule rule) made sound is) next
    (each_append (λ (other : Rule). other.priority ≤ n) low (new ∷ []) lower (at_n, tt))
    higher at.1
    (unlike_more low new todo unlike.1 apart.0)
    apart.1 (omega (arith, room, k)) (omega (arith, counts)) in
    record {
      front = rest.front;
      leave = leave_first state (add_rule rule) made (map add_rule todo) (rest.front ++ high) state.routes is rest.leave;
      alike = alike_more rest.front low todo new rule refl rest.alike;
    }
  where
    unlike_more : (low : List Rule) (new : Rule) (todo : List Rule) → Each (λ rule. Each (λ other. is_same_rule other rule ≡ false) low) todo → Each (λ rule. is_same_rule new rule ≡ false) todo → Each (λ rule. Each (λ other. is_same_rule other rule ≡ false) (low ++ new ∷ [])) todo
    unlike_more low new [] unlike apart = tt
    unlike_more low new (rule ∷ todo) unlike apart = (each_append (λ other. is_same_rule other rule ≡ false) low (new ∷ []) unlike.0 (apart.0, tt), unlike_more low new todo unlike.1 apart.1)
