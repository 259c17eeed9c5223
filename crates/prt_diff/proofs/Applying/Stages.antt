-- The rules priority by priority: those below it are as they are wanted, and the others as they are found.
use Rattle.std.proofs.Common.{◌≡◌, ℕ, zero, suc, ◌+◌, ◌<◌, ◌≤◌, Bool, true, false, List, [], ◌∷◌, ◌++◌, length, map, refl, sym, ap, ◌∙◌, subst, append_assoc, arith}
use Rattle.std.specs.Prelude.{◌==◌, nat_le, nat_lt, if◌then◌else◌}
use Rattle.std.specs.List.{AllByRecursion as Each, IsDistinct}
use Rattle.std.proofs.lemmas.Bool.{and_parts, eqb-true, leb-true, ltb-true}
use Rattle.std.proofs.lemmas.List.{append-nil, length-append, length-map, map-append}
use Rattle.std.proofs.lemmas.List.Elements.{filter_passes, recursion_from_All}
use Rattle.prt_addr.proofs.Each.{distinct_filtered, each_implies}
use Rattle.prt_rule.specs.Same.{is_same_rule}
use Rattle.prt_rule.specs.declared.rule.Rule.{Rule}
use Rattle.prt_rule.proofs.SameRules.{rules_same}
use Rattle.prt_command.specs.declared.request.Command.{Command}
use Rattle.prt_version.specs.Change.{fold}
use Rattle.prt_version.specs.Sound.{IsSound}
use Rattle.prt_version.specs.State.{State}
use Rattle.prt_version.specs.declared.limits.TheConstants.{MOST_COMMANDS, MOST_RULES}
use Rattle.prt_version.proofs.Folds.{count_fold}
use Rattle.prt_diff.specs.Rules.{add_rule, rules_at, without_id}
use Rattle.prt_diff.specs.Apply.Rules.{above_all, are_same, changes_below, delete_first, replacing, rule_changes}
use Rattle.prt_diff.specs.Apply.Walk.{rules_below, rules_from}
use Rattle.prt_diff.proofs.Members.{each_split}
use Rattle.prt_diff.proofs.RuleClasses.{RisesByPriority, rises_by_priority}
use Rattle.prt_diff.proofs.Applying.Accepted.{Leave, fold_sound, leave_both}
use Rattle.prt_diff.proofs.Applying.RuleSteps.{Added, adds, deletes, unlike_lower}
use Rattle.prt_diff.proofs.Applying.Runs.{above, all_below, all_from_none, below_next, from_next, none_below_none, none_from}

-- ---- the priorities of the parts

at_each : (n : ℕ) (rules : List Rule) → Each (λ (rule : Rule). rule.priority ≡ n) (rules_at n rules)
at_each n rules =
    each_implies (λ (rule : Rule). (rule.priority == n) ≡ true) (λ (rule : Rule). rule.priority ≡ n) (λ rule is. eqb-true rule.priority n is) (rules_at n rules)
    (recursion_from_All (λ (rule : Rule). (rule.priority == n) ≡ true) (rules_at n rules) (filter_passes (λ (rule : Rule). rule.priority == n) rules))

below_each : (n : ℕ) (rules : List Rule) → Each (λ (rule : Rule). rule.priority < n) (rules_below n rules)
below_each n rules =
    each_implies (λ (rule : Rule). nat_lt rule.priority n ≡ true) (λ (rule : Rule). rule.priority < n) (λ rule is. ltb-true rule.priority n is) (rules_below n rules)
    (recursion_from_All (λ (rule : Rule). nat_lt rule.priority n ≡ true) (rules_below n rules) (filter_passes (λ (rule : Rule). nat_lt rule.priority n) rules))

pub from_each : (n : ℕ) (rules : List Rule) → Each (λ (rule : Rule). n < rule.priority) (rules_from (suc n) rules)
from_each n rules =
    each_implies (λ (rule : Rule). nat_le (suc n) rule.priority ≡ true) (λ (rule : Rule). n < rule.priority) (λ rule is. leb-true (suc n) rule.priority is) (rules_from (suc n) rules)
    (recursion_from_All (λ (rule : Rule). nat_le (suc n) rule.priority ≡ true) (rules_from (suc n) rules) (filter_passes (λ (rule : Rule). nat_le (suc n) rule.priority) rules))

-- ---- rules that are the same except for ids

-- they have the same priorities
same_priority : (a b : Rule) → without_id a ≡ without_id b → a.priority ≡ b.priority
same_priority a b same = ap (λ (r : Rule). r.priority) same

lower_too : (n : ℕ) (rules others : List Rule) → map without_id rules ≡ map without_id others → Each (λ (rule : Rule). rule.priority < n) others → Each (λ (rule : Rule). rule.priority < n) rules
lower_too n [] others same lower = tt
lower_too n (rule ∷ rules) [] same lower = absurd cc
lower_too n (rule ∷ rules) (other ∷ others) same lower =
    let first : without_id rule ≡ without_id other = cc in
    let rest : map without_id rules ≡ map without_id others = cc in
    (subst (λ m. m < n) (sym (same_priority rule other first)) lower.0, lower_too n rules others rest lower.1)

pub alike_if : (rules others : List Rule) → are_same rules others ≡ true → map without_id rules ≡ map without_id others
alike_if [] [] same = refl
alike_if [] (other ∷ others) same = absurd cc
alike_if (rule ∷ rules) [] same = absurd cc
alike_if (rule ∷ rules) (other ∷ others) same =
    let both = and_parts (is_same_rule rule other) (are_same rules others) same in
    ap (λ r. without_id r ∷ map without_id rules) ((rules_same rule other).0 both.0)
    ∙ ap (λ xs. without_id other ∷ xs) (alike_if rules others both.1)

-- ---- the rules of one priority are replaced

-- The rules at the priority and below it are as they are wanted.
record Next (state : State) (commands : List Command) (low there high : List Rule) : Type 0 where
  front : List Rule
  leave : Leave state commands (front ++ high) state.routes
  alike : map without_id front ≡ map without_id low ++ map without_id there

module _ (state : State) (n : ℕ) (low here there high : List Rule) (sound : IsSound state) (are : state.rules ≡ low ++ (here ++ high)) (lower : Each (λ (rule : Rule). rule.priority < n) low) (here_at : Each (λ (rule : Rule). rule.priority ≡ n) here) (there_at : Each (λ (rule : Rule). rule.priority ≡ n) there) (higher : Each (λ (rule : Rule). n < rule.priority) high) (apart : IsDistinct is_same_rule there) (room : length low + length high + length there ≤ MOST_RULES) where
  unlike : Each (λ rule. Each (λ other. is_same_rule other rule ≡ false) low) there
  unlike =
      each_implies (λ (rule : Rule). rule.priority ≡ n) (λ rule. Each (λ other. is_same_rule other rule ≡ false) low)
      (λ rule at. each_implies (λ (other : Rule). other.priority < n) (λ other. is_same_rule other rule ≡ false) (λ other below. unlike_lower other rule (omega (arith, at, below))) low lower)
      there there_at

  replaced : state.count + length (map delete_first here ++ map add_rule there) ≤ MOST_COMMANDS → Next state (map delete_first here ++ map add_rule there) low there high
  replaced counts =
      let l = length-append (map delete_first here) (map add_rule there) in
      let lh = length-map here delete_first in
      let lt = length-map there add_rule in
      let gone : Leave state (map delete_first here) (low ++ high) state.routes = deletes here n low high state sound are lower here_at (omega (arith, counts, l, lh)) in
      let count = count_fold state (map delete_first here) gone.accepted in
      let middle : State = fold state (map delete_first here) in
      let come : Added middle there low high =
      adds there n low high middle (fold_sound state (map delete_first here) sound) gone.rules_are
      (each_implies (λ (rule : Rule). rule.priority < n) (λ (rule : Rule). rule.priority ≤ n) (λ rule below. omega (arith, below)) low lower)
      higher there_at unlike apart room (omega (arith, counts, count, l, lh, lt)) in
      record {
        front = come.front;
        leave = leave_both state (map delete_first here) (map add_rule there) (come.front ++ high) state.routes gone.accepted (subst (Leave middle (map add_rule there) (come.front ++ high)) gone.routes_are come.leave);
        alike = come.alike;
      }

  next_by : (b : Bool) → are_same here there ≡ b → state.count + length (if b then [] else map delete_first here ++ map add_rule there) ≤ MOST_COMMANDS → Next state (if b then [] else map delete_first here ++ map add_rule there) low there high
  next_by true same counts = record {
    front = low ++ here;
    leave = record { accepted = tt; rules_are = are ∙ sym (append_assoc low here high); routes_are = refl };
    alike = map-append without_id low here ∙ ap (λ xs. map without_id low ++ xs) (alike_if here there same);
  }
  next_by false same counts = replaced counts

  next : state.count + length (replacing here there) ≤ MOST_COMMANDS → Next state (replacing here there) low there high
  next counts = next_by (are_same here there) refl counts

-- ---- priority by priority

-- After the changes of the priorities below n, the rules of those are as they are wanted, and the others as they were.
record Stage (start : State) (wanted : List Rule) (n : ℕ) : Type 0 where
  front : List Rule
  leave : Leave start (changes_below n start.rules wanted) (front ++ rules_from n start.rules) start.routes
  alike : map without_id front ≡ map without_id (rules_below n wanted)

alike_next : (front old below there all : List Rule) → all ≡ below ++ there → map without_id old ≡ map without_id below → map without_id front ≡ map without_id old ++ map without_id there → map without_id front ≡ map without_id all
alike_next front old below there all split alike more =
    more ∙ ap (λ xs. xs ++ map without_id there) alike ∙ sym (ap (map without_id) split ∙ map-append without_id below there)

-- What all changes of rules leave.
pub record Replaced (start : State) (wanted : List Rule) : Type 0 where
  pub rules : List Rule
  pub leave : Leave start (rule_changes start.rules wanted) rules start.routes
  pub alike : map without_id rules ≡ map without_id wanted

module _ (start : State) (wanted : List Rule) (sound : IsSound start) (rises : RisesByPriority wanted) (apart : IsDistinct is_same_rule wanted) (room : (n : ℕ) → length (rules_below n wanted) + length (rules_from n start.rules) ≤ MOST_RULES) where
  stage : (n : ℕ) → start.count + length (changes_below n start.rules wanted) ≤ MOST_COMMANDS → Stage start wanted n
  stage zero counts = record {
    front = [];
    leave = record { accepted = tt; rules_are = sym (all_from_none start.rules); routes_are = refl };
    alike = ap (map without_id) (sym (none_below_none wanted));
  }
  stage (suc n) counts =
      let before : List Command = changes_below n start.rules wanted in
      let here : List Rule = rules_at n start.rules in
      let there : List Rule = rules_at n wanted in
      let high : List Rule = rules_from (suc n) start.rules in
      let l = length-append before (replacing here there) in
      let old : Stage start wanted n = stage n (omega (arith, counts, l)) in
      let state : State = fold start before in
      let count = count_fold start before old.leave.accepted in
      let split : rules_below (suc n) wanted ≡ rules_below n wanted ++ there = below_next n wanted rises in
      let found_split : rules_from n start.rules ≡ here ++ high = from_next n start.rules (rises_by_priority start.rules sound.rules_rise) in
      let sizes : length (rules_below (suc n) wanted) ≡ length (rules_below n wanted) + length there = ap length split ∙ length-append (rules_below n wanted) there in
      let same_size : length old.front ≡ length (rules_below n wanted) = sym (length-map old.front without_id) ∙ ap length old.alike ∙ length-map (rules_below n wanted) without_id in
      let more : Next state (replacing here there) old.front there high =
      next state n old.front here there high (fold_sound start before sound) (old.leave.rules_are ∙ ap (λ xs. old.front ++ xs) found_split)
      (lower_too n old.front (rules_below n wanted) old.alike (below_each n wanted))
      (at_each n start.rules) (at_each n wanted) (from_each n start.rules)
      (distinct_filtered is_same_rule (λ (rule : Rule). rule.priority == n) wanted apart)
      (omega (arith, room (suc n), sizes, same_size)) (omega (arith, counts, count, l)) in
      record {
        front = more.front;
        leave = leave_both start before (replacing here there) (more.front ++ high) start.routes old.leave.accepted (subst (Leave state (replacing here there) (more.front ++ high)) old.leave.routes_are more.leave);
        alike = alike_next more.front old.front (rules_below n wanted) there (rules_below (suc n) wanted) split old.alike more.alike;
      }

  pub rules_replaced : start.count + length (rule_changes start.rules wanted) ≤ MOST_COMMANDS → Replaced start wanted
  rules_replaced counts =
      let n : ℕ = above_all (start.rules ++ wanted) in
      let last : Stage start wanted n = stage n counts in
      let lower = each_split (λ (rule : Rule). rule.priority < n) start.rules wanted (above (start.rules ++ wanted) n (omega arith)) in
      record {
        rules = last.front ++ rules_from n start.rules;
        leave = last.leave;
        alike = map-append without_id last.front (rules_from n start.rules) ∙ ap (λ xs. map without_id last.front ++ map without_id xs) (none_from n start.rules lower.0) ∙ append-nil (map without_id last.front) ∙ last.alike ∙ ap (map without_id) (all_below n wanted lower.1);
      }
