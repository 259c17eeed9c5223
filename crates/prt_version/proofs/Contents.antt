-- The order of rules by all but the id is one, and by it the equal ones are those that tie.
use Rattle.std.proofs.Common.{◌≡◌, ℕ, Bool, true, false, ◌&&◌, Option, Some, None, refl, sym, ap, ◌∙◌, arith}
use Rattle.std.specs.Prelude.{◌==◌, bytes_eq}
use Rattle.std.specs.Cmp.{IsStrictWeakOrder, IsTotalOrder}
use Rattle.std.specs.Cmp.Lexicographic.{slice_cmp}
use Rattle.std.specs.Option.{option_cmp, option_eq}
use Rattle.std.specs.Ordering.{bool_cmp, is_eq, is_lt, nat_cmp, ordering_reverse, ordering_then}
use Rattle.std.specs.declared.cmp.Ordering.{Ordering}
use Rattle.std.specs.declared.cmp.Ordering.TheVariants.{Less, Equal, Greater}
use Rattle.std.proofs.lemmas.Bool.Decides.{nat_tests}
use Rattle.std.proofs.lemmas.Cmp.{nat_cmp_total, nat_list_cmp_total, on_total, then_total}
use Rattle.std.proofs.lemmas.List.Sorted.{ranks_by}
use Rattle.std.proofs.lemmas.Map.Text.{is_eq-slice_cmp}
use Rattle.std.specs.Cmp.{bool_cmp_total}
use Rattle.std.specs.Cmp.Lexicographic.{options_total}
use Rattle.prt_rule.specs.Same.{is_same_action, is_same_flag, is_same_mark, is_same_rule, is_same_selector}
use Rattle.prt_rule.specs.declared.rule.Action.{Action}
use Rattle.prt_rule.specs.declared.rule.Action.TheVariants.{Lookup, Blackhole, Unreachable, Prohibit}
use Rattle.prt_rule.specs.declared.rule.Rule.{Rule}
use Rattle.prt_version.specs.Content.{action_pair, content_cmp, is_content_before, mark_pair, pair_cmp, prefix_pair, selector_cmp}

-- ---- the equal ones tie

numbers_tie : (x y : ℕ) → is_eq (nat_cmp x y) ≡ (x == y)
numbers_tie x y = grind (arith, nat_tests)

both_tie : (x y : Ordering) (a b : Bool) → is_eq x ≡ a → is_eq y ≡ b → is_eq (ordering_then x y) ≡ (a && b)
both_tie Less y a b first second = ap (λ t. t && b) first
both_tie Equal y a b first second = second ∙ ap (λ t. t && b) first
both_tie Greater y a b first second = ap (λ t. t && b) first

pairs_tie : (a b : ℕ × ℕ) → is_eq (pair_cmp a b) ≡ (a.0 == b.0 && a.1 == b.1)
pairs_tie a b = both_tie (nat_cmp a.0 b.0) (nat_cmp a.1 b.1) (a.0 == b.0) (a.1 == b.1) (numbers_tie a.0 b.0) (numbers_tie a.1 b.1)

flags_tie : (a b : Bool) → is_eq (bool_cmp a b) ≡ is_same_flag a b
flags_tie true true = refl
flags_tie true false = refl
flags_tie false true = refl
flags_tie false false = refl

options_tie : {X : Type 0} (cmp : X → X → Ordering) (same : X → X → Bool) → ((x y : X) → is_eq (cmp x y) ≡ same x y) → (a b : Option X) → is_eq (option_cmp cmp a b) ≡ option_eq same a b
options_tie cmp same ties None None = refl
options_tie cmp same ties None (Some y) = refl
options_tie cmp same ties (Some x) None = refl
options_tie cmp same ties (Some x) (Some y) = ties x y

actions_tie : (a b : Action) → is_eq (pair_cmp (action_pair a) (action_pair b)) ≡ is_same_action a b
actions_tie (Lookup a) (Lookup b) = numbers_tie a b
actions_tie (Lookup a) Blackhole = refl
actions_tie (Lookup a) Unreachable = refl
actions_tie (Lookup a) Prohibit = refl
actions_tie Blackhole (Lookup b) = refl
actions_tie Blackhole Blackhole = refl
actions_tie Blackhole Unreachable = refl
actions_tie Blackhole Prohibit = refl
actions_tie Unreachable (Lookup b) = refl
actions_tie Unreachable Blackhole = refl
actions_tie Unreachable Unreachable = refl
actions_tie Unreachable Prohibit = refl
actions_tie Prohibit (Lookup b) = refl
actions_tie Prohibit Blackhole = refl
actions_tie Prohibit Unreachable = refl
actions_tie Prohibit Prohibit = refl

selectors_tie : (a b : Rule) → is_eq (selector_cmp a b) ≡ is_same_selector a b
selectors_tie a b =
    both_tie _ _ _ _
    (both_tie _ _ _ _
    (both_tie _ _ _ _ (pairs_tie (prefix_pair a.from) (prefix_pair b.from)) (pairs_tie (prefix_pair a.to) (prefix_pair b.to)))
    (options_tie (slice_cmp nat_cmp) bytes_eq is_eq-slice_cmp a.iif b.iif))
    (options_tie (λ x y. pair_cmp (mark_pair x) (mark_pair y)) is_same_mark (λ x y. pairs_tie (mark_pair x) (mark_pair y)) a.mark b.mark)

pub contents_tie : (a b : Rule) → is_eq (content_cmp a b) ≡ is_same_rule a b
contents_tie a b =
    both_tie _ _ _ _
    (both_tie _ _ _ _
    (both_tie _ _ _ _ (both_tie _ _ _ _ (numbers_tie a.priority b.priority) (flags_tie a.inverted b.inverted)) (selectors_tie a b))
    (actions_tie a.action b.action))
    (options_tie nat_cmp (λ m n. m == n) numbers_tie a.suppress b.suppress)

-- ---- it is an order

pairs_total : IsTotalOrder pair_cmp
pairs_total = then_total (on_total (λ (p : ℕ × ℕ). p.0) nat_cmp_total) (on_total (λ (p : ℕ × ℕ). p.1) nat_cmp_total)

selectors_total : IsTotalOrder selector_cmp
selectors_total =
    then_total (then_total (then_total
    (on_total (λ (rule : Rule). prefix_pair rule.from) pairs_total)
    (on_total (λ (rule : Rule). prefix_pair rule.to) pairs_total))
    (on_total (λ (rule : Rule). rule.iif) (options_total nat_list_cmp_total)))
    (on_total (λ (rule : Rule). rule.mark) (options_total (on_total mark_pair pairs_total)))

contents_total : IsTotalOrder content_cmp
contents_total =
    then_total (then_total (then_total (then_total
    (on_total (λ (rule : Rule). rule.priority) nat_cmp_total)
    (on_total (λ (rule : Rule). rule.inverted) bool_cmp_total))
    selectors_total)
    (on_total (λ (rule : Rule). action_pair rule.action) pairs_total))
    (on_total (λ (rule : Rule). rule.suppress) (options_total nat_cmp_total))

pub content_order : IsStrictWeakOrder is_content_before
content_order = ranks_by contents_total (λ (rule : Rule). rule)

-- ---- of two that are not equal one comes before the other

either_by : (forth back : Ordering) → back ≡ ordering_reverse forth → is_lt back ≡ false → is_eq forth ≡ false → is_lt forth ≡ true
either_by Less back flips after differ = refl
either_by Equal back flips after differ = absurd cc
either_by Greater back flips after differ = absurd (let n : true ≡ false = sym (ap is_lt flips) ∙ after in cc)

less_differs : (o : Ordering) → is_lt o ≡ true → is_eq o ≡ false
less_differs Less h = refl
less_differs Equal h = absurd cc
less_differs Greater h = refl

pub either_content : (a b : Rule) → is_content_before b a ≡ false → is_same_rule a b ≡ false → is_content_before a b ≡ true
either_content a b after differ = either_by (content_cmp a b) (content_cmp b a) (contents_total.antisymm b a) after (contents_tie a b ∙ differ)

pub content_differs : (a b : Rule) → is_content_before a b ≡ true → is_same_rule a b ≡ false
content_differs a b ahead = sym (contents_tie a b) ∙ less_differs (content_cmp a b) ahead
