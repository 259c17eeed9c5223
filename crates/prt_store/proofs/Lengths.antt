-- Rules and the lengths up to which they suppress prefixes, apart and together.
use Rattle.std.proofs.Common.{◌≡◌, inl, inr, ℕ, pos, ℤ, int_lt, Bool, true, false, cond, List, [], ◌∷◌, Option, Some, None, drop, length, map, IsPermutation, ◌==◌, refl, sym, ap, subst, ◌∙◌, arith}
use Rattle.std.proofs.lemmas.Bool.{eqb-false, eqb-true, and_parts, ne_eqb}
use Rattle.std.proofs.lemmas.Grind.{common_steps}
use Rattle.std.proofs.lemmas.List.Sorted.{IsPermutation-sym}
use Rattle.std.specs.List.{IsDistinct, cons_option}
use Rattle.std.specs.Ordering.{int_cmp, is_eq}
use Rattle.std.specs.Prelude.{option_map}
use Rattle.sqlite.specs.Tree.{rowid}
use Rattle.sqlite.specs.declared.types.Value.TheVariants.{Int}
use Rattle.sqlite_rules.proofs.ListLemmas.{all_from, all_has}
use Rattle.sqlite_rules.proofs.ProbeLemmas.{has_mapped, mapped_has}
use Rattle.sqlite_rules.specs.Lists.{Has}
use Rattle.sqlite_value.proofs.OrderLemmas.{value_cmp-Int}
use Rattle.sqlite_value.specs.Order.{Row, column, value_cmp}
use Rattle.prt_rows.proofs.Cells.{same_number}
use Rattle.prt_rows.proofs.Found.{has_permuted}
use Rattle.prt_rows.proofs.Rising.{above_all}
use Rattle.prt_rows.proofs.RuleRows.{same_rule}
use Rattle.prt_rows.specs.Effects.{HasSame, IsKeyed, has_same_rowid}
use Rattle.prt_rows.specs.Kept.{kept_length, kept_rule}
use Rattle.prt_rows.specs.Rowids.{rise_from}
use Rattle.prt_rows.specs.RuleRow.{IsRule, rule_row}
use Rattle.prt_rows.specs.SuppressRow.{suppress_row}
use Rattle.prt_rows.specs.declared.suppress_row.RuleLength.{RuleLength}
use Rattle.prt_rule.specs.declared.rule.Rule.{Rule}
use Rattle.prt_store.proofs.Once.{unmapped}
use Rattle.prt_store.proofs.Spelling.{rows_of_permutation, same_rows}
use Rattle.prt_store.specs.Lengths.{length_at, length_of, lengths_of, left_over, merge_one, merged, plain, with_len}

-- ---- the members of the lengths

-- the rule of a length
pub was_length : (rules : List Rule) (length : RuleLength) → Has (lengths_of rules) length → (rule : Rule) × Has rules rule × (length_of rule ≡ Some length)
was_length [] length there = absurd there
was_length (rule ∷ rules) length there = go (length_of rule) refl there (λ later. was_length rules length later)
  where
    go : (own : Option RuleLength) → length_of rule ≡ own → Has (cons_option own (lengths_of rules)) length → (Has (lengths_of rules) length → (r : Rule) × Has rules r × (length_of r ≡ Some length))
        → (r : Rule) × Has (rule ∷ rules) r × (length_of r ≡ Some length)
    go None is later more = let m = more later in (m.0, inr m.1, m.2)
    go (Some own) is (inl same) more = (rule, inl refl, is ∙ ap (λ l. Some l) (sym same))
    go (Some own) is (inr later) more = let m = more later in (m.0, inr m.1, m.2)

later_length : (own : Option RuleLength) (lengths : List RuleLength) (length : RuleLength) → Has lengths length → Has (cons_option own lengths) length
later_length None lengths length there = there
later_length (Some own) lengths length there = inr there

pub has_length : (rules : List Rule) (rule : Rule) (length : RuleLength) → Has rules rule → length_of rule ≡ Some length → Has (lengths_of rules) length
has_length [] rule length there own = absurd there
has_length (r ∷ rules) rule length (inl is) own = subst (λ o. Has (cons_option o (lengths_of rules)) length) (sym (ap length_of (sym is) ∙ own)) (inl refl)
has_length (r ∷ rules) rule length (inr later) own = later_length (length_of r) (lengths_of rules) length (has_length rules rule length later own)

by_suppress : (id : ℕ) (suppress : Option ℕ) (length : RuleLength) → option_map (length_at id) suppress ≡ Some length → (length.rule ≡ id) × (suppress ≡ Some length.len)
by_suppress id None length is = absurd (cc)
by_suppress id (Some len) length is = let same : length_at id len ≡ length = cc in (ap (λ (l : RuleLength). l.rule) (sym same), ap (λ (l : RuleLength). Some l.len) same)

-- a length has the id of its rule
pub of_rule : (rule : Rule) (length : RuleLength) → length_of rule ≡ Some length → length.rule ≡ rule.id
of_rule rule length own = (by_suppress rule.id rule.suppress length own).0

pub suppress_of : (rule : Rule) (length : RuleLength) → length_of rule ≡ Some length → rule.suppress ≡ Some length.len
suppress_of rule length own = (by_suppress rule.id rule.suppress length own).1

-- ---- ids

cmp_ids : (a b : ℕ) → is_eq (int_cmp (pos a) (pos b)) ≡ (a == b)
cmp_ids a b = grind (arith, common_steps)

pub id_cmp : (a b : ℕ) → is_eq (value_cmp (Int (pos a)) (Int (pos b))) ≡ (a == b)
id_cmp a b = ap is_eq (value_cmp-Int (pos a) (pos b)) ∙ cmp_ids a b

abbrev pub HaveOwnIds : List Rule → Type 0
HaveOwnIds = IsDistinct (λ (rule other : Rule). rule.id == other.id)

-- rules of one id are one
pub one_by_id : (rules : List Rule) → HaveOwnIds rules → (a b : Rule) → Has rules a → Has rules b → a.id ≡ b.id → a ≡ b
unfolding IsDistinct
one_by_id [] distinct a b there also same = absurd there
one_by_id (r ∷ rules) distinct a b (inl is) (inl too) same = is ∙ sym too
one_by_id (r ∷ rules) distinct a b (inl is) (inr later) same = absurd (eqb-false r.id b.id (all_has (λ (other : Rule). (r.id == other.id) ≡ false) rules b distinct.0 later) (ap (λ (rule : Rule). rule.id) (sym is) ∙ same))
one_by_id (r ∷ rules) distinct a b (inr later) (inl is) same = absurd (eqb-false r.id a.id (all_has (λ (other : Rule). (r.id == other.id) ≡ false) rules a distinct.0 later) (ap (λ (rule : Rule). rule.id) (sym is) ∙ sym same))
one_by_id (r ∷ rules) distinct a b (inr later) (inr also) same = one_by_id rules distinct.1 a b later also same

-- one more row
once_one_more : (own : Option RuleLength) (lengths : List RuleLength) → ((one : RuleLength) → own ≡ Some one → (other : RuleLength) → Has lengths other → has_same_rowid (kept_length one) (kept_length other) ≡ false)
    → IsDistinct has_same_rowid (map kept_length lengths) → IsDistinct has_same_rowid (map kept_length (cons_option own lengths))
unfolding IsDistinct
once_one_more None lengths apart rest = rest
once_one_more (Some one) lengths apart rest = (
  all_from (λ row. has_same_rowid (kept_length one) row ≡ false) (map kept_length lengths) (λ row there. let m = has_mapped kept_length lengths row there in ap (has_same_rowid (kept_length one)) m.2 ∙ apart one refl m.0 m.1),
  rest,
)

-- the lengths of such rules have rows of their own
once_lengths : (rules : List Rule) → HaveOwnIds rules → IsDistinct has_same_rowid (map kept_length (lengths_of rules))
unfolding IsDistinct
once_lengths [] distinct = tt
once_lengths (rule ∷ rules) distinct = once_one_more (length_of rule) (lengths_of rules) (λ one is other there.
    let w = was_length rules other there in
    id_cmp one.rule other.rule ∙ (λ i. of_rule rule one is i == of_rule w.0 other w.2 i) ∙ all_has (λ (r : Rule). (rule.id == r.id) ≡ false) rules w.0 distinct.0 w.1) (once_lengths rules distinct.1)

pub keyed_lengths : (rules : List Rule) → HaveOwnIds rules → IsKeyed (map kept_length (lengths_of rules))
keyed_lengths rules distinct = record { ints = λ row there. let m = has_mapped kept_length (lengths_of rules) row there in rw m.2 refl; once = once_lengths rules distinct }

-- ---- rules with the same rows and the same lengths are the same

spreads : (rules others : List Rule) → HaveOwnIds others → ((length : RuleLength) → Has (lengths_of rules) length → Has (lengths_of others) length) → (x y : Rule) → Has rules x → Has others y → x.id ≡ y.id → (len : ℕ) → x.suppress ≡ Some len → y.suppress ≡ Some len
spreads rules others distinct go_over x y there also same len has =
    let length = length_at x.id len in
    let own : length_of x ≡ Some length = ap (option_map (length_at x.id)) has in
    let w = was_length others length (go_over length (has_length rules x length there own)) in
    let it = by_suppress w.0.id w.0.suppress length w.2 in
    let one : w.0 ≡ y = one_by_id others distinct w.0 y w.1 also (sym it.0 ∙ same) in
    ap (λ (rule : Rule). rule.suppress) (sym one) ∙ it.1

-- the same lengths, in any order
pub record HaveSameLengths (rules others : List Rule) : Type 0 where
  pub to : (length : RuleLength) → Has (lengths_of rules) length → Has (lengths_of others) length
  pub back : (length : RuleLength) → Has (lengths_of others) length → Has (lengths_of rules) length

same_suppress : (rules others : List Rule) → HaveOwnIds rules → HaveOwnIds others → HaveSameLengths rules others → (x y : Rule) → Has rules x → Has others y → x.id ≡ y.id → x.suppress ≡ y.suppress
same_suppress rules others distinct apart lengths x y there also same = go x.suppress y.suppress refl refl
  where
    go : (a b : Option ℕ) → x.suppress ≡ a → y.suppress ≡ b → a ≡ b
    go None None p q = refl
    go (Some len) b p q = sym (spreads rules others apart lengths.to x y there also same len p) ∙ q
    go None (Some len) p q = sym p ∙ spreads others rules distinct lengths.back y x also there (sym same) len q

row_of_plain : (rule other : Rule) → kept_rule rule ≡ kept_rule other → rule_row (plain rule) ≡ rule_row (plain other)
row_of_plain rule other same = λ i. ap rowid same i ∷ ap (drop 2) same i

pub same_rules : (last : ℕ) (rules others : List Rule) → HaveOwnIds rules → HaveOwnIds others → ((rule : Rule) → Has rules rule → IsRule last (plain rule)) → ((rule : Rule) → Has others rule → IsRule last (plain rule)) → IsPermutation (map kept_rule rules) (map kept_rule others)
    → HaveSameLengths rules others → IsPermutation rules others
same_rules last rules others distinct apart fit also_fit same lengths = unmapped kept_rule rules others same (λ x y there also rows.
    let one : plain x ≡ plain y = same_rule last (plain x) (plain y) (fit x there) (also_fit y also) (row_of_plain x y rows) in
    let len = same_suppress rules others distinct apart lengths x y there also (ap (λ (rule : Rule). rule.id) one) in
    λ i. record (one i) { suppress = len i })

-- what is written for a length determines it
one_length : (a b : RuleLength) → kept_length a ≡ kept_length b → a ≡ b
one_length a b same = λ i. record { rule = same_number a.rule b.rule (ap rowid same) i; len = same_number a.len b.len (ap (λ (cells : Row). column cells 2) same) i }

pub same_members_of_lengths : (rules others : List RuleLength) → HasSame (map kept_length rules) (map kept_length others) → (length : RuleLength) → Has rules length → Has others length
same_members_of_lengths rules others same length there =
    let m = has_mapped kept_length others (kept_length length) (same.sound (kept_length length) (mapped_has kept_length rules length there)) in
    subst (Has others) (sym (one_length length m.0 m.2)) m.1

pub same_lengths_of : (rules others : List Rule) → IsPermutation (map kept_length (lengths_of rules)) (map kept_length (lengths_of others)) → HaveSameLengths rules others
same_lengths_of rules others same = record {
  to = same_members_of_lengths (lengths_of rules) (lengths_of others) (rows_of_permutation _ _ same);
  back = same_members_of_lengths (lengths_of others) (lengths_of rules) (rows_of_permutation _ _ (IsPermutation-sym _ _ same));
}

-- the same rules in another order have the same lengths
pub lengths_permuted : (rules others : List Rule) → HaveOwnIds rules → HaveOwnIds others → IsPermutation rules others → IsPermutation (map kept_length (lengths_of rules)) (map kept_length (lengths_of others))
lengths_permuted rules others distinct apart same = same_rows (map kept_length (lengths_of rules)) (map kept_length (lengths_of others)) (keyed_lengths rules distinct) (keyed_lengths others apart) (record {
  sound = λ row there. moved rules others (λ rule among. has_permuted others rules rule (IsPermutation-sym rules others same) among) row there;
  complete = λ row there. moved others rules (λ rule among. has_permuted rules others rule same among) row there;
})
  where
    moved : (from to : List Rule) → ((rule : Rule) → Has from rule → Has to rule) → (row : Row) → Has (map kept_length (lengths_of from)) row → Has (map kept_length (lengths_of to)) row
    moved from to go_over row there =
        let m = has_mapped kept_length (lengths_of from) row there in
        let w = was_length from m.0 m.1 in
        subst (Has (map kept_length (lengths_of to))) (sym m.2) (mapped_has kept_length (lengths_of to) m.0 (has_length to w.0 m.0 (go_over w.0 w.1) w.2))

-- ---- merging

one_plain : (rule : Rule) (lengths : List RuleLength) → plain (merge_one rule lengths).0 ≡ plain rule
one_plain rule [] = refl
one_plain rule (length ∷ lengths) = go (length.rule == rule.id)
  where
    go : (b : Bool) → plain (cond {A = Rule × List RuleLength} b (with_len rule length.len, lengths) (rule, length ∷ lengths)).0 ≡ plain rule
    go true = refl
    go false = refl

-- what does not look at the lengths yields the same for merged rules
pub merged_map : {X : Type 0} (f : Rule → X) → ((rule : Rule) → f rule ≡ f (plain rule)) → (rules : List Rule) (lengths : List RuleLength) → map f (merged rules lengths) ≡ map f rules
merged_map f apart [] lengths = refl
merged_map f apart (rule ∷ rules) lengths = λ i. (apart (merge_one rule lengths).0 ∙ ap f (one_plain rule lengths) ∙ sym (apart rule)) i ∷ merged_map f apart rules (merge_one rule lengths).1 i

pub merged_rows : (rules : List Rule) (lengths : List RuleLength) → map kept_rule (merged rules lengths) ≡ map kept_rule rules
merged_rows = merged_map kept_rule (λ rule. refl)

-- a merged rule is one of the rules, except for its length
pub was_merged : (rules : List Rule) (lengths : List RuleLength) (x : Rule) → Has (merged rules lengths) x → (rule : Rule) × Has rules rule × (plain x ≡ plain rule)
was_merged [] lengths x there = absurd there
was_merged (rule ∷ rules) lengths x (inl is) = (rule, inl refl, ap plain is ∙ one_plain rule lengths)
was_merged (rule ∷ rules) lengths x (inr later) = let m = was_merged rules (merge_one rule lengths).1 x later in (m.0, inr m.1, m.2)

-- the lengths of the merged rules are those that were merged
pub merged_lengths : (rules : List Rule) (lengths : List RuleLength) → ((rule : Rule) → Has rules rule → rule.suppress ≡ None) → left_over rules lengths ≡ [] → lengths_of (merged rules lengths) ≡ lengths
merged_lengths [] lengths none over = sym over
merged_lengths (rule ∷ rules) [] none over =
    ap (λ s. cons_option (option_map (length_at rule.id) s) (lengths_of (merged rules []))) (none rule (inl refl)) ∙ merged_lengths rules [] (λ r there. none r (inr there)) over
merged_lengths (rule ∷ rules) (length ∷ lengths) none over =
    go (length.rule == rule.id) refl over (λ rest. merged_lengths rules lengths (λ r there. none r (inr there)) rest) (λ rest. merged_lengths rules (length ∷ lengths) (λ r there. none r (inr there)) rest)
  where
    go : (b : Bool) → (length.rule == rule.id) ≡ b → left_over rules (cond {A = Rule × List RuleLength} b (with_len rule length.len, lengths) (rule, length ∷ lengths)).1 ≡ [] → (left_over rules lengths ≡ [] → lengths_of (merged rules lengths) ≡ lengths)
        → (left_over rules (length ∷ lengths) ≡ [] → lengths_of (merged rules (length ∷ lengths)) ≡ length ∷ lengths)
        → cons_option (length_of (cond {A = Rule × List RuleLength} b (with_len rule length.len, lengths) (rule, length ∷ lengths)).0) (lengths_of (merged rules (cond {A = Rule × List RuleLength} b (with_len rule length.len, lengths) (rule, length ∷ lengths)).1)) ≡ length ∷ lengths
    go true is over rest others = let own : length_at rule.id length.len ≡ length = ap (λ n. length_at n length.len) (sym (eqb-true length.rule rule.id is)) in λ i. own i ∷ rest over i
    go false is over rest others = ap (λ s. cons_option (option_map (length_at rule.id) s) (lengths_of (merged rules (length ∷ lengths)))) (none rule (inl refl)) ∙ others over

-- ---- nothing is left over

abbrev IsAmong : List Rule → RuleLength → Type 0
IsAmong rules length = (rule : Rule) × Has rules rule × (rule.id ≡ length.rule)

-- ids that rise
rule_above : (last : ℕ) (rules : List Rule) → rise_from (Some (pos last)) (map rule_row rules) ≡ true → (rule : Rule) → Has rules rule → int_lt (pos last) (pos rule.id) ≡ true
rule_above last rules rise rule there = above_all (pos last) (map rule_row rules) rise (rule_row rule) (mapped_has rule_row rules rule there)

length_above : (last : ℕ) (lengths : List RuleLength) → rise_from (Some (pos last)) (map suppress_row lengths) ≡ true → (length : RuleLength) → Has lengths length → int_lt (pos last) (pos length.rule) ≡ true
length_above last lengths rise length there = above_all (pos last) (map suppress_row lengths) rise (suppress_row length) (mapped_has suppress_row lengths length there)

not_below_itself : (n : ℕ) → int_lt (pos n) (pos n) ≡ true → ⊥
not_below_itself n less = grind (arith, common_steps)

not_both : (m n : ℕ) → int_lt (pos m) (pos n) ≡ true → int_lt (pos n) (pos m) ≡ true → ⊥
not_both m n less more = grind (arith, common_steps)

apart_above : (m n : ℕ) → int_lt (pos m) (pos n) ≡ true → (m == n) ≡ false
apart_above m n up = ne_eqb m n (λ same. not_below_itself n (subst (λ k. int_lt (pos k) (pos n) ≡ true) same up))

-- rules whose rows rise have ids of their own
pub ids_rise : (a : Option ℤ) (rules : List Rule) → rise_from a (map rule_row rules) ≡ true → HaveOwnIds rules
unfolding IsDistinct
ids_rise a [] rise = tt
ids_rise a (rule ∷ rules) rise =
    let later = (and_parts _ _ rise).1 in (
      all_from (λ (other : Rule). (rule.id == other.id) ≡ false) rules (λ other there. apart_above rule.id other.id (rule_above rule.id rules later other there)),
      ids_rise (Some (pos rule.id)) rules later,
    )

-- of lists that rise, if each length is of one of the rules, none is left
pub none_left_over : (a b : Option ℤ) (rules : List Rule) (lengths : List RuleLength) → rise_from a (map rule_row rules) ≡ true → rise_from b (map suppress_row lengths) ≡ true → ((length : RuleLength) → Has lengths length → IsAmong rules length)
    → left_over rules lengths ≡ []
none_left_over a b [] [] rise also among = refl
none_left_over a b [] (length ∷ lengths) rise also among = absurd (among length (inl refl)).1
none_left_over a b (rule ∷ rules) [] rise also among = none_left_over (Some (pos rule.id)) b rules [] (and_parts _ _ rise).1 also (λ length none. absurd none)
none_left_over a b (rule ∷ rules) (length ∷ lengths) rise also among =
    let rises = (and_parts _ _ rise).1 in
    let lengths_rise = (and_parts _ _ also).1 in
    go (length.rule == rule.id) refl (λ each. none_left_over (Some (pos rule.id)) (Some (pos length.rule)) rules lengths rises lengths_rise each) (λ each. none_left_over (Some (pos rule.id)) b rules (length ∷ lengths) rises also each)
  where
    -- the rule of a later length is a later one
    after : (length.rule ≡ rule.id) → (l : RuleLength) → Has lengths l → IsAmong rules l
    after is l later =
        let w = among l (inr later) in
        elim w.1 [
          | inl same ↦
              let up = length_above length.rule lengths (and_parts _ _ also).1 l later in
              let id : l.rule ≡ length.rule = sym w.2 ∙ ap (λ (r : Rule). r.id) same ∙ sym is in
              absurd (not_below_itself length.rule (subst (λ n. int_lt (pos length.rule) (pos n) ≡ true) id up))
          | inr there ↦ (w.0, there, w.2)
        ]

    -- if the first length is not of the first rule, no length is
    past : (length.rule ≡ rule.id → ⊥) → (l : RuleLength) → Has (length ∷ lengths) l → IsAmong rules l
    past differ l there =
        let first = among length (inl refl) in
        let w = among l there in
        elim w.1 [
          | inr later ↦ (w.0, later, w.2)
          | inl same ↦
              let id : rule.id ≡ l.rule = ap (λ (r : Rule). r.id) (sym same) ∙ w.2 in
              elim first.1 [
                | inl head ↦ absurd (differ (sym (sym (ap (λ (r : Rule). r.id) head) ∙ first.2)))
                | inr tail ↦
                    let up : int_lt (pos rule.id) (pos length.rule) ≡ true = subst (λ n. int_lt (pos rule.id) (pos n) ≡ true) first.2 (rule_above rule.id rules (and_parts _ _ rise).1 first.0 tail) in
                    elim there [
                      | inl is ↦ absurd (differ (ap (λ (k : RuleLength). k.rule) (sym is) ∙ sym id))
                      | inr further ↦ absurd (not_both rule.id length.rule up (subst (λ n. int_lt (pos length.rule) (pos n) ≡ true) (sym id) (length_above length.rule lengths (and_parts _ _ also).1 l further)))
                    ]
              ]
        ]

    go : (b : Bool) → (length.rule == rule.id) ≡ b → (((l : RuleLength) → Has lengths l → IsAmong rules l) → left_over rules lengths ≡ []) → (((l : RuleLength) → Has (length ∷ lengths) l → IsAmong rules l) → left_over rules (length ∷ lengths) ≡ [])
        → left_over rules (cond {A = Rule × List RuleLength} b (with_len rule length.len, lengths) (rule, length ∷ lengths)).1 ≡ []
    go true is rest others = rest (after (eqb-true length.rule rule.id is))
    go false is rest others = others (past (eqb-false length.rule rule.id is))
