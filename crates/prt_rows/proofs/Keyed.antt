-- Rowids that are integers and occur once each.
use Rattle.std.proofs.Common.{◌≡◌, inl, inr, Bool, true, false, Equal, Less, Greater, Ordering, List, [], ◌∷◌, cond, filter, IsPermutation, refl, sym, ap, ◌∙◌, true≢false, ℤ}
use Rattle.std.proofs.lemmas.Bool.{and_parts, false_from_ne_true, not-true}
use Rattle.std.proofs.lemmas.Cmp.{tied_back}
use Rattle.std.proofs.lemmas.Map.Keys.{IsDistinct-IsPermutation}
use Rattle.std.specs.List.{IsDistinct}
use Rattle.std.specs.Ordering.{is_eq, match_ordering}
use Rattle.sqlite.specs.Edit.{are_fresh, have_rowids, put_all, without_all}
use Rattle.sqlite.specs.Tree.{put_row, rowid, without_rowid}
use Rattle.sqlite.specs.View.{is_int}
use Rattle.sqlite_rules.proofs.ListLemmas.{all_from, all_has, has_filtered, some_from}
use Rattle.sqlite_rules.proofs.TableLemmas.{put_has, without_all_has}
use Rattle.sqlite_rules.specs.Edit.{is_taken}
use Rattle.sqlite_rules.specs.Lists.{Has}
use Rattle.sqlite_value.proofs.OrderLemmas.{value_cmp_total}
use Rattle.sqlite_value.specs.Order.{Row, value_cmp}
use Rattle.prt_rows.specs.Effects.{IsKeyed, has_same_rowid}

pub equal_is : (o : Ordering) → is_eq o ≡ true → o ≡ Equal
equal_is Less is = absurd (cc)
equal_is Equal is = refl
equal_is Greater is = absurd (cc)

-- a row that differs from another in its rowid differs in whichever order the two are compared
other_back : (a b : Row) → has_same_rowid a b ≡ false → has_same_rowid b a ≡ false
other_back a b other = false_from_ne_true _ (λ same.
    true≢false (sym (ap is_eq (tied_back value_cmp_total (rowid b) (rowid a) (equal_is _ same))) ∙ other))

flips_by : (a b : Row) (c : Bool) → has_same_rowid a b ≡ c → has_same_rowid a b ≡ has_same_rowid b a
flips_by a b true same = same ∙ sym (ap is_eq (tied_back value_cmp_total (rowid a) (rowid b) (equal_is _ same)))
flips_by a b false other = other ∙ sym (other_back a b other)

flips : (a b : Row) → has_same_rowid a b ≡ has_same_rowid b a
flips a b = flips_by a b (has_same_rowid a b) refl

once_alone : (rows : List Row) → IsDistinct has_same_rowid rows → (a b : Row) → Has rows a → Has rows b → has_same_rowid a b ≡ true → a ≡ b
unfolding IsDistinct
once_alone [] once a b p q same = absurd p
once_alone (x ∷ rows) once a b (inl p) (inl q) same = p ∙ sym q
once_alone (x ∷ rows) once a b (inl p) (inr q) same = absurd (true≢false (sym same ∙ ap (λ x. has_same_rowid x b) p ∙ all_has (λ y. has_same_rowid x y ≡ false) rows b once.0 q))
once_alone (x ∷ rows) once a b (inr p) (inl q) same = absurd (true≢false (sym same ∙ ap (λ x. has_same_rowid a x) q ∙ flips a x ∙ all_has (λ y. has_same_rowid x y ≡ false) rows a once.0 p))
once_alone (x ∷ rows) once a b (inr p) (inr q) same = once_alone rows once.1 a b p q same

-- a rowid names one row
pub alone : (rows : List Row) → IsKeyed rows → (a b : Row) → Has rows a → Has rows b → value_cmp (rowid a) (rowid b) ≡ Equal → a ≡ b
alone rows keyed a b p q tie = once_alone rows keyed.once a b p q (ap is_eq tie)

pub keyed-permutation : (xs ys : List Row) → IsPermutation xs ys → ((row : Row) → Has ys row → Has xs row) → IsKeyed xs → IsKeyed ys
keyed-permutation xs ys same back keyed = record { ints = λ row there. keyed.ints row (back row there); once = IsDistinct-IsPermutation has_same_rowid flips xs ys same keyed.once }

-- ---- rows that are taken out

once-filter : (p : Row → Bool) (rows : List Row) → IsDistinct has_same_rowid rows → IsDistinct has_same_rowid (filter p rows)
unfolding IsDistinct
once-filter p [] once = tt
once-filter p (x ∷ rows) once = go (p x) (once-filter p rows once.1)
  where
    go : (b : Bool) → IsDistinct has_same_rowid (filter p rows) → IsDistinct has_same_rowid (cond b (x ∷ filter p rows) (filter p rows))
    go true later = (all_from (λ y. has_same_rowid x y ≡ false) (filter p rows) (λ y there. all_has (λ y. has_same_rowid x y ≡ false) rows y once.0 (has_filtered p rows y there).0), later)
    go false later = later

once-without_all : (ids : List ℤ) (rows : List Row) → IsDistinct has_same_rowid rows → IsDistinct has_same_rowid (without_all rows ids)
once-without_all [] rows once = once
once-without_all (id ∷ ids) rows once = once-without_all ids (without_rowid id rows) (once-filter _ rows once)

pub keyed-without_all : (ids : List ℤ) (rows : List Row) → IsKeyed rows → IsKeyed (without_all rows ids)
keyed-without_all ids rows keyed = record { ints = λ row there. keyed.ints row (without_all_has ids rows row there); once = once-without_all ids rows keyed.once }

-- ---- rows that are put

once-put_row : (n : Row) (rows : List Row) → ((x : Row) → Has rows x → has_same_rowid x n ≡ false) → IsDistinct has_same_rowid rows → IsDistinct has_same_rowid (put_row n rows)
unfolding IsDistinct
once-put_row n [] other once = (tt, tt)
once-put_row n (r ∷ rows) other once = go (value_cmp (rowid r) (rowid n)) refl (once-put_row n rows (λ x there. other x (inr there)) once.1)
  where
    go : (o : Ordering) → value_cmp (rowid r) (rowid n) ≡ o → IsDistinct has_same_rowid (put_row n rows) → IsDistinct has_same_rowid (match_ordering o (r ∷ put_row n rows) (n ∷ rows) (n ∷ (r ∷ rows)))
    go Less is later = (
      all_from (λ y. has_same_rowid r y ≡ false) (put_row n rows) (λ y there. elim (put_has n rows y there) [
        | inl new ↦ ap (has_same_rowid r) new ∙ other r (inl refl)
        | inr was ↦ all_has (λ y. has_same_rowid r y ≡ false) rows y once.0 was
      ]),
      later,
    )
    go Equal is later = absurd (true≢false (sym (ap is_eq is) ∙ other r (inl refl)))
    go Greater is later = (all_from (λ y. has_same_rowid n y ≡ false) (r ∷ rows) (λ y there. other_back y n (other y there)), once)

keyed-put_row : (n : Row) (rows : List Row) → is_int (rowid n) ≡ true → is_taken rows n ≡ false → IsKeyed rows → IsKeyed (put_row n rows)
keyed-put_row n rows int free keyed = record {
  ints = λ x there. elim (put_has n rows x there) [ inl is ↦ rw is int | inr was ↦ keyed.ints x was ];
  once = once-put_row n rows (λ x there. false_from_ne_true _ (λ same. true≢false (sym (some_from (λ r. is_eq (value_cmp (rowid r) (rowid n))) rows x there same) ∙ free))) keyed.once;
}

pub keyed-put_all : (news rows : List Row) → have_rowids news ≡ true → are_fresh rows news ≡ true → IsKeyed rows → IsKeyed (put_all rows news)
keyed-put_all [] rows ints fresh keyed = keyed
keyed-put_all (n ∷ news) rows ints fresh keyed =
    let i = and_parts _ _ ints in
    let f = and_parts _ _ fresh in
    keyed-put_all news (put_row n rows) i.1 f.1 (keyed-put_row n rows i.0 (not-true _ f.0) keyed)
