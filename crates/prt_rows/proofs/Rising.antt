-- Rowids that rise occur once each, and those that occur once each and never fall rise.
use Rattle.std.proofs.Common.{◌≡◌, ◌<◌, ℕ, suc, inr, inl, ℤ, true, false, List, [], ◌∷◌, Option, Some, None, length, drop, get_or, refl, sym, ap, ◌∙◌, arith, drop-cons, int_lt, ◌&&◌}
use Rattle.std.proofs.lemmas.Bool.{and_from, and_parts}
use Rattle.std.proofs.lemmas.Grind.{common_steps}
use Rattle.std.specs.List.{AllByRecursion, IsDistinct}
use Rattle.std.specs.Ordering.{int_cmp, is_eq, is_lt}
use Rattle.std.specs.Prelude.{⊤}
use Rattle.sqlite.specs.Edit.{id_in}
use Rattle.sqlite.specs.Tree.{rowid}
use Rattle.sqlite.specs.View.{is_int}
use Rattle.sqlite.specs.declared.types.Value.{Value}
use Rattle.sqlite.specs.declared.types.Value.TheVariants.{Null, Int, Real, Text, Blob}
use Rattle.sqlite_rules.proofs.ListLemmas.{all_from}
use Rattle.sqlite_rules.proofs.TableLemmas.{int_is}
use Rattle.sqlite_rules.specs.Lists.{Has}
use Rattle.sqlite_value.proofs.OrderLemmas.{value_cmp-Int}
use Rattle.sqlite_value.specs.Order.{Row, value_cmp}
use Rattle.prt_rows.specs.Effects.{IsKeyed, has_same_rowid}
use Rattle.prt_rows.specs.Rowids.{is_above, is_next, rise_from}

-- its rowid is not below that of the row before it
abbrev pub IsNotBelow : Row → List Row → Type 0
IsNotBelow x [] = ⊤
IsNotBelow x (y ∷ rows) = is_lt (value_cmp (rowid y) (rowid x)) ≡ false

abbrev pub NeverFall : List Row → Type 0
NeverFall [] = ⊤
NeverFall (x ∷ rows) = IsNotBelow x rows × NeverFall rows

-- ---- what rises is keyed

next_is_int : (last : Option ℤ) (v : Value) → is_next last v ≡ true → is_int v ≡ true
next_is_int last Null is = cc
next_is_int last (Int n) is = refl
next_is_int last (Real x) is = cc
next_is_int last (Text t) is = cc
next_is_int last (Blob b) is = cc

next_is_above : (last : Option ℤ) (v : Value) → is_next last v ≡ true → is_above last (id_in v) ≡ true
next_is_above last Null is = absurd (cc)
next_is_above last (Int n) is = is
next_is_above last (Real x) is = absurd (cc)
next_is_above last (Text t) is = absurd (cc)
next_is_above last (Blob b) is = absurd (cc)

through : (a b c : ℤ) → int_lt a b ≡ true → int_lt b c ≡ true → int_lt a c ≡ true
through a b c first second = grind (arith, common_steps)

-- each of them is above the last one
pub above_all : (last : ℤ) (rows : List Row) → rise_from (Some last) rows ≡ true → (x : Row) → Has rows x → int_lt last (id_in (rowid x)) ≡ true
above_all last [] rise x there = absurd there
above_all last (y ∷ rows) rise x (inl is) = ap (λ r. int_lt last (id_in (rowid r))) is ∙ next_is_above (Some last) (rowid y) (and_parts _ _ rise).0
above_all last (y ∷ rows) rise x (inr later) =
    let parts = and_parts _ _ rise in
    through last (id_in (rowid y)) (id_in (rowid x)) (next_is_above (Some last) (rowid y) parts.0) (above_all (id_in (rowid y)) rows parts.1 x later)

all_ints : (last : Option ℤ) (rows : List Row) → rise_from last rows ≡ true → (x : Row) → Has rows x → is_int (rowid x) ≡ true
all_ints last [] rise x there = absurd there
all_ints last (y ∷ rows) rise x (inl is) = ap (λ r. is_int (rowid r)) is ∙ next_is_int last (rowid y) (and_parts _ _ rise).0
all_ints last (y ∷ rows) rise x (inr later) = all_ints (Some (id_in (rowid y))) rows (and_parts _ _ rise).1 x later

apart : (m n : ℤ) → int_lt m n ≡ true → is_eq (int_cmp m n) ≡ false
apart m n less = grind (arith, common_steps)

differ : (x y : Row) → is_int (rowid x) ≡ true → is_int (rowid y) ≡ true → int_lt (id_in (rowid x)) (id_in (rowid y)) ≡ true → has_same_rowid x y ≡ false
differ x y left right less = rw (int_is (rowid x) left, int_is (rowid y) right) (ap is_eq (value_cmp-Int (id_in (rowid x)) (id_in (rowid y))) ∙ apart (id_in (rowid x)) (id_in (rowid y)) less)

all_once : (last : Option ℤ) (rows : List Row) → rise_from last rows ≡ true → IsDistinct has_same_rowid rows
unfolding IsDistinct
all_once last [] rise = tt
all_once last (x ∷ rows) rise =
    let parts = and_parts _ _ rise in (
      all_from (λ y. has_same_rowid x y ≡ false) rows (λ y there. differ x y (next_is_int last (rowid x) parts.0) (all_ints (Some (id_in (rowid x))) rows parts.1 y there) (above_all (id_in (rowid x)) rows parts.1 y there)),
      all_once (Some (id_in (rowid x))) rows parts.1,
    )

pub keyed_if_rising : (rows : List Row) → rise_from None rows ≡ true → IsKeyed rows
keyed_if_rising rows rise = record { ints = all_ints None rows rise; once = all_once None rows rise }

-- ---- what is keyed and never falls rises

abbrev IsFirst : Option ℤ → List Row → Type 0
IsFirst last [] = ⊤
IsFirst last (x ∷ rows) = is_next last (rowid x) ≡ true

less_if : (m n : ℤ) → is_lt (int_cmp n m) ≡ false → is_eq (int_cmp m n) ≡ false → int_lt m n ≡ true
less_if m n low other = grind (arith, common_steps)

next_row : (x : Row) (rows : List Row) → IsNotBelow x rows → is_int (rowid x) ≡ true → ((y : Row) → Has rows y → is_int (rowid y) ≡ true) → AllByRecursion (λ y. has_same_rowid x y ≡ false) rows → IsFirst (Some (id_in (rowid x))) rows
next_row x [] low int ints others = tt
next_row x (y ∷ rows) low int ints others =
    let p = int_is (rowid x) int in
    let q = int_is (rowid y) (ints y (inl refl)) in
    let m = id_in (rowid x) in
    let n = id_in (rowid y) in
    let below : is_lt (int_cmp n m) ≡ false = ap is_lt (sym (value_cmp-Int n m)) ∙ (λ i. is_lt (value_cmp (sym q i) (sym p i))) ∙ low in
    let other : is_eq (int_cmp m n) ≡ false = ap is_eq (sym (value_cmp-Int m n)) ∙ (λ i. is_eq (value_cmp (sym p i) (sym q i))) ∙ others.0 in
    ap (is_next (Some m)) q ∙ less_if m n below other

rise_on : (last : Option ℤ) (rows : List Row) → NeverFall rows → ((y : Row) → Has rows y → is_int (rowid y) ≡ true) → IsDistinct has_same_rowid rows → IsFirst last rows → rise_from last rows ≡ true
unfolding IsDistinct
rise_on last [] low ints once first = refl
rise_on last (x ∷ rows) low ints once first =
    and_from _ _ first (rise_on (Some (id_in (rowid x))) rows low.1 (λ y there. ints y (inr there)) once.1 (next_row x rows low.0 (ints x (inl refl)) (λ y there. ints y (inr there)) once.0))

none_before : (rows : List Row) → ((y : Row) → Has rows y → is_int (rowid y) ≡ true) → IsFirst None rows
none_before [] ints = tt
none_before (x ∷ rows) ints = ap (is_next None) (int_is (rowid x) (ints x (inl refl)))

pub rises_if_keyed : (rows : List Row) → NeverFall rows → IsKeyed rows → rise_from None rows ≡ true
rises_if_keyed rows low keyed = rise_on None rows low keyed.ints keyed.once (none_before rows keyed.ints)

-- ---- what stops a rise

not_next : (last : Option ℤ) (v : Value) → ((n : ℤ) → v ≡ Int n → ⊥) → is_next last v ≡ false
not_next last Null none = refl
not_next last (Int n) none = absurd (none n refl)
not_next last (Real x) none = refl
not_next last (Text t) none = refl
not_next last (Blob b) none = refl

pub rise_stops : (rows : List Row) (at : ℕ) (row : Row) (last : Option ℤ) → at < length rows → row ≡ get_or rows at row → ((n : ℤ) → rowid row ≡ Int n → ⊥) → rise_from last (drop at rows) ≡ false
rise_stops rows at row last within here none =
    ap (rise_from last) (drop-cons rows at row within) ∙ ap (λ r. rise_from last (r ∷ drop (suc at) rows)) (sym here)
    ∙ ap (λ b. b && rise_from (Some (id_in (rowid row))) (drop (suc at) rows)) (not_next last (rowid row) none)
