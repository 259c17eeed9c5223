-- Lists whose members occur once are permutations of one another if they have the same members.
use Rattle.std.proofs.Common.{◌≡◌, ◌⊎◌, inl, inr, Bool, true, false, List, [], ◌∷◌, map, IsPermutation, refl, sym, subst, ◌∙◌, true≢false, ℕ, length, set, get_or, arith, ap}
use Rattle.std.proofs.lemmas.List.Sorted.{IsPermutation-cons, IsPermutation-keeps, IsPermutation-middle, IsPermutation-refl, IsPermutation-swap, IsPermutation-sym, IsPermutation-trans}
use Rattle.std.proofs.Math.ListN.{get_or-map}
use Rattle.std.proofs.lemmas.List.{length-map, map-set}
use Rattle.std.specs.List.{IsDistinct, swap}
use Rattle.sqlite_rules.proofs.ListLemmas.{all_has}
use Rattle.sqlite_rules.proofs.ProbeLemmas.{has_mapped}
use Rattle.sqlite_rules.specs.Lists.{Has}
use Rattle.prt_rows.proofs.Found.{has_permuted}

-- no member occurs twice
abbrev pub IsOnce : {X : Type 0} → List X → Type 0
IsOnce [] = Unit {0}
IsOnce (x ∷ xs) = (Has xs x → ⊥) × IsOnce xs

-- the list except for one place of x
record Without {X : Type 0} (xs : List X) (x : X) : Type 0 where
  rest : List X
  same : IsPermutation (x ∷ rest) xs
  there : (z : X) → Has xs z → (z ≡ x) ⊎ Has rest z
  back : (z : X) → Has rest z → Has xs z
  once : IsOnce xs → IsOnce rest
  absent : IsOnce xs → Has rest x → ⊥

swapped : {X : Type 0} (x y : X) (rest : List X) → IsPermutation (x ∷ (y ∷ rest)) (y ∷ (x ∷ rest))
swapped x y rest = IsPermutation-sym (y ∷ (x ∷ rest)) (x ∷ (y ∷ rest)) (IsPermutation-middle (y ∷ []) x rest)

without : {X : Type 0} (xs : List X) (x : X) → Has xs x → Without xs x
without [] x here = absurd here
without (y ∷ xs) x (inl is) = record {
  rest = xs;
  same = rw is (IsPermutation-refl (y ∷ xs));
  there = λ z there. elim there [ inl first ↦ inl (first ∙ sym is) | inr later ↦ inr later ];
  back = λ z later. inr later;
  once = λ once. once.1;
  absent = λ once later. once.0 (rw (← is) later);
}
without (y ∷ xs) x (inr later) =
    let w = without xs x later in
    record {
      rest = y ∷ w.rest;
      same = IsPermutation-trans (x ∷ (y ∷ w.rest)) (y ∷ (x ∷ w.rest)) (y ∷ xs) (swapped x y w.rest) (IsPermutation-cons y (x ∷ w.rest) xs w.same);
      there = λ z there. elim there [
        | inl first ↦ inr (inl first)
        | inr more ↦ elim (w.there z more) [ inl is ↦ inl is | inr left ↦ inr (inr left) ]
      ];
      back = λ z there. elim there [ inl first ↦ inl first | inr more ↦ inr (w.back z more) ];
      once = λ once. (λ again. once.0 (w.back y again), w.once once.1);
      absent = λ once there. elim there [ inl is ↦ once.0 (rw (← is) later) | inr more ↦ w.absent once.1 more ];
    }

pub same_members : {X : Type 0} (xs ys : List X) → IsOnce xs → IsOnce ys → ((x : X) → Has xs x → Has ys x) → ((x : X) → Has ys x → Has xs x) → IsPermutation xs ys
same_members [] [] once also there back = IsPermutation-refl []
same_members [] (y ∷ ys) once also there back = absurd (back y (inl refl))
same_members (x ∷ xs) ys once also there back =
    let w = without ys x (there x (inl refl)) in
    let more : IsPermutation xs w.rest = same_members xs w.rest once.1 (w.once also)
    (λ z later. elim (w.there z (there z (inr later))) [ inl is ↦ absurd (once.0 (subst (Has xs) is later)) | inr left ↦ left ])
    (λ z left. elim (back z (w.back z left)) [ inl is ↦ absurd (w.absent also (subst (Has w.rest) is left)) | inr later ↦ later ]) in
    IsPermutation-trans (x ∷ xs) (x ∷ w.rest) ys (IsPermutation-cons x xs w.rest more) w.same

-- what is made of members that are distinct occurs once, if only the same ones make the same
pub once_mapped : {X Y : Type 0} (make : X → Y) (same : X → X → Bool) (xs : List X) → IsDistinct same xs → ((a b : X) → Has xs a → Has xs b → make a ≡ make b → same a b ≡ true) → IsOnce (map make xs)
unfolding IsDistinct
once_mapped make same [] distinct tells = tt
once_mapped make same (x ∷ xs) distinct tells = (
  λ again.
      let m = has_mapped make xs (make x) again in
      true≢false (sym (tells x m.0 (inl refl) (inr m.1) m.2) ∙ all_has (λ other. same x other ≡ false) xs m.0 distinct.0 m.1),
  once_mapped make same xs distinct.1 (λ a b first second. tells a b (inr first) (inr second)),
)

-- ---- what is made of a list, with its members in another order

swap_map : {X Y : Type 0} (make : X → Y) (xs : List X) (i j : ℕ) → swap (map make xs) i j ≡ map make (swap xs i j)
swap_map make [] i j = refl
swap_map make (x ∷ xs) i j =
    let all = x ∷ xs in
    let at_i = get_or-map make all i x in
    let at_j = get_or-map make all j x in
    (λ t. set (set (map make all) i (at_j t)) j (at_i t)) ∙ (λ t. set (sym (map-set make all i (get_or all j x)) t) j (make (get_or all i x))) ∙ sym (map-set make (set all i (get_or all j x)) j (get_or all i x))

record MadeOf {X Y : Type 0} (make : X → Y) (xs : List X) (ys : List Y) : Type 0 where
  from : List X
  same : IsPermutation xs from
  is : ys ≡ map make from

made_of : {X Y : Type 0} (make : X → Y) (xs : List X) (ys : List Y) → IsPermutation (map make xs) ys → MadeOf make xs ys
made_of make xs = IsPermutation-keeps (map make xs) (MadeOf make xs) (record { from = xs; same = IsPermutation-refl xs; is = refl }) (λ ys i j low high made.
    let long : length ys ≡ length made.from = ap length made.is ∙ length-map made.from make in
    record {
      from = swap made.from i j;
      same = IsPermutation-trans xs made.from (swap made.from i j) made.same (IsPermutation-swap made.from (swap made.from i j) i j (omega (arith, long, low)) (omega (arith, long, high)) refl);
      is = ap (λ l. swap l i j) made.is ∙ swap_map make made.from i j;
    })

same_by_members : {X Y : Type 0} (make : X → Y) (xs ys : List X) → map make xs ≡ map make ys → ((x y : X) → Has xs x → Has ys y → make x ≡ make y → x ≡ y) → xs ≡ ys
same_by_members make [] [] is tells = refl
same_by_members make [] (y ∷ ys) is tells = absurd (let e = is in cc)
same_by_members make (x ∷ xs) [] is tells = absurd (let e = is in cc)
same_by_members make (x ∷ xs) (y ∷ ys) is tells =
    let first : make x ≡ make y = cc in
    let rest : map make xs ≡ map make ys = cc in
    λ i. tells x y (inl refl) (inl refl) first i ∷ same_by_members make xs ys rest (λ a b there also. tells a b (inr there) (inr also)) i

-- lists are permutations of one another if what is made of them is, and determines its members
pub unmapped : {X Y : Type 0} (make : X → Y) (xs ys : List X) → IsPermutation (map make xs) (map make ys) → ((x y : X) → Has xs x → Has ys y → make x ≡ make y → x ≡ y) → IsPermutation xs ys
unmapped make xs ys same tells =
    let made = made_of make xs (map make ys) same in
    let is : made.from ≡ ys = same_by_members make made.from ys (sym made.is) (λ x y there also. tells x y (has_permuted xs made.from x made.same there) also) in
    subst (IsPermutation xs) is made.same
