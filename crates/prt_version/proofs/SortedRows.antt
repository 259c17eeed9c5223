-- Lists that are sorted: in which each comes before the next, and no two are the same.
use Rattle.std.proofs.Common.{◌≡◌, ℕ, zero, suc, ◌+◌, ◌<◌, ◌≤◌, Bool, true, false, not, List, [], ◌∷◌, ◌++◌, length, get_or, refl, sym, ap, ◌∙◌, subst, arith}
use Rattle.std.specs.Prelude.{IsSortedBy}
use Rattle.std.specs.Bool.{Decides, OnTrue}
use Rattle.std.specs.Cmp.{IsStrictWeakOrder}
use Rattle.std.specs.List.{AllByRecursion as Each, IsAllAdjacentAnswer, IsDistinct}
use Rattle.std.proofs.lemmas.List.Elements.{All-from_recursion}
use Rattle.std.proofs.lemmas.Map.Keys.{apart_from_distinct}
use Rattle.prt_addr.specs.Rising.{IsRising}
use Rattle.prt_addr.proofs.Each.{each_append, each_implies}
use Rattle.prt_addr.proofs.Orders.{through}

next_of : (k : ℕ) → suc k + 1 ≡ suc (k + 1)
next_of k = omega arith

pub each_parts : {X : Type 0} (P : X → Type 0) (xs ys : List X) → Each P (xs ++ ys) → Each P xs × Each P ys
each_parts P [] ys h = (tt, h)
each_parts P (x ∷ xs) ys h = let rest : Each P xs × Each P ys = each_parts P xs ys h.1 in ((h.0, rest.0), rest.1)

module _ {X : Type 0} (before : X → X → Bool) where
  -- if each comes before the next, each comes before all those after it
  rises_from : IsStrictWeakOrder before → (xs : List X) → ((k : ℕ) (d : X) → k + 1 < length xs → before (get_or xs k d) (get_or xs (k + 1) d) ≡ true) → IsRising before xs
  rises_from order [] steps = tt
  rises_from order (x ∷ []) steps = (tt, tt)
  rises_from order (x ∷ (y ∷ ys)) steps =
      let rest : IsRising before (y ∷ ys) = rises_from order (y ∷ ys) (λ k d inside. subst (λ n. before (get_or (y ∷ ys) k d) (get_or (x ∷ (y ∷ ys)) n d) ≡ true) (next_of k) (steps (suc k) d (omega arith))) in
      let first : before x y ≡ true = steps zero x (omega arith) in
      ((first, each_implies (λ other. before y other ≡ true) (λ other. before x other ≡ true) (λ other h. through before order x y other first h) ys rest.0), rest)

  pub rising_apart : (same : X → X → Bool) → ((x y : X) → before x y ≡ true → same x y ≡ false) → (xs : List X) → IsRising before xs → IsDistinct same xs
  unfolding IsDistinct
  rising_apart same differ [] rises = tt
  rising_apart same differ (x ∷ xs) rises = (each_implies (λ other. before x other ≡ true) (λ other. same x other ≡ false) (differ x) xs rises.0, rising_apart same differ xs rises.1)

  -- the test of each and the next decides whether the list rises
  pub adjacent_decide : IsStrictWeakOrder before → (xs : List X) (b : Bool) → IsAllAdjacentAnswer (λ x y answer. answer ≡ before x y) xs b → Decides b (IsRising before xs)
  adjacent_decide order xs true told = (λ yes. rises_from order xs (λ k d inside. sym (told k d inside)), λ rises. refl)
  adjacent_decide order [] false told = (λ no. absurd cc, λ rises. absurd (omega arith))
  adjacent_decide order (x ∷ xs) false told = (
    λ no. absurd cc,
    λ rises.
        let apart : not (before (get_or (x ∷ xs) told.0 x) (get_or (x ∷ xs) (told.0 + 1) x)) ≡ false = apart_from_distinct (λ a b. not (before a b)) (x ∷ xs) told.0 (told.0 + 1) x (rising_apart (λ a b. not (before a b)) (λ a b h. ap not h) (x ∷ xs) rises) (omega arith) told.1 in
        sym (ap not (told.2 x) ∙ apart),
  )

  -- one that all others come before goes to the end
  pub rising_push : (xs : List X) (x : X) → IsRising before xs → Each (λ y. before y x ≡ true) xs → IsRising before (xs ++ x ∷ [])
  rising_push [] x rises first = (tt, tt)
  rising_push (y ∷ ys) x rises first = (each_append (λ z. before y z ≡ true) ys (x ∷ []) rises.0 (first.0, tt), rising_push ys x rises.1 first.1)

  -- the two parts of a list that rises
  pub rising_parts : (xs ys : List X) → IsRising before (xs ++ ys) → IsRising before xs × IsRising before ys
  rising_parts [] ys rises = (tt, rises)
  rising_parts (x ∷ xs) ys rises =
      let rest : IsRising before xs × IsRising before ys = rising_parts xs ys rises.1 in
      (((each_parts (λ z. before x z ≡ true) xs ys rises.0).0, rest.0), rest.1)

  -- a number that doesn't fall from one to one that it comes before doesn't fall along the list
  pub rising_numbers : (n : X → ℕ) → ((x y : X) → before x y ≡ true → n x ≤ n y) → (xs : List X) → IsRising before xs → (i j : ℕ) (d : X) → i ≤ j → j < length xs → n (get_or xs i d) ≤ n (get_or xs j d)
  rising_numbers n more [] rises i j d le inside = absurd (omega arith)
  rising_numbers n more (x ∷ xs) rises zero zero d le inside = omega arith
  rising_numbers n more (x ∷ xs) rises zero (suc j) d le inside = more x (get_or xs j d) (All-from_recursion (λ other. before x other ≡ true) xs rises.0 j d (omega arith))
  rising_numbers n more (x ∷ xs) rises (suc i) zero d le inside = absurd (omega arith)
  rising_numbers n more (x ∷ xs) rises (suc i) (suc j) d le inside = rising_numbers n more xs rises.1 i j d (omega arith) (omega arith)

module _ {X : Type 0} (before same : X → X → Bool) (order : IsStrictWeakOrder before) where
  -- of two that are not the same one comes before the other
  pub sorted_rises : ((x y : X) → before y x ≡ false → same x y ≡ false → before x y ≡ true) → (xs : List X) → IsSortedBy before xs → IsDistinct same xs → IsRising before xs
  sorted_rises either xs sorted distinct =
      rises_from before order xs (λ k d inside. either (get_or xs k d) (get_or xs (k + 1) d) (sorted k d (omega arith) inside) (apart_from_distinct same xs k (k + 1) d distinct (omega arith) inside))

  -- so the test of each and the next decides of a sorted list whether no two in it are the same
  pub distinct_decided : ((x y : X) → before y x ≡ false → same x y ≡ false → before x y ≡ true) → ((x y : X) → before x y ≡ true → same x y ≡ false) → (xs seen : List X) (b : Bool) → seen ≡ xs → IsSortedBy before xs → IsAllAdjacentAnswer (λ x y answer. answer ≡ before x y) seen b → Decides b (IsDistinct same xs)
  distinct_decided either differ xs seen b are sorted told =
      let decides : Decides b (IsRising before xs) = adjacent_decide before order xs b (subst (λ ys. IsAllAdjacentAnswer (λ x y answer. answer ≡ before x y) ys b) are told) in
      (λ yes. rising_apart before same differ xs (decides.0 yes), λ distinct. decides.1 (sorted_rises either xs sorted distinct))

module _ {X : Type 0} (before : X → X → Bool) (order : IsStrictWeakOrder before) where
  pub rises_if : (xs seen : List X) (b : Bool) → seen ≡ xs → IsAllAdjacentAnswer (λ x y answer. answer ≡ before x y) seen b → OnTrue b (IsRising before xs)
  rises_if xs seen true are told = (adjacent_decide before order xs true (subst (λ ys. IsAllAdjacentAnswer (λ x y answer. answer ≡ before x y) ys true) are told)).0 refl
  rises_if xs seen false are told = tt
