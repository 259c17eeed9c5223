-- What a chain collects whose closure says more of what it returns than its value.
use Rattle.std.proofs.Common.{◌≡◌, ℕ, zero, suc, ◌<◌, List, [], ◌∷◌, Option, Some, None, length, get_or, refl, sym, ap, ◌∙◌, subst, arith}
use Rattle.std.specs.Prelude.{map, option_map, IfSome}
use Rattle.std.specs.Option.{IsSomeAnd}
use Rattle.std.specs.List.{AllByRecursion as Each}

module _ {X Y : Type 0} (f : Y → X) (P : Y → Type 0) where
  -- what holds at each place of two lists of one length
  by_places : (xs : List X) (ys : List Y) → length ys ≡ length xs → ((k : ℕ) (x : X) (y : Y) → k < length xs → (f (get_or ys k y) ≡ get_or xs k x) × P (get_or ys k y)) → (map f ys ≡ xs) × Each P ys
  by_places [] [] long at = (refl, tt)
  by_places [] (y ∷ ys) long at = absurd (omega arith)
  by_places (x ∷ xs) [] long at = absurd (omega arith)
  by_places (x ∷ xs) (y ∷ ys) long at =
      let first = at zero x y (omega arith) in
      let rest = by_places xs ys (omega arith) (λ k a b below. at (suc k) a b (omega arith)) in
      (ap (λ z. z ∷ map f ys) first.0 ∙ ap (λ zs. x ∷ zs) rest.0, (first.1, rest.1))

  module _ {A : Type 0} (v : A → X) (Q : A → Y → Type 0) (gives : (a : A) (y : Y) → Q a y → (f y ≡ v a) × P y) where
    at_place : (o : Option A) (u : Option Y) (x : X) (y : Y) → option_map v o ≡ Some x → option_map (λ z. z) u ≡ Some y → IfSome o (λ a. IsSomeAnd u (Q a)) → (f y ≡ x) × P y
    at_place None u x y took gave related = absurd cc
    at_place (Some a) None x y took gave related = absurd cc
    at_place (Some a) (Some z) x y took gave related =
        let first : v a ≡ x = cc in
        let second : z ≡ y = cc in
        let holds = gives a z related in
        (ap f (sym second) ∙ holds.0 ∙ first, subst P second holds.1)

    -- took k is the item of the source at place k, and gave k what the closure returned for it
    pub collected : (xs : List X) (ys : List Y) (took : ℕ → Option A) (gave : ℕ → Option Y) → length ys ≡ length xs → ((k : ℕ) (x : X) → k < length xs → option_map v (took k) ≡ Some (get_or xs k x)) → ((k : ℕ) (y : Y) → k < length ys → option_map (λ z. z) (gave k) ≡ Some (get_or ys k y)) → ((k : ℕ) → IfSome (took k) (λ a. IsSomeAnd (gave k) (Q a))) → (map f ys ≡ xs) × Each P ys
    collected xs ys took gave long reads keeps related =
        by_places xs ys long (λ k x y below. at_place (took k) (gave k) (get_or xs k x) (get_or ys k y) (reads k x below) (keeps k y (omega arith)) (related k))
