-- What holds of each in a list.
use Rattle.std.proofs.Common.{◌≡◌, ℕ, ◌<◌, ◌≤◌, Bool, true, false, not, ◌||◌, List, [], ◌∷◌, ◌++◌, length, refl, arith, cond}
use Rattle.std.specs.Prelude.{filter}
use Rattle.std.specs.List.{list_any, AllByRecursion as Each, IsDistinct}
use Rattle.std.proofs.lemmas.List.Sums.{count_by-le-length, length-filter}

pub each_append : {X : Type 0} (P : X → Type 0) (xs ys : List X) → Each P xs → Each P ys → Each P (xs ++ ys)
each_append P [] ys h k = k
each_append P (x ∷ xs) ys h k = (h.0, each_append P xs ys h.1 k)

pub each_implies : {X : Type 0} (P Q : X → Type 0) → ((x : X) → P x → Q x) → (xs : List X) → Each P xs → Each Q xs
each_implies P Q more [] h = h
each_implies P Q more (x ∷ xs) h = (more x h.0, each_implies P Q more xs h.1)

each_kept : {X : Type 0} (P Q : X → Type 0) (x : X) (xs : List X) (b : Bool) → (b ≡ true → Q x) → Each Q xs → Each Q (cond b (x ∷ xs) xs)
each_kept P Q x xs true first others = (first refl, others)
each_kept P Q x xs false first others = others

-- what P and passing a test imply holds of each that passes
pub each_passing : {X : Type 0} (P Q : X → Type 0) (p : X → Bool) → ((x : X) → P x → p x ≡ true → Q x) → (xs : List X) → Each P xs → Each Q (filter p xs)
each_passing P Q p gives [] h = tt
each_passing P Q p gives (x ∷ xs) h = each_kept P Q x (filter p xs) (p x) (λ passes. gives x h.0 passes) (each_passing P Q p gives xs h.1)

-- what holds of each holds of those that pass a test
pub each_filtered : {X : Type 0} (P : X → Type 0) (p : X → Bool) (xs : List X) → Each P xs → Each P (filter p xs)
each_filtered P p xs h = each_passing P P p (λ x held passes. held) xs h

-- none of these passes
pub any_none : {X : Type 0} (p : X → Bool) (xs : List X) → Each (λ x. p x ≡ false) xs → list_any p xs ≡ false
any_none p [] h = refl
any_none p (x ∷ xs) h = simp h.0 (any_none p xs h.1)

neither : (b c : Bool) → (b || c) ≡ false → (b ≡ false) × (c ≡ false)
neither true c h = absurd cc
neither false c h = (refl, h)

-- if none passes, each fails
pub each_fails : {X : Type 0} (p : X → Bool) (xs : List X) → list_any p xs ≡ false → Each (λ x. p x ≡ false) xs
each_fails p [] h = tt
each_fails p (x ∷ xs) h =
    let both : (p x ≡ false) × (list_any p xs ≡ false) = neither (p x) (list_any p xs) h in
    (both.0, each_fails p xs both.1)

fails_by : {X : Type 0} (p : X → Bool) (x : X) (xs : List X) (b : Bool) → p x ≡ b → Each (λ y. p y ≡ false) xs → Each (λ y. p y ≡ false) (cond (not b) (x ∷ xs) xs)
fails_by p x xs true is others = others
fails_by p x xs false is others = (is, others)

-- what is left without those that pass fails
pub left_fail : {X : Type 0} (p : X → Bool) (xs : List X) → Each (λ y. p y ≡ false) (filter (λ y. not (p y)) xs)
left_fail p [] = tt
left_fail p (x ∷ xs) = fails_by p x (filter (λ y. not (p y)) xs) (p x) refl (left_fail p xs)

distinct_kept : {X : Type 0} (same : X → X → Bool) (x : X) (xs : List X) (b : Bool) → Each (λ y. same x y ≡ false) xs → IsDistinct same xs → IsDistinct same (cond b (x ∷ xs) xs)
unfolding IsDistinct
distinct_kept same x xs true first others = (first, others)
distinct_kept same x xs false first others = others

-- those that pass a test are still distinct
pub distinct_filtered : {X : Type 0} (same : X → X → Bool) (p : X → Bool) (xs : List X) → IsDistinct same xs → IsDistinct same (filter p xs)
unfolding IsDistinct
distinct_filtered same p [] h = h
distinct_filtered same p (x ∷ xs) h = distinct_kept same x (filter p xs) (p x) (each_filtered (λ y. same x y ≡ false) p xs h.0) (distinct_filtered same p xs h.1)

-- no more pass a test than there are
pub filtered_fit : {X : Type 0} (p : X → Bool) (xs : List X) (most : ℕ) → length xs ≤ most → length (filter p xs) ≤ most
filtered_fit p xs most h = omega (arith, length-filter p xs, count_by-le-length p xs)

one_less_by : {X : Type 0} (p : X → Bool) (x : X) (xs : List X) (b : Bool) → p x ≡ b → (list_any p xs ≡ true → length (filter (λ y. not (p y)) xs) < length xs) → (b || list_any p xs) ≡ true → length (cond (not b) (x ∷ filter (λ y. not (p y)) xs) (filter (λ y. not (p y)) xs)) < length (x ∷ xs)
one_less_by p x xs true is rest any = let h : length (filter (λ y. not (p y)) xs) ≤ length xs = filtered_fit (λ y. not (p y)) xs (length xs) (omega arith) in omega arith
one_less_by p x xs false is rest any = let h : length (filter (λ y. not (p y)) xs) < length xs = rest any in omega arith

-- at least one less is left without those that pass, if one passes
pub one_less : {X : Type 0} (p : X → Bool) (xs : List X) → list_any p xs ≡ true → length (filter (λ x. not (p x)) xs) < length xs
one_less p [] any = absurd cc
one_less p (x ∷ xs) any = one_less_by p x xs (p x) refl (one_less p xs) any
