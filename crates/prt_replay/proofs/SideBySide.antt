-- Lists side by side, and filters.
use Rattle.std.proofs.Common.{◌≡◌, ℕ, zero, suc, Bool, true, false, List, [], ◌∷◌, map, get_or, set, refl, sym, ap, ◌∙◌, cond}
use Rattle.std.specs.Prelude.{filter}
use Rattle.std.specs.List.{AllZip, AllByRecursion as Each}
use Rattle.std.proofs.lemmas.List.{map-set, set-get_or}

pub zip_set : {X Y : Type 0} (R : X → Y → Type 0) (xs : List X) (ys : List Y) (i : ℕ) (x : X) (y : Y) → R x y → AllZip R xs ys → AllZip R (set xs i x) (set ys i y)
zip_set R [] [] i x y here h = tt
zip_set R (a ∷ xs) (b ∷ ys) zero x y here h = (here, h.1)
zip_set R (a ∷ xs) (b ∷ ys) (suc i) x y here h = (h.0, zip_set R xs ys i x y here h.1)
zip_set R [] (b ∷ ys) i x y here h = absurd h
zip_set R (a ∷ xs) [] i x y here h = absurd h

pub zip_get : {X Y : Type 0} (R : X → Y → Type 0) (xs : List X) (ys : List Y) (i : ℕ) (x : X) (y : Y) → R x y → AllZip R xs ys → R (get_or xs i x) (get_or ys i y)
zip_get R [] [] i x y past h = past
zip_get R (a ∷ xs) (b ∷ ys) zero x y past h = h.0
zip_get R (a ∷ xs) (b ∷ ys) (suc i) x y past h = zip_get R xs ys i x y past h.1
zip_get R [] (b ∷ ys) i x y past h = absurd h
zip_get R (a ∷ xs) [] i x y past h = absurd h

all_pass_by : {X : Type 0} (p : X → Bool) (x : X) (xs kept : List X) (b : Bool) → b ≡ true → kept ≡ xs → cond b (x ∷ kept) kept ≡ x ∷ xs
all_pass_by p x xs kept true passes same = ap (λ ys. x ∷ ys) same
all_pass_by p x xs kept false passes same = absurd cc

-- a filter leaves those that all pass
pub all_pass : {X : Type 0} (p : X → Bool) (xs : List X) → Each (λ x. p x ≡ true) xs → filter p xs ≡ xs
all_pass p [] h = refl
all_pass p (x ∷ xs) h = all_pass_by p x xs (filter p xs) (p x) h.0 (all_pass p xs h.1)

none_pass_by : {X : Type 0} (x : X) (kept : List X) (b : Bool) → b ≡ false → kept ≡ [] → cond b (x ∷ kept) kept ≡ []
none_pass_by x kept true fails rest = absurd cc
none_pass_by x kept false fails rest = rest

pub none_pass : {X : Type 0} (p : X → Bool) (xs : List X) → Each (λ x. p x ≡ false) xs → filter p xs ≡ []
none_pass p [] h = refl
none_pass p (x ∷ xs) h = none_pass_by x (filter p xs) (p x) h.0 (none_pass p xs h.1)

-- an element in the place of one with the same value
pub map_set_same : {X Y : Type 0} (f : X → Y) (xs : List X) (i : ℕ) (x past : X) → f x ≡ f (get_or xs i past) → map f (set xs i x) ≡ map f xs
map_set_same f xs i x past same = map-set f xs i x ∙ ap (set (map f xs) i) same ∙ sym (map-set f xs i (get_or xs i past)) ∙ ap (map f) (set-get_or xs i past)
