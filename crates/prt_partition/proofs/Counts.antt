-- How many in a list pass a test.
use Rattle.std.proofs.Common.{◌≡◌, ◌+◌, Bool, true, false, ◌&&◌, cond, List, [], ◌∷◌, ◌++◌, refl, sym, ap, ◌∙◌, ⊎_elim}
use Rattle.std.specs.Prelude.{count_by, flat_map, map}
use Rattle.std.specs.List.{list_any, AllByRecursion as Each}
use Rattle.std.proofs.lemmas.Bool.{cases_Bool}
use Rattle.std.proofs.lemmas.List.Sums.{sum_by-append, sum_by-cons}
use Rattle.prt_addr.proofs.Each.{each_fails}

pub count_cons : {X : Type 0} (p : X → Bool) (x : X) (xs : List X) → count_by p (x ∷ xs) ≡ cond (p x) 1 0 + count_by p xs
count_cons p x xs = sum_by-cons (λ x. cond (p x) 1 0) x xs

pub count_append : {X : Type 0} (p : X → Bool) (xs ys : List X) → count_by p (xs ++ ys) ≡ count_by p xs + count_by p ys
count_append p xs ys = sum_by-append (λ x. cond (p x) 1 0) xs ys

pub count_none : {X : Type 0} (p : X → Bool) (xs : List X) → Each (λ x. p x ≡ false) xs → count_by p xs ≡ 0
count_none p [] h = refl
count_none p (x ∷ xs) h = count_cons p x xs ∙ ap (λ b. cond b 1 0 + count_by p xs) h.0 ∙ ap (λ n. 0 + n) (count_none p xs h.1)

-- tests that agree on each
pub count_same : {X : Type 0} (p q : X → Bool) (xs : List X) → Each (λ x. p x ≡ q x) xs → count_by p xs ≡ count_by q xs
count_same p q [] h = refl
count_same p q (x ∷ xs) h =
    count_cons p x xs ∙ ap (λ b. cond b 1 0 + count_by p xs) h.0 ∙ ap (λ n. cond (q x) 1 0 + n) (count_same p q xs h.1) ∙ sym (count_cons q x xs)

false_each : {X : Type 0} (xs : List X) → Each (λ x. false ≡ false) xs
false_each [] = tt
false_each (x ∷ xs) = (refl, false_each xs)

-- a test that all fail, or another one
pub count_and : {X : Type 0} (b : Bool) (p : X → Bool) (xs : List X) → count_by (λ x. b && p x) xs ≡ cond b (count_by p xs) 0
count_and true p xs = refl
count_and false p xs = count_none (λ x. false) xs (false_each xs)

pub count_map : {X Y : Type 0} (p : Y → Bool) (f : X → Y) (xs : List X) → count_by p (map f xs) ≡ count_by (λ x. p (f x)) xs
count_map p f [] = refl
count_map p f (x ∷ xs) = count_cons p (f x) (map f xs) ∙ ap (λ n. cond (p (f x)) 1 0 + n) (count_map p f xs) ∙ sym (count_cons (λ x. p (f x)) x xs)

-- one of each list whose maker passes
pub count_flat : {X Y : Type 0} (test : X → Bool) (p : Y → Bool) (f : X → List Y) (xs : List X) → Each (λ x. count_by p (f x) ≡ cond (test x) 1 0) xs → count_by p (flat_map f xs) ≡ count_by test xs
count_flat test p f [] h = refl
count_flat test p f (x ∷ xs) h =
    count_append p (f x) (flat_map f xs) ∙ ap (λ n. n + count_by p (flat_map f xs)) h.0 ∙ ap (λ n. cond (test x) 1 0 + n) (count_flat test p f xs h.1) ∙ sym (count_cons test x xs)

-- one passes, so some does
pub any_counted : {X : Type 0} (p : X → Bool) (xs : List X) → count_by p xs ≡ 1 → list_any p xs ≡ true
any_counted p xs one =
    ⊎_elim
    (λ (e : list_any p xs ≡ true). e)
    (λ (e : list_any p xs ≡ false). let none : count_by p xs ≡ 0 = count_none p xs (each_fails p xs e) in let f : 0 ≡ 1 = sym none ∙ one in absurd cc)
    (cases_Bool (list_any p xs))
