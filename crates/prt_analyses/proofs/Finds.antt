-- What searches find, and at which places.
use Rattle.std.proofs.Common.{◌≡◌, ◌⊎◌, inl, inr, ℕ, zero, suc, ◌<◌, Bool, true, false, ◌&&◌, cond, List, [], ◌∷◌, ◌++◌, Option, Some, None, length, get_or, refl, sym, ap, ◌∙◌, subst, arith, find, ltb}
use Rattle.std.specs.Prelude.{filter, option_map, slice_get}
use Rattle.std.specs.List.{position, position_or_len, AllByRecursion as Each}
use Rattle.std.specs.Option.{option_or}
use Rattle.std.proofs.lemmas.Bool.{lt-ltb, ltb-false}
use Rattle.std.proofs.lemmas.Bool.Decides.{nat_tests}
use Rattle.std.proofs.lemmas.List.Elements.{All-from_recursion}
use Rattle.std.proofs.lemmas.List.Folds.{find_at}
use Rattle.std.proofs.lemmas.List.Quantifiers.{position-Some}
use Rattle.std.proofs.lemmas.List.Sums.{position_or_len_is}
use Rattle.std.proofs.lemmas.Option.{slice_get-get_or, slice_get_past}
use Rattle.prt_addr.specs.Rising.{IsRising}
use Rattle.prt_addr.specs.Word.{keep}
use Rattle.prt_partition.proofs.Starts.{IsIn}

-- ---- what is found

found_by : {X : Type 0} (p : X → Bool) (y x : X) (ys : List X) (found : Option X) (b : Bool) → p y ≡ b → (found ≡ Some x → (p x ≡ true) × IsIn x ys) → cond b (Some y) found ≡ Some x → (p x ≡ true) × IsIn x (y ∷ ys)
found_by p y x ys found true passes others is = let same : y ≡ x = cc in (subst (λ z. p z ≡ true) same passes, inl (sym same))
found_by p y x ys found false passes others is = let rest : (p x ≡ true) × IsIn x ys = others is in (rest.0, inr rest.1)

-- what is found passes, and is one of these
pub found : {X : Type 0} (p : X → Bool) (xs : List X) (x : X) → find p xs ≡ Some x → (p x ≡ true) × IsIn x xs
found p [] x is = absurd cc
found p (y ∷ ys) x is = found_by p y x ys (find p ys) (p y) refl (found p ys x) is

filtered_by : {X : Type 0} (p : X → Bool) (x y : X) (ys : List X) (b : Bool) → p y ≡ b → (IsIn x (filter p ys) → IsIn x ys × (p x ≡ true)) → IsIn x (cond b (y ∷ filter p ys) (filter p ys)) → IsIn x (y ∷ ys) × (p x ≡ true)
filtered_by p x y ys true passes others (inl is) = (inl is, ap p is ∙ passes)
filtered_by p x y ys true passes others (inr h) = let rest : IsIn x ys × (p x ≡ true) = others h in (inr rest.0, rest.1)
filtered_by p x y ys false passes others h = let rest : IsIn x ys × (p x ≡ true) = others h in (inr rest.0, rest.1)

-- one of those that pass is one of all, and passes
pub filtered : {X : Type 0} (p : X → Bool) (x : X) (xs : List X) → IsIn x (filter p xs) → IsIn x xs × (p x ≡ true)
filtered p x [] h = absurd h
filtered p x (y ∷ ys) h = filtered_by p x y ys (p y) refl (filtered p x ys) h

kept_by : {X : Type 0} (p : X → Bool) (y x : X) (b : Bool) → p y ≡ b → cond b (Some y) None ≡ Some x → (Some y ≡ Some x) × (p x ≡ true)
kept_by p y x true e is = let same : y ≡ x = cc in (is, subst (λ z. p z ≡ true) same e)
kept_by p y x false e is = absurd cc

pub kept : {X : Type 0} (p : X → Bool) (o : Option X) (x : X) → keep p o ≡ Some x → (o ≡ Some x) × (p x ≡ true)
kept p None x is = absurd cc
kept p (Some y) x is = kept_by p y x (p y) refl is

pub mapped : {X Y : Type 0} (f : X → Y) (o : Option X) (y : Y) → option_map f o ≡ Some y → (x : X) × (o ≡ Some x) × (f x ≡ y)
mapped f None y is = absurd cc
mapped f (Some x) y is = (x, refl, cc)

pub both_true : (a b : Bool) → (a && b) ≡ true → (a ≡ true) × (b ≡ true)
both_true true b h = (refl, h)
both_true false b h = absurd cc

-- ---- two tests

same_by : {X : Type 0} (p q : X → Bool) (y : X) (ys : List X) (b : Bool) → p y ≡ b → find p ys ≡ find q ys → p y ≡ q y → cond b (Some y) (find p ys) ≡ cond (q y) (Some y) (find q ys)
same_by p q y ys b e rest same = ap (λ o. cond b (Some y) o) rest ∙ ap (λ c. cond c (Some y) (find q ys)) (sym e ∙ same)

-- tests that agree on each find the same
pub find_same_tests : {X : Type 0} (p q : X → Bool) (xs : List X) → Each (λ x. p x ≡ q x) xs → find p xs ≡ find q xs
find_same_tests p q [] h = refl
find_same_tests p q (y ∷ ys) h = same_by p q y ys (p y) refl (find_same_tests p q ys h.1) h.0

-- a narrower test that what is found passes finds it too
pub find_narrower : {X : Type 0} (p q : X → Bool) (xs : List X) (x : X) → ((y : X) → q y ≡ true → p y ≡ true) → q x ≡ true → find p xs ≡ Some x → find q xs ≡ Some x
find_narrower p q [] x wider passes is = absurd cc
find_narrower p q (y ∷ ys) x wider passes is = by (find_narrower p q ys x wider passes) (p y) (q y) refl refl is
  where
    by : (find p ys ≡ Some x → find q ys ≡ Some x) → (b c : Bool) → p y ≡ b → q y ≡ c → cond b (Some y) (find p ys) ≡ Some x → cond c (Some y) (find q ys) ≡ Some x
    by later true true e f is = is
    by later true false e f is = absurd (let same : y ≡ x = cc in let g : false ≡ true = sym f ∙ ap q same ∙ passes in cc)
    by later false true e f is = absurd (let g : false ≡ true = sym e ∙ wider y f in cc)
    by later false false e f is = later is

-- ---- places

-- the first that passes is at k
pub position_at : {X : Type 0} (p : X → Bool) (xs : List X) (k : ℕ) (d : X) → k < length xs → p (get_or xs k d) ≡ true → ((j : ℕ) → j < k → p (get_or xs j d) ≡ false) → position p xs ≡ Some k
position_at p xs k d inside passes others =
    let at : position_or_len p xs ≡ k = position_or_len_is p xs k d (omega arith) others (λ _. passes) in
    ap (λ n. cond (ltb n (length xs)) (Some n) None) at ∙ ap (λ b. cond b (Some k) None) (lt-ltb k (length xs) inside)

-- what is at the first place that passes is found
pub place_finds : {X : Type 0} (p : X → Bool) (xs : List X) (k : ℕ) (d : X) → position p xs ≡ Some k → find p xs ≡ Some (get_or xs k d)
place_finds p xs k d is =
    let at = position-Some p xs k d is in
    let same : position_or_len p xs ≡ k = position_or_len_is p xs k d (omega (arith, at.0)) at.2 (λ _. at.1) in
    find_at p xs ∙ ap (slice_get xs) same ∙ slice_get-get_or xs k d at.0

-- what is found is at the first place that passes
pub find_places : {X : Type 0} (p : X → Bool) (xs : List X) (x : X) → find p xs ≡ Some x → (k : ℕ) × (k < length xs) × (position p xs ≡ Some k) × (get_or xs k x ≡ x)
find_places p xs x is = by (position p xs) refl
  where
    by : (o : Option ℕ) → position p xs ≡ o → (k : ℕ) × (k < length xs) × (position p xs ≡ Some k) × (get_or xs k x ≡ x)
    by (Some k) at = let f : Some x ≡ Some (get_or xs k x) = sym is ∙ place_finds p xs k x at in (k, (position-Some p xs k x at).0, at, cc)
    by None at = absurd (none_at (ltb (position_or_len p xs) (length xs)) refl at)
      where
        none_at : (b : Bool) → ltb (position_or_len p xs) (length xs) ≡ b → cond b (Some (position_or_len p xs)) None ≡ None → ⊥
        none_at true e f = absurd cc
        none_at false e f = let g : slice_get xs (position_or_len p xs) ≡ None = slice_get_past xs (position_or_len p xs) (ltb-false (position_or_len p xs) (length xs) e) in absurd (let h : None ≡ Some x = sym g ∙ sym (find_at p xs) ∙ is in cc)

-- ---- lists that rise

-- each comes before each later one
pub rising_at : {X : Type 0} (before : X → X → Bool) (xs : List X) (i j : ℕ) (d : X) → IsRising before xs → i < j → j < length xs → before (get_or xs i d) (get_or xs j d) ≡ true
rising_at before [] i j d rising below inside = absurd (omega arith)
rising_at before (x ∷ xs) zero zero d rising below inside = absurd (omega arith)
rising_at before (x ∷ xs) zero (suc j) d rising below inside = All-from_recursion (λ other. before x other ≡ true) xs rising.0 j d (omega arith)
rising_at before (x ∷ xs) (suc i) zero d rising below inside = absurd (omega arith)
rising_at before (x ∷ xs) (suc i) (suc j) d rising below inside = rising_at before xs i j d rising.1 (omega arith) (omega arith)

ordered : (i j : ℕ) → (i < j) ⊎ ((i ≡ j) ⊎ (j < i))
ordered i j = grind (arith, nat_tests)

-- so if no two are alike of which one comes before the other, what is alike is at one place
pub once : {X : Type 0} (before alike : X → X → Bool) → ((x y : X) → before x y ≡ true → (alike x y ≡ false) × (alike y x ≡ false)) → (xs : List X) (i j : ℕ) (d : X) → IsRising before xs → i < length xs → j < length xs → alike (get_or xs i d) (get_or xs j d) ≡ true → i ≡ j
once before alike differ xs i j d rising first second same = by (ordered i j)
  where
    by : (i < j) ⊎ ((i ≡ j) ⊎ (j < i)) → i ≡ j
    by (inl below) = absurd (let f : false ≡ true = sym (differ _ _ (rising_at before xs i j d rising below second)).0 ∙ same in cc)
    by (inr (inl is)) = is
    by (inr (inr above)) = absurd (let f : false ≡ true = sym (differ _ _ (rising_at before xs j i d rising above first)).1 ∙ same in cc)

-- ---- two lists one after the other

append_by : {X : Type 0} (p : X → Bool) (x : X) (xs ys : List X) (b : Bool) → find p (xs ++ ys) ≡ option_or (find p xs) (find p ys) → cond b (Some x) (find p (xs ++ ys)) ≡ option_or (cond b (Some x) (find p xs)) (find p ys)
append_by p x xs ys true later = refl
append_by p x xs ys false later = later

pub find_append : {X : Type 0} (p : X → Bool) (xs ys : List X) → find p (xs ++ ys) ≡ option_or (find p xs) (find p ys)
find_append p [] ys = refl
find_append p (x ∷ xs) ys = append_by p x xs ys (p x) (find_append p xs ys)

fails_by : {X : Type 0} (p : X → Bool) (x : X) (xs : List X) (b : Bool) → p x ≡ b → (find p xs ≡ None → Each (λ y. p y ≡ false) xs) → cond b (Some x) (find p xs) ≡ None → Each (λ y. p y ≡ false) (x ∷ xs)
fails_by p x xs true e later none = absurd cc
fails_by p x xs false e later none = (e, later none)

-- if nothing is found, none passes
pub none_found : {X : Type 0} (p : X → Bool) (xs : List X) → find p xs ≡ None → Each (λ x. p x ≡ false) xs
none_found p [] none = tt
none_found p (x ∷ xs) none = fails_by p x xs (p x) refl (none_found p xs) none
