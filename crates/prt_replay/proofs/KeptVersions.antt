-- Versions that are kept, and prefixes of the accepted commands.
use Rattle.std.proofs.Common.{◌≡◌, ℕ, zero, suc, ◌<◌, ◌≤◌, Bool, true, false, List, [], ◌∷◌, ◌++◌, Option, Some, None, length, take, get_or, set, replicate, refl, ap, ◌∙◌, subst, arith, cond}
use Rattle.std.specs.Prelude.{◌==◌, filter, find, slice_get}
use Rattle.std.specs.List.{AllByRecursion as Each}
use Rattle.std.specs.Option.{option_or}
use Rattle.std.proofs.lemmas.Bool.Decides.{nat_tests, Decides-eqb}
use Rattle.std.proofs.lemmas.List.Folds.{find-append}
use Rattle.prt_version.specs.State.{State}
use Rattle.prt_replay.specs.World.{kept}

-- ---- elements of lists

pub each_set : {X : Type 0} (P : X → Type 0) (xs : List X) (i : ℕ) (x : X) → P x → Each P xs → Each P (set xs i x)
each_set P [] i x here h = tt
each_set P (y ∷ xs) zero x here h = (here, h.1)
each_set P (y ∷ xs) (suc i) x here h = (h.0, each_set P xs i x here h.1)

pub each_get : {X : Type 0} (P : X → Type 0) (xs : List X) (i : ℕ) (d : X) → P d → Each P xs → P (get_or xs i d)
each_get P [] i d past h = past
each_get P (y ∷ xs) zero d past h = h.0
each_get P (y ∷ xs) (suc i) d past h = each_get P xs i d past h.1

pub each_replicate : {X : Type 0} (P : X → Type 0) (n : ℕ) (x : X) → P x → Each P (replicate n x)
each_replicate P zero x here = tt
each_replicate P (suc n) x here = (here, each_replicate P n x here)

-- the first elements are those of any prefix that is long enough
pub slice_get-take : {X : Type 0} (n : ℕ) (xs : List X) (i : ℕ) → i < n → slice_get (take n xs) i ≡ slice_get xs i
slice_get-take zero xs i h = absurd (omega arith)
slice_get-take (suc n) [] i h = refl
slice_get-take (suc n) (x ∷ xs) zero h = refl
slice_get-take (suc n) (x ∷ xs) (suc i) h = slice_get-take n xs i (omega arith)

-- the first element after others
pub slice_get-middle : {X : Type 0} (xs : List X) (x : X) (ys : List X) → slice_get (xs ++ x ∷ ys) (length xs) ≡ Some x
slice_get-middle [] x ys = refl
slice_get-middle (y ∷ xs) x ys = slice_get-middle xs x ys

-- ---- the version of a number

found_by : {X : Type 0} (p : X → Bool) (y x : X) (rest : Option X) (b : Bool) → p y ≡ b → (rest ≡ Some x → p x ≡ true) → cond b (Some y) rest ≡ Some x → p x ≡ true
found_by p y x rest true passes later h = let same : y ≡ x = cc in subst (λ z. p z ≡ true) same passes
found_by p y x rest false passes later h = later h

-- what is found passes
pub found_passes : {X : Type 0} (p : X → Bool) (xs : List X) (x : X) → find p xs ≡ Some x → p x ≡ true
found_passes p [] x h = absurd cc
found_passes p (y ∷ xs) x h = found_by p y x (find p xs) (p y) refl (found_passes p xs x) h

pub is_number : (n m : ℕ) → n == m ≡ true → n ≡ m
is_number n m h = (Decides-eqb n m).0 h

pub same_number : (n m : ℕ) → n ≡ m → n == m ≡ true
same_number n m h = (Decides-eqb n m).1 h

-- the version of a number has it
pub kept_count : (versions : List State) (number : ℕ) (state : State) → kept versions number ≡ Some state → state.count ≡ number
kept_count versions number state h = is_number state.count number (found_passes (λ state. state.count == number) versions state h)

-- one version more leaves those that are kept
pub kept_before : (versions : List State) (state more : State) (number : ℕ) → kept versions number ≡ Some state → kept (versions ++ more ∷ []) number ≡ Some state
kept_before versions state more number h = find-append (λ state. state.count == number) versions (more ∷ []) ∙ ap (λ found. option_or found (kept (more ∷ []) number)) h

pub other_number : (count top number : ℕ) → count ≤ top → top < number → count == number ≡ false
other_number count top number low high = grind (arith, nat_tests)

missing_by : (state : State) (versions : List State) (number : ℕ) (b : Bool) → b ≡ false → kept versions number ≡ None → cond b (Some state) (kept versions number) ≡ None
missing_by state versions number true h rest = absurd cc
missing_by state versions number false h rest = rest

-- a number above all others is not there
kept_above : (versions : List State) (top number : ℕ) → top < number → Each (λ state. state.count ≤ top) versions → kept versions number ≡ None
kept_above [] top number above low = refl
kept_above (state ∷ versions) top number above low = missing_by state versions number (state.count == number) (other_number state.count top number low.0 above) (kept_above versions top number above low.1)

-- a version above all others is the one of its number
pub kept_new : (versions : List State) (top : ℕ) (more : State) → top < more.count → Each (λ state. state.count ≤ top) versions → kept (versions ++ more ∷ []) more.count ≡ Some more
kept_new versions top more above low =
    find-append (λ state. state.count == more.count) versions (more ∷ [])
    ∙ ap (λ found. option_or found (kept (more ∷ []) more.count)) (kept_above versions top more.count above low)
    ∙ ap (λ b. cond b (Some more) None) (same_number more.count more.count refl)

pub kept_alone : (state : State) → kept (state ∷ []) state.count ≡ Some state
kept_alone state = ap (λ b. cond b (Some state) None) (same_number state.count state.count refl)

filtered_by : (q : ℕ → Bool) (state : State) (versions : List State) (number : ℕ) (b c : Bool) → state.count == number ≡ b → q state.count ≡ c → q number ≡ true → kept (filter (λ state. q state.count) versions) number ≡ kept versions number → kept (cond c (state ∷ filter (λ state. q state.count) versions) (filter (λ state. q state.count) versions)) number ≡ cond b (Some state) (kept versions number)
filtered_by q state versions number b true is passes wanted rest = ap (λ x. cond x (Some state) (kept (filter (λ state. q state.count) versions) number)) is ∙ ap (λ found. cond b (Some state) found) rest
filtered_by q state versions number true false is passes wanted rest = let same : state.count ≡ number = is_number state.count number is in let here : q state.count ≡ true = ap q same ∙ wanted in absurd (cc)
filtered_by q state versions number false false is passes wanted rest = rest

-- the version of a number that passes a test is kept among those that pass it
pub kept_filtered : (q : ℕ → Bool) (versions : List State) (number : ℕ) → q number ≡ true → kept (filter (λ state. q state.count) versions) number ≡ kept versions number
kept_filtered q [] number wanted = refl
kept_filtered q (state ∷ versions) number wanted = filtered_by q state versions number (state.count == number) (q state.count) refl refl wanted (kept_filtered q versions number wanted)
