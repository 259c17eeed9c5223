-- What is in a list, and what a filter or an insert leaves of it.
use Rattle.std.proofs.Common.{◌≡◌, ◌⊎◌, inl, inr, Bool, true, false, not, ◌||◌, ◌&&◌, List, [], ◌∷◌, ◌++◌, refl, sym, ap, ◌∙◌, subst, cond}
use Rattle.std.specs.Prelude.{filter}
use Rattle.std.specs.List.{Contains, list_any, AllByRecursion as Each, IsDistinct}
use Rattle.std.proofs.lemmas.List.Elements.{All-from_recursion, All-contains, Contains-get_or, filter_passes, recursion_from_All}
use Rattle.prt_addr.specs.Order.{insert_by}
use Rattle.prt_addr.proofs.Each.{each_implies}

pub each_both : {X : Type 0} (P Q R : X → Type 0) → ((x : X) → P x → Q x → R x) → (xs : List X) → Each P xs → Each Q xs → Each R xs
each_both P Q R gives [] p q = tt
each_both P Q R gives (x ∷ xs) p q = (gives x p.0 q.0, each_both P Q R gives xs p.1 q.1)

pub each_split : {X : Type 0} (P : X → Type 0) (xs ys : List X) → Each P (xs ++ ys) → Each P xs × Each P ys
each_split P [] ys h = (tt, h)
each_split P (x ∷ xs) ys h = let rest = each_split P xs ys h.1 in ((h.0, rest.0), rest.1)

pub each_of : {X : Type 0} (P : X → Type 0) → ((x : X) → P x) → (xs : List X) → Each P xs
each_of P holds [] = tt
each_of P holds (x ∷ xs) = (holds x, each_of P holds xs)

pub differ : {A : Type 0} → true ≡ false → A
differ h = absurd (let n : true ≡ false = h in cc)

pub negated : (b : Bool) → not b ≡ true → b ≡ false
negated true is = differ (sym is)
negated false is = refl

pub either : (b : Bool) → (b ≡ true) ⊎ (b ≡ false)
either true = inl refl
either false = inr refl

pub false_by : (b : Bool) → (b ≡ true → ⊥) → b ≡ false
false_by true never = absurd (never refl)
false_by false never = refl

-- ---- members

-- one of these is x
abbrev pub IsIn : {X : Type 0} → X → List X → Type 0
IsIn x [] = ⊥
IsIn x (y ∷ ys) = (x ≡ y) ⊎ IsIn x ys

pub each_in : {X : Type 0} (P : X → Type 0) (x : X) (xs : List X) → Each P xs → IsIn x xs → P x
each_in P x [] all h = absurd h
each_in P x (y ∷ ys) all (inl is) = subst P (sym is) all.0
each_in P x (y ∷ ys) all (inr h) = each_in P x ys all.1 h

pub each_itself : {X : Type 0} (xs : List X) → Each (λ x. IsIn x xs) xs
each_itself xs = among xs xs (λ x h. h)
  where
    among : {X : Type 0} (all xs : List X) → ((x : X) → IsIn x xs → IsIn x all) → Each (λ x. IsIn x all) xs
    among all [] within = tt
    among all (x ∷ xs) within = (within x (inl refl), among all xs (λ y h. within y (inr h)))

pub each_if : {X : Type 0} (P : X → Type 0) (xs : List X) → ((x : X) → IsIn x xs → P x) → Each P xs
each_if P xs gives = each_implies (λ x. IsIn x xs) P gives xs (each_itself xs)

pub in_contains : {X : Type 0} (x : X) (xs : List X) → IsIn x xs → Contains xs x
in_contains x xs h = each_in (Contains xs) x xs (recursion_from_All (Contains xs) xs (λ k d inside. Contains-get_or xs k d inside)) h

pub contains_in : {X : Type 0} (x : X) (xs : List X) → Contains xs x → IsIn x xs
contains_in x xs h = All-contains (λ x. IsIn x xs) xs x (All-from_recursion (λ x. IsIn x xs) xs (each_itself xs)) h

pub in_left : {X : Type 0} (x : X) (xs ys : List X) → IsIn x xs → IsIn x (xs ++ ys)
in_left x [] ys h = absurd h
in_left x (y ∷ xs) ys (inl is) = inl is
in_left x (y ∷ xs) ys (inr h) = inr (in_left x xs ys h)

pub in_right : {X : Type 0} (x : X) (xs ys : List X) → IsIn x ys → IsIn x (xs ++ ys)
in_right x [] ys h = h
in_right x (y ∷ xs) ys h = inr (in_right x xs ys h)

pub in_either : {X : Type 0} (x : X) (xs ys : List X) → IsIn x (xs ++ ys) → IsIn x xs ⊎ IsIn x ys
in_either x [] ys h = inr h
in_either x (y ∷ xs) ys (inl is) = inl (inl is)
in_either x (y ∷ xs) ys (inr h) = elim (in_either x xs ys h) [ inl a ↦ inl (inr a) | inr b ↦ inr b ]

-- the lists before and after a member
pub record Parts {X : Type 0} (x : X) (xs : List X) : Type 0 where
  pub front : List X
  pub back : List X
  pub whole : xs ≡ front ++ x ∷ back

pub parts_at : {X : Type 0} (x : X) (xs : List X) → IsIn x xs → Parts x xs
parts_at x [] h = absurd h
parts_at x (y ∷ ys) (inl is) = record { front = []; back = ys; whole = ap (λ z. z ∷ ys) (sym is) }
parts_at x (y ∷ ys) (inr h) = let rest = parts_at x ys h in record { front = y ∷ rest.front; back = rest.back; whole = ap (λ zs. y ∷ zs) rest.whole }

-- ---- those that pass a test

in_kept : {X : Type 0} (x y : X) (ys : List X) (b : Bool) → IsIn x (cond b (y ∷ ys) ys) → (IsIn x ys ⊎ ((x ≡ y) × (b ≡ true)))
in_kept x y ys true (inl is) = inr (is, refl)
in_kept x y ys true (inr h) = inl h
in_kept x y ys false h = inl h

pub passed : {X : Type 0} (p : X → Bool) (x : X) (xs : List X) → IsIn x (filter p xs) → IsIn x xs × (p x ≡ true)
passed p x [] h = absurd h
passed p x (y ∷ ys) h = elim (in_kept x y (filter p ys) (p y) h) [ inl later ↦ (let rest = passed p x ys later in (inr rest.0, rest.1)) | inr here ↦ (inl here.0, ap p here.0 ∙ here.1) ]

pub all_passed : {X : Type 0} (p : X → Bool) (xs : List X) → Each (λ x. p x ≡ true) (filter p xs)
all_passed p xs = recursion_from_All (λ x. p x ≡ true) (filter p xs) (filter_passes p xs)

in_more : {X : Type 0} (x y : X) (ys : List X) (b : Bool) → IsIn x ys → IsIn x (cond b (y ∷ ys) ys)
in_more x y ys true h = inr h
in_more x y ys false h = h

in_first : {X : Type 0} (x y : X) (ys : List X) (b : Bool) → b ≡ true → x ≡ y → IsIn x (cond b (y ∷ ys) ys)
in_first x y ys true passes is = inl is
in_first x y ys false passes is = absurd cc

pub passing : {X : Type 0} (p : X → Bool) (x : X) (xs : List X) → IsIn x xs → p x ≡ true → IsIn x (filter p xs)
passing p x [] h passes = absurd h
passing p x (y ∷ ys) (inl is) passes = in_first x y (filter p ys) (p y) (ap p (sym is) ∙ passes) is
passing p x (y ∷ ys) (inr h) passes = in_more x y (filter p ys) (p y) (passing p x ys h passes)

pub any_in : {X : Type 0} (p : X → Bool) (x : X) (xs : List X) → IsIn x xs → p x ≡ true → list_any p xs ≡ true
any_in p x [] h passes = absurd h
any_in p x (y ∷ ys) (inl is) passes = ap (λ b. b || list_any p ys) (ap p (sym is) ∙ passes)
any_in p x (y ∷ ys) (inr h) passes = ap (λ b. p y || b) (any_in p x ys h passes) ∙ or_true (p y)
  where
    or_true : (b : Bool) → (b || true) ≡ true
    or_true true = refl
    or_true false = refl

-- one that passes
pub record Passes {X : Type 0} (p : X → Bool) (xs : List X) : Type 0 where
  pub one : X
  pub within : IsIn one xs
  pub passes : p one ≡ true

pub in_any : {X : Type 0} (p : X → Bool) (xs : List X) → list_any p xs ≡ true → Passes p xs
in_any p [] any = absurd cc
in_any p (x ∷ xs) any = by p x xs (p x) refl (in_any p xs) any
  where
    by : {X : Type 0} (p : X → Bool) (x : X) (xs : List X) (b : Bool) → p x ≡ b → (list_any p xs ≡ true → Passes p xs) → (b || list_any p xs) ≡ true → Passes p (x ∷ xs)
    by p x xs true is rest any = record { one = x; within = inl refl; passes = is }
    by p x xs false is rest any = let found = rest any in record { one = found.one; within = inr found.within; passes = found.passes }

pub all_pass : {X : Type 0} (p : X → Bool) (xs : List X) → Each (λ x. p x ≡ true) xs → filter p xs ≡ xs
all_pass p [] h = refl
all_pass p (x ∷ xs) h = ap (λ b. cond b (x ∷ filter p xs) (filter p xs)) h.0 ∙ ap (λ ys. x ∷ ys) (all_pass p xs h.1)

pub none_pass : {X : Type 0} (p : X → Bool) (xs : List X) → Each (λ x. p x ≡ false) xs → filter p xs ≡ []
none_pass p [] h = refl
none_pass p (x ∷ xs) h = ap (λ b. cond b (x ∷ filter p xs) (filter p xs)) h.0 ∙ none_pass p xs h.1

pub none_left : {X : Type 0} (p : X → Bool) (xs : List X) → Each (λ x. p x ≡ true) xs → filter (λ x. not (p x)) xs ≡ []
none_left p xs h = none_pass (λ x. not (p x)) xs (each_negated p xs h)
  where
    each_negated : {X : Type 0} (p : X → Bool) (xs : List X) → Each (λ x. p x ≡ true) xs → Each (λ x. not (p x) ≡ false) xs
    each_negated p [] h = tt
    each_negated p (x ∷ xs) h = (ap not h.0, each_negated p xs h.1)

-- two tests one after the other
both_by : {X : Type 0} (p q : X → Bool) (x : X) (xs : List X) (b : Bool) → filter q (filter p xs) ≡ filter (λ x. p x && q x) xs → filter q (cond b (x ∷ filter p xs) (filter p xs)) ≡ cond (b && q x) (x ∷ filter (λ x. p x && q x) xs) (filter (λ x. p x && q x) xs)
both_by p q x xs true rest = ap (λ ys. cond (q x) (x ∷ ys) ys) rest
both_by p q x xs false rest = rest

pub filtered_twice : {X : Type 0} (p q : X → Bool) (xs : List X) → filter q (filter p xs) ≡ filter (λ x. p x && q x) xs
filtered_twice p q [] = refl
filtered_twice p q (x ∷ xs) = both_by p q x xs (p x) (filtered_twice p q xs)

-- what is left without the one in the middle
pub without_one : {X : Type 0} (p : X → Bool) (xs : List X) (y : X) (zs : List X) → Each (λ x. p x ≡ false) xs → p y ≡ true → Each (λ z. p z ≡ false) zs → filter (λ x. not (p x)) (xs ++ y ∷ zs) ≡ xs ++ zs
without_one p [] y [] first is last = ap (λ b. cond (not b) (y ∷ []) []) is
without_one p [] y (z ∷ zs) first is last =
    ap (λ b. cond (not b) (y ∷ filter (λ x. not (p x)) (z ∷ zs)) (filter (λ x. not (p x)) (z ∷ zs))) is
    ∙ all_pass (λ x. not (p x)) (z ∷ zs) (each_not p (z ∷ zs) last)
  where
    each_not : {X : Type 0} (p : X → Bool) (xs : List X) → Each (λ x. p x ≡ false) xs → Each (λ x. not (p x) ≡ true) xs
    each_not p [] h = tt
    each_not p (x ∷ xs) h = (ap not h.0, each_not p xs h.1)
without_one p (x ∷ xs) y zs first is last =
    ap (λ b. cond (not b) (x ∷ filter (λ x. not (p x)) (xs ++ y ∷ zs)) (filter (λ x. not (p x)) (xs ++ y ∷ zs))) first.0
    ∙ ap (λ ys. x ∷ ys) (without_one p xs y zs first.1 is last)

-- ---- one more at its place

in_placed : {X : Type 0} (x y z : X) (zs placed : List X) (b : Bool) → IsIn x (cond b (y ∷ (z ∷ zs)) (z ∷ placed)) → (IsIn x placed → (x ≡ y) ⊎ IsIn x zs) → (x ≡ y) ⊎ IsIn x (z ∷ zs)
in_placed x y z zs placed true h rest = h
in_placed x y z zs placed false (inl is) rest = inr (inl is)
in_placed x y z zs placed false (inr h) rest = elim (rest h) [ inl is ↦ inl is | inr later ↦ inr (inr later) ]

pub inserted : {X : Type 0} (before : X → X → Bool) (x y : X) (ys : List X) → IsIn x (insert_by before y ys) → (x ≡ y) ⊎ IsIn x ys
inserted before x y [] h = h
inserted before x y (z ∷ zs) h = in_placed x y z zs (insert_by before y zs) (before y z) h (inserted before x y zs)

put_there : {X : Type 0} (x y z : X) (zs placed : List X) (b : Bool) → ((x ≡ y) ⊎ IsIn x (z ∷ zs)) → ((x ≡ y) ⊎ IsIn x zs → IsIn x placed) → IsIn x (cond b (y ∷ (z ∷ zs)) (z ∷ placed))
put_there x y z zs placed true h rest = h
put_there x y z zs placed false (inl is) rest = inr (rest (inl is))
put_there x y z zs placed false (inr (inl is)) rest = inl is
put_there x y z zs placed false (inr (inr h)) rest = inr (rest (inr h))

pub inserting : {X : Type 0} (before : X → X → Bool) (x y : X) (ys : List X) → ((x ≡ y) ⊎ IsIn x ys) → IsIn x (insert_by before y ys)
inserting before x y [] h = h
inserting before x y (z ∷ zs) h = put_there x y z zs (insert_by before y zs) (before y z) h (inserting before x y zs)

-- ---- lists in which no two are the same

-- one in the middle is the same as none before it, and none after it
pub record IsApart {X : Type 0} (same : X → X → Bool) (xs : List X) (y : X) (zs : List X) : Type 0 where
  pub before : Each (λ x. same x y ≡ false) xs
  pub after : Each (λ z. same y z ≡ false) zs
  pub others : IsDistinct same (xs ++ zs)

pub apart_at : {X : Type 0} (same : X → X → Bool) (xs : List X) (y : X) (zs : List X) → IsDistinct same (xs ++ y ∷ zs) → IsApart same xs y zs
unfolding IsDistinct
apart_at same [] y zs h = record { before = tt; after = h.0; others = h.1 }
apart_at same (x ∷ xs) y zs h =
    let rest = apart_at same xs y zs h.1 in
    let split = each_split (λ z. same x z ≡ false) xs (y ∷ zs) h.0 in
    record { before = (split.1.0, rest.before); after = rest.after; others = (joined same x xs zs split.0 split.1.1, rest.others) }
  where
    joined : {X : Type 0} (same : X → X → Bool) (x : X) (xs zs : List X) → Each (λ z. same x z ≡ false) xs → Each (λ z. same x z ≡ false) zs → Each (λ z. same x z ≡ false) (xs ++ zs)
    joined same x [] zs h k = k
    joined same x (y ∷ xs) zs h k = (h.0, joined same x xs zs h.1 k)
