-- The last of the spans up to a destination, and the verdict there.
use Rattle.std.proofs.Common.{◌≡◌, inl, inr, ℕ, ◌≤◌, Bool, true, false, cond, List, [], ◌∷◌, Option, Some, None, refl, sym, ap, ◌∙◌, subst, arith, leb}
use Rattle.std.specs.Option.{option_or}
use Rattle.std.proofs.lemmas.Bool.{le-leb, leb-true}
use Rattle.prt_partition.specs.Spans.{last_from}
use Rattle.prt_partition.proofs.Starts.{IsIn}

-- true or false, with its equation
pub sides : {P : Type 0} (b : Bool) → (b ≡ true → P) → (b ≡ false → P) → P
sides true f g = f refl
sides false f g = g refl

above : (a m n : ℕ) → m ≤ n → leb a n ≡ false → leb a m ≡ false
above a m n le h = sides (leb a m) (λ t. let k : leb a n ≡ true = le-leb a n (let i = leb-true a m t in omega arith) in absurd cc) (λ f. f)

module _ {S : Type 0} (first : S → ℕ) where
  -- by what is found among those after it
  none_by : (x : S) (later later_m : Option S) (m n : ℕ) → m ≤ n → (later ≡ None → later_m ≡ None) →
      option_or later (cond (leb (first x) n) (Some x) None) ≡ None → option_or later_m (cond (leb (first x) m) (Some x) None) ≡ None
  none_by x (Some y) later_m m n le below h = absurd cc
  none_by x None later_m m n le below h =
      sides (leb (first x) n)
      (λ t. let f : Some x ≡ None = sym (ap (λ b. cond b (Some x) None) t) ∙ h in absurd cc)
      (λ f. ap (λ o. option_or o (cond (leb (first x) m) (Some x) None)) (below refl) ∙ ap (λ b. cond b (Some x) None) (above (first x) m n le f))

  -- none begins up to a destination if none does up to a later one
  none_below : (xs : List S) (m n : ℕ) → m ≤ n → last_from first xs n ≡ None → last_from first xs m ≡ None
  none_below [] m n le h = refl
  none_below (x ∷ xs) m n le h = none_by x (last_from first xs n) (last_from first xs m) m n le (none_below xs m n le) h

  same_by : (x y : S) (later later_m : Option S) (m n : ℕ) → m ≤ n → first x ≤ m → (later ≡ None → later_m ≡ None) → (later ≡ Some x → later_m ≡ Some x) →
      option_or later (cond (leb (first y) n) (Some y) None) ≡ Some x → option_or later_m (cond (leb (first y) m) (Some y) None) ≡ Some x
  same_by x y (Some z) later_m m n le from below same h = ap (λ o. option_or o (cond (leb (first y) m) (Some y) None)) (same h)
  same_by x y None later_m m n le from below same h =
      ap (λ o. option_or o (cond (leb (first y) m) (Some y) None)) (below refl)
      ∙ sides (leb (first y) n)
      (λ t.
      let is : Some y ≡ Some x = sym (ap (λ b. cond b (Some y) None) t) ∙ h in
      let i : y ≡ x = cc in
      let e : first y ≤ m = subst (λ z. first z ≤ m) (sym i) from in
      ap (λ b. cond b (Some y) None) (le-leb (first y) m e) ∙ is)
      (λ f. let g : None ≡ Some x = sym (ap (λ b. cond b (Some y) None) f) ∙ h in absurd cc)

  -- the last one up to a destination is the last up to each that it doesn't come after
  pub same_last : (x : S) (xs : List S) (m n : ℕ) → m ≤ n → first x ≤ m → last_from first xs n ≡ Some x → last_from first xs m ≡ Some x
  same_last x [] m n le from h = absurd cc
  same_last x (y ∷ ys) m n le from h = same_by x y (last_from first ys n) (last_from first ys m) m n le from (none_below ys m n le) (same_last x ys m n le from) h

  among_by : (x y : S) (ys : List S) (later : Option S) (n : ℕ) → (later ≡ Some x → IsIn x ys × (first x ≤ n)) → option_or later (cond (leb (first y) n) (Some y) None) ≡ Some x → IsIn x (y ∷ ys) × (first x ≤ n)
  among_by x y ys (Some z) n is h = let found = is h in (inr found.0, found.1)
  among_by x y ys None n is h =
      sides (leb (first y) n)
      (λ t.
      let same : Some y ≡ Some x = sym (ap (λ b. cond b (Some y) None) t) ∙ h in
      let e : y ≡ x = cc in
      (inl (sym e), subst (λ z. first z ≤ n) e (leb-true (first y) n t)))
      (λ f. let g : None ≡ Some x = sym (ap (λ b. cond b (Some y) None) f) ∙ h in absurd cc)

  -- it is one of them, and begins there or before
  pub among : (x : S) (xs : List S) (n : ℕ) → last_from first xs n ≡ Some x → IsIn x xs × (first x ≤ n)
  among x [] n h = absurd cc
  among x (y ∷ ys) n h = among_by x y ys (last_from first ys n) n (among x ys n) h
