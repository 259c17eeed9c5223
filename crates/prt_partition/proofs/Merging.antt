-- Two lists gone through side by side, and what of them is left out.
use Rattle.std.proofs.Common.{◌≡◌, ℕ, ◌+◌, ◌-◌, ◌<◌, Bool, true, false, ◌||◌, cond, List, [], ◌∷◌, ◌++◌, length, get_or, take, drop, refl, sym, ap, ◌∙◌, append-nil}
use Rattle.std.specs.Prelude.{filter, map}
use Rattle.std.specs.List.{list_any}
use Rattle.std.proofs.lemmas.List.{map-append, take-append-drop, take_more, take_rest}
use Rattle.std.proofs.lemmas.List.Elements.{filter-append}
use Rattle.std.proofs.lemmas.List.Folds.{list_any-append}
use Rattle.prt_addr.proofs.Each.{each_fails}
use Rattle.prt_trie.proofs.Filters.{filter_none}

pub neither : (a b : Bool) → (a || b) ≡ false → (a ≡ false) × (b ≡ false)
neither true b h = absurd cc
neither false b h = (refl, h)

-- none of these passes, nor of those
pub none_of_both : {X : Type 0} (p : X → Bool) (xs ys : List X) → list_any p (xs ++ ys) ≡ false → (list_any p xs ≡ false) × (list_any p ys ≡ false)
none_of_both p xs ys h = neither (list_any p xs) (list_any p ys) (sym (list_any-append p xs ys) ∙ h)

module _ {A X Y : Type 0} (test : A → X → Bool) (g : X → Y) where
  -- what passes, as it is compared
  abbrev kept : A → List X → List Y
  kept a xs = map g (filter (test a) xs)

  -- where none of these passes, the same of both lists passes
  abbrev pub Hold : List X → List X → List X → Type 0
  Hold xs ys apart = (a : A) → list_any (test a) apart ≡ false → kept a xs ≡ kept a ys

  one_by : (x : X) (b : Bool) → map g (cond b (x ∷ []) []) ≡ cond b (g x ∷ []) []
  one_by x true = refl
  one_by x false = refl

  kept_more : (a : A) (xs : List X) (i : ℕ) (x : X) → i < length xs → x ≡ get_or xs i x → kept a (take (i + 1) xs) ≡ kept a (take i xs) ++ cond (test a x) (g x ∷ []) []
  kept_more a xs i x inside is =
      ap (kept a) (take_more xs i x inside ∙ ap (λ y. take i xs ++ y ∷ []) (sym is))
      ∙ ap (map g) (filter-append (test a) (take i xs) (x ∷ []))
      ∙ map-append g (filter (test a) (take i xs)) (filter (test a) (x ∷ []))
      ∙ ap (λ ys. kept a (take i xs) ++ ys) (one_by x (test a x))

  kept_passed : (a : A) (xs : List X) (i : ℕ) (x : X) → i < length xs → x ≡ get_or xs i x → test a x ≡ false → kept a (take (i + 1) xs) ≡ kept a (take i xs)
  kept_passed a xs i x inside is fails =
      kept_more a xs i x inside is ∙ ap (λ b. kept a (take i xs) ++ cond b (g x ∷ []) []) fails ∙ append-nil (kept a (take i xs))

  -- both have the same
  pub both : (xs ys apart : List X) (i j : ℕ) (x y : X) → i < length xs → j < length ys → x ≡ get_or xs i x → y ≡ get_or ys j y →
      ((a : A) → test a x ≡ test a y) → g x ≡ g y → Hold (take i xs) (take j ys) apart → Hold (take (i + 1) xs) (take (j + 1) ys) apart
  both xs ys apart i j x y inside among is are tests equal held a none =
      kept_more a xs i x inside is
      ∙ ap (λ zs. zs ++ cond (test a x) (g x ∷ []) []) (held a none)
      ∙ ap (λ b. kept a (take j ys) ++ cond b (g x ∷ []) []) (tests a)
      ∙ ap (λ z. kept a (take j ys) ++ cond (test a y) (z ∷ []) []) equal
      ∙ sym (kept_more a ys j y among are)

  -- one that only the first list has
  pub first_only : (xs ys apart more : List X) (i : ℕ) (x : X) → i < length xs → x ≡ get_or xs i x → more ≡ apart ++ x ∷ [] → Hold (take i xs) ys apart → Hold (take (i + 1) xs) ys more
  first_only xs ys apart more i x inside is are held a none =
      let parts : (list_any (test a) apart ≡ false) × (list_any (test a) (x ∷ []) ≡ false) = none_of_both (test a) apart (x ∷ []) (ap (list_any (test a)) (sym are) ∙ none) in
      let fails : test a x ≡ false = (neither (test a x) false parts.1).0 in
      kept_passed a xs i x inside is fails ∙ held a parts.0

  -- one that only the second list has
  pub second_only : (xs ys apart more : List X) (j : ℕ) (y : X) → j < length ys → y ≡ get_or ys j y → more ≡ apart ++ y ∷ [] → Hold xs (take j ys) apart → Hold xs (take (j + 1) ys) more
  second_only xs ys apart more j y inside is are held a none =
      let parts : (list_any (test a) apart ≡ false) × (list_any (test a) (y ∷ []) ≡ false) = none_of_both (test a) apart (y ∷ []) (ap (list_any (test a)) (sym are) ∙ none) in
      let fails : test a y ≡ false = (neither (test a y) false parts.1).0 in
      held a parts.0 ∙ sym (kept_passed a ys j y inside is fails)

  kept_rest : (a : A) (xs : List X) (i : ℕ) → list_any (test a) (drop i xs) ≡ false → kept a (take i xs) ≡ kept a xs
  kept_rest a xs i none =
      sym (append-nil (kept a (take i xs)))
      ∙ ap (λ rest. kept a (take i xs) ++ map g rest) (sym (filter_none (test a) (drop i xs) (each_fails (test a) (drop i xs) none)))
      ∙ sym (map-append g (filter (test a) (take i xs)) (filter (test a) (drop i xs)))
      ∙ ap (map g) (sym (filter-append (test a) (take i xs) (drop i xs)))
      ∙ ap (kept a) (take-append-drop i xs)

  -- the rests of both lists are left out
  pub rests : (xs ys apart more : List X) (i j : ℕ) → more ≡ (apart ++ take (length xs - i) (drop i xs)) ++ take (length ys - j) (drop j ys) → Hold (take i xs) (take j ys) apart → Hold xs ys more
  rests xs ys apart more i j is held a none =
      let are : more ≡ (apart ++ drop i xs) ++ drop j ys =
      is ∙ ap (λ rest. (apart ++ rest) ++ take (length ys - j) (drop j ys)) (take_rest xs i) ∙ ap (λ rest. (apart ++ drop i xs) ++ rest) (take_rest ys j) in
      let outer : (list_any (test a) (apart ++ drop i xs) ≡ false) × (list_any (test a) (drop j ys) ≡ false) = none_of_both (test a) (apart ++ drop i xs) (drop j ys) (ap (list_any (test a)) (sym are) ∙ none) in
      let inner : (list_any (test a) apart ≡ false) × (list_any (test a) (drop i xs) ≡ false) = none_of_both (test a) apart (drop i xs) outer.0 in
      sym (kept_rest a xs i inner.1) ∙ held a inner.0 ∙ kept_rest a ys j outer.1
