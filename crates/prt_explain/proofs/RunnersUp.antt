-- What holds of a runner-up.
use Rattle.std.proofs.Common.{◌≡◌, Bool, true, false, not, List, [], ◌∷◌, Option, Some, refl, subst, cond, find}
use Rattle.std.specs.Prelude.{filter}
use Rattle.std.specs.List.{Contains, list_any, AllByRecursion as Each}
use Rattle.std.proofs.lemmas.List.Elements.{All-contains, All-contains_itself, All-from_recursion, recursion_from_All}
use Rattle.prt_addr.specs.Order.{first_by}
use Rattle.prt_addr.proofs.Each.{each_fails, each_passing}

-- ---- what a search finds

found_by : {X : Type 0} (P : X → Type 0) (p : X → Bool) (y x : X) (found : Option X) (b : Bool) → p y ≡ b → P y → (found ≡ Some x → P x × (p x ≡ true)) → cond b (Some y) found ≡ Some x → P x × (p x ≡ true)
found_by P p y x found true passes held others is =
    let same : y ≡ x = cc in
    (subst P same held, subst (λ z. p z ≡ true) same passes)
found_by P p y x found false passes held others is = others is

-- what is found passes, and has what each has
found : {X : Type 0} (P : X → Type 0) (p : X → Bool) (xs : List X) (x : X) → Each P xs → find p xs ≡ Some x → P x × (p x ≡ true)
found P p [] x each is = absurd cc
found P p (y ∷ ys) x each is = found_by P p y x (find p ys) (p y) refl each.0 (found P p ys x each.1) is

-- ---- those that pass a test

passing_by : {X : Type 0} (P : X → Type 0) (p : X → Bool) (x : X) (xs : List X) (b : Bool) → p x ≡ b → Each P (cond b (x ∷ filter p xs) (filter p xs)) → (p x ≡ true → P x) × Each P (filter p xs)
passing_by P p x xs true is each = ((λ passes. each.0), each.1)
passing_by P p x xs false is each = ((λ passes. absurd cc), each)

-- what holds of those that pass
of_passing : {X : Type 0} (P : X → Type 0) (p : X → Bool) (xs : List X) → Each P (filter p xs) → Each (λ x. p x ≡ true → P x) xs
of_passing P p [] each = tt
of_passing P p (x ∷ xs) each =
    let both : (p x ≡ true → P x) × Each P (filter p xs) = passing_by P p x xs (p x) refl each in
    (both.0, of_passing P p xs both.1)

each_of : {X : Type 0} (xs : List X) → Each (Contains xs) xs
each_of xs = recursion_from_All (Contains xs) xs (All-contains_itself xs)

not_false : (b : Bool) → not b ≡ true → b ≡ false
not_false true is = absurd cc
not_false false is = refl

-- ---- the first of those that one comes before

module _ {X : Type 0} (before : X → X → Bool) (one : X) (xs : List X) (next : X) (is : first_by before (filter (before one) xs) ≡ Some next) where
  pub next_is_one : Contains xs next
  next_is_one =
      (found (Contains xs) (λ x. not (list_any (λ other. before other x) (filter (before one) xs))) (filter (before one) xs) next
      (each_passing (Contains xs) (Contains xs) (before one) (λ x held passes. held) xs (each_of xs)) is).0

  pub next_is_after : before one next ≡ true
  next_is_after =
      (found (λ x. before one x ≡ true) (λ x. not (list_any (λ other. before other x) (filter (before one) xs))) (filter (before one) xs) next
      (each_passing (Contains xs) (λ x. before one x ≡ true) (before one) (λ x held passes. passes) xs (each_of xs)) is).0

  pub none_between : (between : X) → Contains xs between → before one between ≡ true → before between next ≡ false
  none_between between within after =
      let first : not (list_any (λ other. before other next) (filter (before one) xs)) ≡ true =
      (found (Contains xs) (λ x. not (list_any (λ other. before other x) (filter (before one) xs))) (filter (before one) xs) next
      (each_passing (Contains xs) (Contains xs) (before one) (λ x held passes. held) xs (each_of xs)) is).1 in
      let fails = each_fails (λ other. before other next) (filter (before one) xs) (not_false _ first) in
      let all = of_passing (λ other. before other next ≡ false) (before one) xs fails in
      All-contains (λ other. before one other ≡ true → before other next ≡ false) xs between (All-from_recursion (λ other. before one other ≡ true → before other next ≡ false) xs all) within after
