-- Members of lists.
use Rattle.std.proofs.Common.{◌≡◌, ◌⊎◌, inl, inr, Bool, true, false, List, [], ◌∷◌, cond, refl}
use Rattle.sqlite_rules.proofs.ListLemmas.{all_from, all_has}
use Rattle.sqlite_rules.specs.Lists.{Has}
use Rattle.prt_addr.proofs.Orders.{each_inserted}
use Rattle.prt_addr.specs.Order.{insert_by}

module _ {X : Type 0} (before : X → X → Bool) (x : X) where
  pub inserted_has : (xs : List X) (y : X) → Has (insert_by before x xs) y → (y ≡ x) ⊎ Has xs y
  inserted_has xs y there = all_has (λ y. (y ≡ x) ⊎ Has xs y) (insert_by before x xs) y (each_inserted (λ y. (y ≡ x) ⊎ Has xs y) before x xs (inl refl) (all_from (λ y. (y ≡ x) ⊎ Has xs y) xs (λ z was. inr was))) there

  itself_by : (y : X) (ys : List X) (b : Bool) → Has (insert_by before x ys) x → Has (cond b (x ∷ (y ∷ ys)) (y ∷ insert_by before x ys)) x
  itself_by y ys true later = inl refl
  itself_by y ys false later = inr later

  pub has_itself : (xs : List X) → Has (insert_by before x xs) x
  has_itself [] = inl refl
  has_itself (y ∷ ys) = itself_by y ys (before x y) (has_itself ys)

  other_by : (y : X) (ys : List X) (z : X) (b : Bool) → Has (y ∷ ys) z → (Has ys z → Has (insert_by before x ys) z) → Has (cond b (x ∷ (y ∷ ys)) (y ∷ insert_by before x ys)) z
  other_by y ys z true was later = inr was
  other_by y ys z false (inl is) later = inl is
  other_by y ys z false (inr was) later = inr (later was)

  pub has_other : (xs : List X) (z : X) → Has xs z → Has (insert_by before x xs) z
  has_other [] z was = absurd was
  has_other (y ∷ ys) z was = other_by y ys z (before x y) was (has_other ys z)
