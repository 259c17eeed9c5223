-- Lists that are in an order.
use Rattle.std.specs.Prelude.{◌≡◌, Bool, true, List, [], ◌∷◌}
use Rattle.std.specs.List.{AllByRecursion as Each}

-- each comes before all those after it
abbrev pub IsRising : {A : Type 0} → (A → A → Bool) → List A → Type 0
IsRising before [] = Unit {0}
IsRising before (x ∷ xs) = Each (λ other. before x other ≡ true) xs × IsRising before xs
