-- The first in a list by an order, and its place in one.
use Rattle.std.specs.Prelude.{Bool, not, if◌then◌else◌, List, [], ◌∷◌, find, Option}
use Rattle.std.specs.List.{list_any}

-- the first that no other comes before
abbrev pub first_by : {A : Type 0} → (A → A → Bool) → List A → Option A
first_by before xs = find (λ x. not (list_any (λ other. before other x) xs)) xs

-- put in front of the first that it comes before
abbrev pub insert_by : {A : Type 0} → (A → A → Bool) → A → List A → List A
insert_by before x [] = x ∷ []
insert_by before x (y ∷ ys) = if before x y then x ∷ (y ∷ ys) else y ∷ insert_by before x ys
