-- A row is what is in its columns.
use Rattle.std.proofs.Common.{◌≡◌, ◌+◌, ℕ, suc, List, [], ◌∷◌, drop, length, refl, arith}
use Rattle.std.specs.Prelude.{⊤}
use Rattle.sqlite_value.specs.declared.value.Value.{Value}
use Rattle.sqlite_value.specs.Order.{Row, column}
use Rattle.prt_rows.specs.Columns.{Column, row_of}

-- from this place on, what is in the row is what these columns have for x
abbrev pub HasCells : {X : Type 0} → List (Column X) → X → Row → ℕ → Type 0
HasCells [] x cells at = ⊤
HasCells (c ∷ columns) x cells at = (column cells at ≡ c.2 x) × HasCells columns x cells (suc at)

after_first : {X : Type 0} (columns : List (Column X)) (x : X) (v : Value) (cells : Row) (at : ℕ) → HasCells columns x (v ∷ cells) (suc at) → HasCells columns x cells at
after_first [] x v cells at each = each
after_first (c ∷ columns) x v cells at each = (each.0, after_first columns x v cells (suc at) each.1)

-- so many cells, and in each what its column has for x: the row of x
pub row_of_cells : {X : Type 0} (columns : List (Column X)) (x : X) (cells : Row) → length cells ≡ length columns → HasCells columns x cells 0 → cells ≡ row_of columns x
row_of_cells [] x [] whole each = refl
row_of_cells [] x (v ∷ cells) whole each = cc
row_of_cells (c ∷ columns) x [] whole each = cc
row_of_cells (c ∷ columns) x (v ∷ cells) whole each =
    let more : length cells ≡ length columns = cc in
    λ i. each.0 i ∷ row_of_cells columns x cells more (after_first columns x v cells 0 each.1) i

-- the same of what comes after the first cell
pub row_after_first : {X : Type 0} (columns : List (Column X)) (x : X) (cells : Row) → length cells ≡ length columns + 1 → HasCells columns x cells 1 → drop 1 cells ≡ row_of columns x
row_after_first columns x [] whole each = absurd (omega arith)
row_after_first columns x (v ∷ cells) whole each = row_of_cells columns x cells (omega arith) (after_first columns x v cells 0 each)
