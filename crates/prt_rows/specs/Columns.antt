-- Tables as lists of columns.
use Rattle.std.specs.Prelude.{List, map}
use Rattle.sqlite.specs.Kind.{Kind}
use Rattle.sqlite_value.specs.declared.value.Value.{Value}
use Rattle.sqlite_value.specs.Order.{Row}
use Rattle.prt_addr.specs.Word.{Word}

-- a column of a table of Xs: its name, its type, and what is in it for an X
abbrev pub Column : Type 0 → Type 0
Column X = Word × Kind × (X → Value)

-- what is in each of these columns for x
abbrev pub row_of : {X : Type 0} → List (Column X) → X → Row
row_of columns x = map (λ column. column.2 x) columns
