-- Tables in groups, each of some whose numbers follow each other.
use Rattle.std.specs.Prelude.{◌≡◌, ℕ, List, [], ◌∷◌, ◌++◌}
use Rattle.std.specs.List.{AllByRecursion as Each}
use Rattle.prt_version.specs.Tables.{AreTables, TableRows}

-- the number of the first of some tables, and the tables
pub record TableGroup : Type 0 where
  pub first : ℕ
  pub tables : List TableRows

-- there is a table, and the first has this number
abbrev pub StartsWith : ℕ → List TableRows → Type 0
StartsWith number [] = ⊥
StartsWith number (table ∷ tables) = number ≡ table.number

abbrev pub IsGroup : TableGroup → Type 0
IsGroup group = StartsWith group.first group.tables

-- the tables of all groups, one group after another
abbrev pub joined : List TableGroup → List TableRows
joined [] = []
joined (group ∷ groups) = group.tables ++ joined groups

-- together they are tables, and each has some
pub record AreGroups (groups : List TableGroup) : Type 0 where
  pub tables : AreTables (joined groups)
  pub each : Each IsGroup groups
