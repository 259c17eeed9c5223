-- What a reason says of the tables.
use Rattle.std.specs.Prelude.{◌≡◌, ◌+◌, ℕ, ℤ, List, [], ◌∷◌, Contains, Option, Some, None}
use Rattle.sqlite.specs.Effect.{Database}
use Rattle.sqlite_value.specs.Order.{Row, column}
use Rattle.sqlite_value.specs.declared.value.Value.TheVariants.{Int}
use Rattle.prt_rows.specs.Kept.{kept_count, with_key_column}
use Rattle.prt_rows.specs.MetaRow.{IsCount}
use Rattle.prt_rows.specs.Tables.{meta_table, route_table, rule_table, suppress_table}
use Rattle.prt_reasons.specs.Spelling.{SpellsLength, SpellsRoute, SpellsRule}
use Rattle.prt_reasons.specs.declared.reason.Reason.{Reason}
use Rattle.prt_reasons.specs.declared.reason.Reason.TheVariants as reason
use Rattle.prt_reasons.specs.declared.reason.DatabaseTable.TheVariants as ours

-- the row of `meta` is that of this count
pub record KeepsCount (db : Database) (count : ℕ) : Type 0 where
  pub row : db.trees meta_table.tree ≡ kept_count count ∷ []
  pub fits : IsCount count

-- the table keeps a row of this rowid, written so, that encodes nothing
pub record KeepsBadRow (Spells : Row → Type 0) (write : Row → Row) (table : List Row) (id : ℤ) : Type 0 where
  pub cells : Row
  pub there : Contains table (write cells)
  pub named : column cells 0 ≡ Int id
  pub spells_none : Spells cells → ⊥

-- a row that it names is in its table, and encodes nothing, if the greatest id is `last`
abbrev pub NamesKeptRow : Database → ℕ → Reason → Type 0
NamesKeptRow db last (reason.Row ours.Rule id fault) = KeepsBadRow (SpellsRule last) with_key_column (db.trees rule_table.tree) id
NamesKeptRow db last (reason.Row ours.Suppress id fault) = KeepsBadRow (SpellsLength last) with_key_column (db.trees suppress_table.tree) id
NamesKeptRow db last (reason.Row ours.Route id fault) = KeepsBadRow SpellsRoute (λ row. row) (db.trees route_table.tree) id
NamesKeptRow db last (reason.Row ours.Meta id fault) = ⊥
NamesKeptRow db last (reason.Meta fault) = ⊥
NamesKeptRow db last _ = Unit {0}

-- The row of `meta` encodes no count, or a row that is named is in its table and encodes nothing. The greatest id is the
-- count + 3.
abbrev pub IsReasonOf : Database → Reason → Type 0
IsReasonOf db (reason.Meta fault) = (count : ℕ) → KeepsCount db count → ⊥
IsReasonOf db named = (count : ℕ) × KeepsCount db count × NamesKeptRow db (count + 3) named

-- if there is a reason, it is one
abbrev pub IsReasonIfAny : Database → Option Reason → Type 0
IsReasonIfAny db None = Unit {0}
IsReasonIfAny db (Some named) = IsReasonOf db named
