-- What a reason says of the rows that were read.
use Rattle.std.specs.Prelude.{◌≡◌, ◌+◌, ℕ}
use Rattle.prt_rows.specs.MetaRow.{IsCount, meta_rows}
use Rattle.prt_reasons.specs.Found.{HasBadRow}
use Rattle.prt_reasons.specs.Spelling.{SpellsCount, SpellsLength, SpellsRoute, SpellsRule}
use Rattle.prt_reasons.specs.declared.reason.Reason.{Reason}
use Rattle.prt_reasons.specs.declared.reason.Reason.TheVariants as reason
use Rattle.prt_reasons.specs.declared.reason.DatabaseTable.TheVariants as ours
use Rattle.prt_reasons.specs.declared.all_rows.AllRows.{AllRows}

-- it names no row that encodes nothing by itself
abbrev pub NamesNoRow : Reason → Type 0
NamesNoRow (reason.Row table id fault) = ⊥
NamesNoRow (reason.Meta fault) = ⊥
NamesNoRow _ = Unit {0}

-- A row that it names is there, and encodes nothing, if the greatest id is `last`.
abbrev pub NamesBadRow : AllRows → ℕ → Reason → Type 0
NamesBadRow rows last (reason.Row ours.Rule id fault) = HasBadRow (SpellsRule last) rows.rules.items id
NamesBadRow rows last (reason.Row ours.Suppress id fault) = HasBadRow (SpellsLength last) rows.lengths.items id
NamesBadRow rows last (reason.Row ours.Route id fault) = HasBadRow SpellsRoute rows.routes.items id
NamesBadRow rows last (reason.Row ours.Meta id fault) = ⊥
NamesBadRow rows last (reason.Meta fault) = ⊥
NamesBadRow rows last _ = Unit {0}

-- the rows of `meta` encode this count
pub record HasCount (rows : AllRows) (count : ℕ) : Type 0 where
  pub fits : IsCount count
  pub is : rows.meta.items ≡ meta_rows count

-- The rows of `meta` encode no count, or a row that is named is there and encodes nothing. The greatest id is the count + 3.
abbrev pub Explains : AllRows → Reason → Type 0
Explains rows (reason.Meta fault) = SpellsCount rows.meta.items → ⊥
Explains rows named = (count : ℕ) × HasCount rows count × NamesBadRow rows (count + 3) named
