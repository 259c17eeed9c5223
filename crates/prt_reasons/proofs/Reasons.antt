-- What a reason that was found among the rows says of the tables.
use Rattle.std.proofs.Common.{◌≡◌, ◌+◌, ◌<◌, ℕ, ℤ, List, [], ◌∷◌, map, drop, IsPermutation, sym, ap, subst, ◌∙◌}
use Rattle.std.specs.Prelude.{Contains, IfSome, Option, Some, None}
use Rattle.std.proofs.lemmas.List.{get_or-map, length-map}
use Rattle.std.proofs.lemmas.List.Sorted.{Contains-permutation, IsPermutation-sym}
use Rattle.sqlite.proofs.Callers.{one_permutation}
use Rattle.sqlite.specs.Effect.{Database}
use Rattle.sqlite.specs.Tree.{rowid}
use Rattle.sqlite_value.specs.Order.{Row}
use Rattle.prt_rows.specs.Kept.{kept_count, with_key_column}
use Rattle.prt_rows.specs.MetaRow.{meta_row, meta_rows}
use Rattle.prt_reasons.specs.Explains.{Explains, HasCount, NamesBadRow}
use Rattle.prt_reasons.specs.Found.{HasBadRow}
use Rattle.prt_reasons.specs.IsReason.{IsReasonIfAny, IsReasonOf, KeepsBadRow, KeepsCount, NamesKeptRow}
use Rattle.prt_reasons.specs.Shows.{ShowsAll}
use Rattle.prt_reasons.specs.declared.reason.Reason.{Reason}
use Rattle.prt_reasons.specs.declared.reason.Reason.TheVariants as reason
use Rattle.prt_reasons.specs.declared.reason.DatabaseTable.TheVariants as ours
use Rattle.prt_reasons.specs.declared.all_rows.AllRows.{AllRows}

contains_mapped : {X Y : Type 0} (f : X → Y) (xs : List X) (x : X) → Contains xs x → Contains (map f xs) (f x)
contains_mapped f xs x (k, low, is) = (k, subst (λ n. k < n) (sym (length-map xs f)) low, get_or-map f xs k x (f x) low ∙ ap f is)

-- a row that was found is one that the table keeps
kept : (Spells : Row → Type 0) (rows table : List Row) (id : ℤ) → IsPermutation table (map with_key_column rows) → HasBadRow Spells rows id → KeepsBadRow Spells with_key_column table id
kept Spells rows table id same bad = record {
  cells = bad.cells;
  there = Contains-permutation (map with_key_column rows) table (with_key_column bad.cells) (IsPermutation-sym _ _ same) (contains_mapped with_key_column rows bad.cells bad.there);
  named = bad.named;
  spells_none = bad.spells_none;
}

kept_route : (Spells : Row → Type 0) (rows table : List Row) (id : ℤ) → IsPermutation table rows → HasBadRow Spells rows id → KeepsBadRow Spells (λ row. row) table id
kept_route Spells rows table id same bad = record {
  cells = bad.cells;
  there = Contains-permutation rows table bad.cells (IsPermutation-sym _ _ same) bad.there;
  named = bad.named;
  spells_none = bad.spells_none;
}

-- a row without its key's column
meta_row_of : (row : Row) (count : ℕ) → with_key_column row ≡ kept_count count → row ≡ meta_row count
meta_row_of [] count is = absurd (let e = is in cc)
meta_row_of (v ∷ row) count is = λ i. ap rowid is i ∷ ap (drop 2) is i

meta_rows_of : (rows : List Row) (count : ℕ) → map with_key_column rows ≡ kept_count count ∷ [] → rows ≡ meta_rows count
meta_rows_of [] count is = absurd (let e = is in cc)
meta_rows_of (row ∷ []) count is = let first : with_key_column row ≡ kept_count count = cc in ap (λ r. r ∷ []) (meta_row_of row count first)
meta_rows_of (row ∷ (other ∷ rows)) count is = absurd (let e = is in cc)

module _ (db : Database) (rows : AllRows) (all : ShowsAll db rows) where
  counted : (count : ℕ) → HasCount rows count → KeepsCount db count
  counted count has = record {
    row = one_permutation (kept_count count) (db.trees 3) (IsPermutation-sym _ _ (subst (λ (rows : List Row). IsPermutation (db.trees 3) (map with_key_column rows)) has.is all.meta));
    fits = has.fits;
  }

  read_count : (count : ℕ) → KeepsCount db count → rows.meta.items ≡ meta_rows count
  read_count count spells = meta_rows_of rows.meta.items count (one_permutation (kept_count count) (map with_key_column rows.meta.items) (subst (λ (table : List Row). IsPermutation table (map with_key_column rows.meta.items)) spells.row all.meta))

  named_row : (last : ℕ) (named : Reason) → NamesBadRow rows last named → NamesKeptRow db last named
  named_row last (reason.Row ours.Rule id fault) bad = kept _ rows.rules.items (db.trees 0) id all.rules bad
  named_row last (reason.Row ours.Suppress id fault) bad = kept _ rows.lengths.items (db.trees 4) id all.lengths bad
  named_row last (reason.Row ours.Route id fault) bad = kept_route _ rows.routes.items (db.trees 1) id all.routes bad
  named_row last (reason.Row ours.Meta id fault) bad = bad
  named_row last (reason.Meta fault) bad = bad
  named_row last (reason.Suppressing id) bad = bad
  named_row last (reason.SameRule id other) bad = bad
  named_row last (reason.TooMany table n most) bad = bad
  named_row last (reason.Column table name) bad = bad
  named_row last (reason.FurtherColumn table n) bad = bad
  named_row last reason.Keys bad = bad

  spelled : (named : Reason) → ((count : ℕ) × HasCount rows count × NamesBadRow rows (count + 3) named) → (count : ℕ) × KeepsCount db count × NamesKeptRow db (count + 3) named
  spelled named (count, has, bad) = (count, counted count has, named_row (count + 3) named bad)

  explained : (named : Reason) → Explains rows named → IsReasonOf db named
  explained (reason.Meta fault) none = λ count spells. none (record { count = count; fits = spells.fits; is = read_count count spells })
  explained (reason.Row table id fault) it = spelled (reason.Row table id fault) it
  explained (reason.Suppressing id) it = spelled (reason.Suppressing id) it
  explained (reason.SameRule id other) it = spelled (reason.SameRule id other) it
  explained (reason.TooMany table n most) it = spelled (reason.TooMany table n most) it
  explained (reason.Column table name) it = spelled (reason.Column table name) it
  explained (reason.FurtherColumn table n) it = spelled (reason.FurtherColumn table n) it
  explained reason.Keys it = spelled reason.Keys it

  pub explained_if_any : (named : Option Reason) → IfSome named (Explains rows) → IsReasonIfAny db named
  explained_if_any None it = tt
  explained_if_any (Some named) it = explained named it
