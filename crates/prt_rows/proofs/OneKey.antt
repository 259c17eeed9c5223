-- Of two rows of routes that have one key, both have one rowid.
use Rattle.std.proofs.Common.{◌≡◌, ℤ, true, false, List, drop, ◌&&◌, Equal, sym, ◌∙◌, true≢false}
use Rattle.std.proofs.lemmas.Bool.{and_from, and_parts, false_from_ne_true, not-true}
use Rattle.sqlite.specs.Table.{Table}
use Rattle.sqlite.specs.Tree.{Trees, rowid}
use Rattle.sqlite.specs.declared.types.Value.TheVariants.{Int}
use Rattle.sqlite_rules.proofs.ListLemmas.{all_has, some_from}
use Rattle.sqlite_rules.specs.Lists.{Has}
use Rattle.sqlite_schema.specs.Rules.{Fits, agree, clashes, differ}
use Rattle.sqlite_schema.specs.declared.schema.Constraint.TheVariants.{Unique}
use Rattle.sqlite_schema.specs.declared.schema.Index.{Index}
use Rattle.sqlite_schema.specs.declared.schema.View.{View}
use Rattle.sqlite_value.specs.Order.{Row, value_cmp}
use Rattle.prt_route.specs.declared.route.Route.{Route}
use Rattle.prt_rows.proofs.RouteKeys.{agree_is, same_back, same_key, split, tied_if_same}
use Rattle.prt_rows.specs.RouteRow.{route_row}
use Rattle.prt_rows.specs.Tables.{key_places, schema_with}

module _ (tables : List Table) (indexes : List Index) (views : List View) (db : Trees) (fits : Fits (schema_with tables indexes views) db) where
  pub one_rowid : (a x : Row) (m n : ℤ) (route p : Route) → Has (db 1) a → Has (db 1) x → rowid a ≡ Int m → rowid x ≡ Int n → drop 1 a ≡ route_row route → drop 1 x ≡ route_row p → same_key p route ≡ true
      → value_cmp (rowid a) (rowid x) ≡ Equal
  one_rowid a x m n route p there h id_a id_x spelled spells key =
      let rules = (fits.rules Unique (λ e. absurd (let no = e in cc))).1.0 in
      let row = all_has _ (db 1) x rules h in
      let clash : clashes (record { digits = 0 }) key_places (db 1) x ≡ false = not-true _ (and_parts _ _ row).0 in
      let agrees : agree (record { digits = 0 }) key_places a key_places x ≡ true =
      (λ i. agree (record { digits = 0 }) key_places (split a route spelled i) key_places (split x p spells i)) ∙ agree_is (rowid a) (rowid x) route p ∙ same_back p route key in
      let apart : differ (rowid a) (rowid x) ≡ false = false_from_ne_true _ (λ differs. absurd (
      let met = some_from (λ other. agree (record { digits = 0 }) key_places other key_places x && differ (rowid other) (rowid x)) (db 1) a there (and_from _ _ agrees differs) in
      true≢false (sym met ∙ clash))) in
      tied_if_same (rowid a) (rowid x) m n id_a id_x apart
