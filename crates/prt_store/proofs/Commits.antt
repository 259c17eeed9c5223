-- The change and the count make the next state of what was stored.
use Rattle.std.proofs.Common.{◌≡◌, ℕ, ◌&&◌, true, false, Ok, IsPermutation, drop, map, inl, inr, refl, sym, ap, subst, ◌∙◌}
use Rattle.std.proofs.lemmas.Bool.{and_from, and_parts, eq-eqb, eqb-false, false_from_ne_true, not-true, true≢false}
use Rattle.std.proofs.lemmas.Cmp.{tied_itself}
use Rattle.std.specs.Ordering.{is_eq}
use Rattle.sqlite.proofs.Callers.{runs_as}
use Rattle.sqlite.specs.Effect.{Database, IsDatabase}
use Rattle.sqlite.specs.Schema.{Schema}
use Rattle.sqlite.specs.State.{State as Conn, Executes}
use Rattle.sqlite.specs.Tree.{rowid}
use Rattle.sqlite_rules.proofs.ListLemmas.{all_has, some_from}
use Rattle.sqlite_rules.proofs.TableLemmas.{int_is}
use Rattle.sqlite_rules.specs.Lists.{Has}
use Rattle.sqlite_schema.specs.Rules.{agree, clashes, differ}
use Rattle.sqlite_schema.specs.declared.schema.Constraint.TheVariants.{Unique}
use Rattle.sqlite_value.proofs.OrderLemmas.{value_cmp_total}
use Rattle.sqlite_value.specs.Order.{Row}
use Rattle.prt_route.specs.declared.route.Route.{Route}
use Rattle.prt_route.proofs.Edits.{rising_keys}
use Rattle.prt_rows.proofs.Counting.{sets_count}
use Rattle.prt_rows.proofs.Keyed.{alone}
use Rattle.prt_rows.proofs.RouteKeys.{agree_is, same_key, split, tied_if_same}
use Rattle.prt_rows.proofs.RouteRows.{same_route}
use Rattle.prt_rows.proofs.Texts.{set_count_is}
use Rattle.prt_rows.specs.Effects.{IsKeyed, has_same_rowid}
use Rattle.prt_rows.specs.Kept.{count_values, kept_length, kept_route, kept_rule}
use Rattle.prt_rows.specs.Meanings.{set_count_command}
use Rattle.prt_rows.specs.RouteRow.{route_row}
use Rattle.prt_rows.specs.Statements.{set_count}
use Rattle.prt_rows.specs.Tables.{key_places, route_table, rule_table, schema_with, suppress_table}
use Rattle.prt_version.specs.State.{State}
use Rattle.prt_rows.specs.Format.{IsFormat2}
use Rattle.prt_store.specs.Next.{MakesNext}
use Rattle.prt_store.specs.Stored.{FitsTables, Stores}
use Rattle.prt_store.proofs.Changes.{IsChanged, among_others, keyed_rules}
use Rattle.prt_store.proofs.Once.{once_mapped}
use Rattle.prt_store.proofs.Spelling.{Covers, IsLengthRow, IsRouteRow, IsRuleRow, rows_if_covers, same_if_covers}
use Rattle.prt_store.proofs.Lengths.{keyed_lengths}
use Rattle.prt_store.specs.Lengths.{lengths_of}

same_itself : (route : Route) → same_key route route ≡ true
same_itself route = and_from _ _ (and_from _ _ (eq-eqb route.table route.table refl) (and_from _ _ (eq-eqb route.prefix.bits route.prefix.bits refl) (eq-eqb route.prefix.len route.prefix.len refl))) (eq-eqb route.metric route.metric refl)

-- rows with the values of one route are one row, since its key is unique
pub route_alone : (db : Database) → IsFormat2 db.schema → IsDatabase db → IsKeyed (db.trees 1) → (route : Route) (row other : Row) → Has (db.trees 1) row → Has (db.trees 1) other → IsRouteRow route row → IsRouteRow route other → row ≡ other
route_alone db tables sound keyed route row other there also is too =
    let obeys = subst (λ (s : Schema). IsDatabase (record { schema = s; trees = db.trees })) tables.is sound in
    let unique = all_has _ (db.trees 1) other (obeys.obeys.rules Unique).1.0 also in
    let clash : clashes (record { digits = 0 }) key_places (db.trees 1) other ≡ false = not-true _ (and_parts _ _ unique).0 in
    let agrees : agree (record { digits = 0 }) key_places row key_places other ≡ true =
    ap (λ x. agree (record { digits = 0 }) key_places x key_places other) (split row route is) ∙ ap (λ x. agree (record { digits = 0 }) key_places (kept_route (rowid row) route) key_places x) (split other route too) ∙ agree_is (rowid row) (rowid other) route route ∙ same_itself route in
    let apart : differ (rowid row) (rowid other) ≡ false = false_from_ne_true _ (λ differs. absurd (
    let met = some_from (λ x. agree (record { digits = 0 }) key_places x key_places other && differ (rowid x) (rowid other)) (db.trees 1) row there (and_from _ _ agrees differs) in
    true≢false (sym met ∙ clash))) in
    alone (db.trees 1) keyed row other there also (tied_if_same (rowid row) (rowid other) _ _ (int_is (rowid row) (keyed.ints row there)) (int_is (rowid other) (keyed.ints other also)) apart)

-- no two rows are those of one route, and no two routes are one
routes_spell : (db : Database) → IsFormat2 db.schema → IsDatabase db → IsKeyed (db.trees 1) → (state : State) → FitsTables state → Covers IsRouteRow (db.trees 1) state.routes
    → IsPermutation (map (drop 1) (db.trees 1)) (map route_row state.routes)
routes_spell db tables sound keyed state storable covers = same_if_covers route_row (drop 1) (db.trees 1) state.routes covers
    (once_mapped (drop 1) has_same_rowid (db.trees 1) keyed.once (λ row other there also same.
    let route = covers.sound row there in
    let one : row ≡ other = route_alone db tables sound keyed route.0 row other there also route.2 (sym same ∙ route.2) in
    ap (λ x. has_same_rowid row x) (sym one) ∙ ap is_eq (tied_itself value_cmp_total (rowid row))))
    (once_mapped route_row same_key state.routes (rising_keys state.routes storable.sound.routes_rise) (λ route other there also same.
    let one : route ≡ other = same_route route other (storable.routes route there) (storable.routes other also) same in
    ap (λ x. same_key route x) (sym one) ∙ same_itself route))

module _ (old mid last : Conn) (state next : State) (held : Stores old.now state) (made : IsChanged old.now mid.now next) (storable : FitsTables next) where
  tables_kept : IsFormat2 mid.now.schema
  tables_kept = subst IsFormat2 (sym made.schema) held.tables

  -- the count of the next state makes the tables encode it
  pub counted : (rows : ℕ) → Executes set_count (count_values next.count) mid last (Ok rows) → MakesNext old.now next last.now
  counted rows ran =
      let t = tables_kept in
      let is = set_count_is t.tables t.indexes t.views in
      let w = runs_as set_count (count_values next.count) mid last (schema_with t.tables t.indexes t.views) t.is set_count_command is.0 is.1 rows ran in
      let set = sets_count t.tables t.indexes t.views t.others mid last state.count next.count rows t.is (made.count ∙ held.count) ran in
      let tables : IsFormat2 last.now.schema = subst IsFormat2 (sym set.only.schema) t in
      let rules : last.now.trees 0 ≡ mid.now.trees 0 = set.only.others rule_table (subst (λ (s : Schema). Has s.tables rule_table) (sym t.is) (inl refl)) (λ e. absurd (cc)) in
      let routes : last.now.trees 1 ≡ mid.now.trees 1 = set.only.others route_table (subst (λ (s : Schema). Has s.tables route_table) (sym t.is) (inr (inl refl))) (λ e. absurd (cc)) in
      let lengths : last.now.trees 4 ≡ mid.now.trees 4 = set.only.others suppress_table (subst (λ (s : Schema). Has s.tables suppress_table) (sym t.is) (inr (inr (inr (inl refl))))) (λ e. absurd (cc)) in
      let keyed : IsKeyed (last.now.trees 1) = subst IsKeyed (sym routes) made.kept.routes_keyed in
      record {
        sound = w.sound;
        stores = record {
          tables = tables;
          keyed = keyed;
          rules = rows_if_covers kept_rule (last.now.trees 0) next.rules (subst IsKeyed (sym rules) made.kept.rules_keyed) (keyed_rules next.rules storable.sound.distinct_ids) (subst (λ rows. Covers IsRuleRow rows next.rules) (sym rules) made.kept.rules);
          routes = routes_spell last.now tables w.sound keyed next storable (subst (λ rows. Covers IsRouteRow rows next.routes) (sym routes) made.kept.routes);
          lengths = rows_if_covers kept_length (last.now.trees 4) (lengths_of next.rules) (subst IsKeyed (sym lengths) made.kept.lengths_keyed) (keyed_lengths next.rules storable.sound.distinct_ids) (subst (λ rows. Covers IsLengthRow rows (lengths_of next.rules)) (sym lengths) made.kept.lengths);
          count = set.alone;
          fits = storable;
        };
        schema = set.only.schema ∙ made.schema;
        others = λ table there not_ours.
            let other = among_others old.now.schema held.tables table there not_ours in
            let apart = held.tables.others in
            let no_count = set.only.others table (subst (λ (s : Schema). Has s.tables table) (sym made.schema) there) (eqb-false table.tree 3 (apart.meta table other)) in
            no_count ∙ made.others table there (eqb-false table.tree 0 (apart.rule table other)) (eqb-false table.tree 1 (apart.route table other)) (eqb-false table.tree 4 (apart.suppress table other));
      }
