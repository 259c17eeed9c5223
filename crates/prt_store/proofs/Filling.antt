-- The rows that fill the empty tables encode the opening state.
use Rattle.std.proofs.Common.{◌≡◌, ◌≤◌, inl, inr, ℕ, List, [], ◌∷◌, drop, map, IsPermutation, refl, sym, subst, ◌∙◌, arith}
use Rattle.std.proofs.lemmas.Bool.{eqb-false}
use Rattle.std.proofs.lemmas.List.Sorted.{IsPermutation-refl, IsPermutation-sym}
use Rattle.std.specs.List.{IsDistinct}
use Rattle.sqlite.proofs.Callers.{one_permutation, runs_as}
use Rattle.sqlite.specs.Effect.{Database, IsDatabase}
use Rattle.sqlite.specs.Held.{Held, state}
use Rattle.sqlite.specs.Schema.{Schema}
use Rattle.sqlite.specs.Store.{Ghosts}
use Rattle.sqlite.specs.Table.{Table}
use Rattle.sqlite_rules.specs.Lists.{Has}
use Rattle.sqlite_value.specs.Order.{Row}
use Rattle.prt_route.specs.Names.{default_table, local_table, main_table}
use Rattle.prt_rows.proofs.Insertion.{adds_count, adds_rule}
use Rattle.prt_rows.proofs.Opening.{keyed_empty, none_there, one_more_row, three_keyed, three_rules}
use Rattle.prt_rows.proofs.Texts.{insert_meta_is}
use Rattle.prt_rows.specs.Cell.{IsWithin}
use Rattle.prt_rows.specs.Effects.{Adds, AreEmpty, ChangesOnly, HasSame, IsKeyed}
use Rattle.prt_rows.specs.Format.{IsFormat2}
use Rattle.prt_rows.specs.Kept.{kept_count, kept_rule}
use Rattle.prt_rows.specs.Meanings.{insert_meta_command}
use Rattle.prt_rows.specs.MetaRow.{meta_row}
use Rattle.prt_rows.specs.RuleRow.{IsRule}
use Rattle.prt_rows.specs.Statements.{insert_meta}
use Rattle.prt_rows.specs.Tables.{meta_table, our_tables, route_table, rule_table, schema_with, suppress_table}
use Rattle.prt_rule.specs.declared.rule.Rule.{Rule}
use Rattle.prt_version.proofs.Successor.{opens_sound}
use Rattle.prt_version.specs.State.{opening_rules, opening_state, table_rule}
use Rattle.prt_store.proofs.Changes.{among_others, keyed_rules}
use Rattle.prt_store.proofs.Looks.{no_rows, ours_there}
use Rattle.prt_store.specs.declared.opening.OurTable.TheVariants as ours
use Rattle.prt_store.proofs.Spelling.{same_rows}
use Rattle.prt_store.specs.Adopted.{IsFilled}
use Rattle.prt_store.specs.Lengths.{plain}
use Rattle.prt_store.specs.Openings.{Fills, HasDone, begun_from}
use Rattle.prt_store.specs.Stored.{FitsTables, Stores}

-- ---- the opening state fits the tables

range : (low high n : ℕ) → low ≤ n → n ≤ high → IsWithin low high n
range low high n least most = record { least = least; most = most }

fits_rule : (id priority table : ℕ) → 1 ≤ id → id ≤ 3 → priority ≤ 4294967295 → table ≤ 4294967295 → IsRule 3 (table_rule id priority table)
fits_rule id priority table least most fits few = record {
  id = range 1 3 id least most;
  priority = range 0 4294967295 priority (omega arith) fits;
  from = record { short = omega arith; fits = omega arith; clear = refl };
  to = record { short = omega arith; fits = omega arith; clear = refl };
  iif = tt;
  mark = (tt, tt);
  action = range 0 4294967295 table (omega arith) few;
  plain = refl;
}

fits_opening : (rule : Rule) → Has opening_rules rule → IsRule 3 (plain rule)
fits_opening rule (inl is) = subst (λ r. IsRule 3 (plain r)) (sym is) (fits_rule 1 0 local_table (omega arith) (omega arith) (omega arith) (omega arith))
fits_opening rule (inr (inl is)) = subst (λ r. IsRule 3 (plain r)) (sym is) (fits_rule 2 32766 main_table (omega arith) (omega arith) (omega arith) (omega arith))
fits_opening rule (inr (inr (inl is))) = subst (λ r. IsRule 3 (plain r)) (sym is) (fits_rule 3 32767 default_table (omega arith) (omega arith) (omega arith) (omega arith))
fits_opening rule (inr (inr (inr none))) = absurd none

opening_fits : FitsTables opening_state
opening_fits = record {
  sound = opens_sound (table_rule 1 0 local_table) (table_rule 2 32766 main_table) (table_rule 3 32767 default_table) opening_rules [] refl refl refl refl refl;
  rules = fits_opening;
  routes = λ route none. absurd none;
  storable = record { rules = (refl, (refl, (refl, tt))); routes = tt };
}

-- ---- rows that are the same

-- the other way round
turned : (a b c : Row) (rows : List Row) → HasSame rows (c ∷ b ∷ a ∷ []) → HasSame rows (a ∷ b ∷ c ∷ [])
turned a b c rows same = record {
  sound = λ x there. turn a b c x (same.sound x there);
  complete = λ x there. same.complete x (turn c b a x there);
}
  where
    turn : (a b c x : Row) → Has (c ∷ b ∷ a ∷ []) x → Has (a ∷ b ∷ c ∷ []) x
    turn a b c x (inl is) = inr (inr (inl is))
    turn a b c x (inr (inl is)) = inr (inl is)
    turn a b c x (inr (inr (inl is))) = inl is
    turn a b c x (inr (inr (inr none))) = absurd none

keyed_alone : (count : ℕ) → IsKeyed (kept_count count ∷ [])
unfolding IsDistinct
keyed_alone count = record { ints = λ row there. elim there [ inl is ↦ rw is refl | inr none ↦ absurd none ]; once = (tt, tt) }

-- one row in a table that had none
one_row : (count : ℕ) (old new : Database) → Adds meta_table (kept_count count) old new → old.trees 3 ≡ [] → new.trees 3 ≡ kept_count count ∷ []
one_row count old new adds empty =
    let same = one_more_row meta_table (kept_count count) [] old new adds (none_there (old.trees 3) empty) in
    one_permutation (kept_count count) (new.trees 3)
    (IsPermutation-sym (new.trees 3) (kept_count count ∷ []) (same_rows (new.trees 3) (kept_count count ∷ []) (adds.keyed (keyed_empty (old.trees 3) empty)) (keyed_alone count) same))

-- ---- the tables that are filled

-- a table apart from those of rules and of the count
module _ (a b c d e : Database) (one : ChangesOnly rule_table a b) (two : ChangesOnly rule_table b c) (three : ChangesOnly rule_table c d) (four : ChangesOnly meta_table d e) where
  schema_stays : e.schema ≡ a.schema
  schema_stays = four.schema ∙ three.schema ∙ two.schema ∙ one.schema

  stays : (table : Table) → Has a.schema.tables table → (table.tree ≡ 0 → ⊥) → (table.tree ≡ 3 → ⊥) → e.trees table.tree ≡ a.trees table.tree
  stays table there rule meta =
      let in_b = subst (λ (s : Schema). Has s.tables table) (sym one.schema) there in
      let in_c = subst (λ (s : Schema). Has s.tables table) (sym two.schema) in_b in
      let in_d = subst (λ (s : Schema). Has s.tables table) (sym three.schema) in_c in
      four.others table in_d meta ∙ three.others table in_c rule ∙ two.others table in_b rule ∙ one.others table there rule

module _ (a b c d e : Database) (tables : IsFormat2 a.schema) (empty : AreEmpty a) (one : Adds rule_table (kept_rule (table_rule 1 0 local_table)) a b) (two : Adds rule_table (kept_rule (table_rule 2 32766 main_table)) b c)
    (three : Adds rule_table (kept_rule (table_rule 3 32767 default_table)) c d) (four : Adds meta_table (kept_count 0) d e) where
  no_rules : a.trees 0 ≡ []
  no_rules = no_rows a tables empty ours.Rule

  no_routes : a.trees 1 ≡ []
  no_routes = no_rows a tables empty ours.Route

  no_count : a.trees 3 ≡ []
  no_count = no_rows a tables empty ours.Meta

  rules_stay : e.trees 0 ≡ d.trees 0
  rules_stay = four.only.others rule_table (subst (λ (s : Schema). Has s.tables rule_table) (sym (three.only.schema ∙ two.only.schema ∙ one.only.schema)) (ours_there a.schema tables ours.Rule)) (λ is. absurd (cc))

  meta_stays : d.trees 3 ≡ a.trees 3
  meta_stays =
      let there = ours_there a.schema tables ours.Meta in
      let in_b = subst (λ (s : Schema). Has s.tables meta_table) (sym one.only.schema) there in
      let in_c = subst (λ (s : Schema). Has s.tables meta_table) (sym two.only.schema) in_b in
      three.only.others meta_table in_c (λ is. absurd (cc)) ∙ two.only.others meta_table in_b (λ is. absurd (cc)) ∙ one.only.others meta_table there (λ is. absurd (cc))

  routes_stay : e.trees 1 ≡ a.trees 1
  routes_stay = stays a b c d e one.only two.only three.only four.only route_table (ours_there a.schema tables ours.Route) (λ is. absurd (cc)) (λ is. absurd (cc))

  no_lengths : e.trees 4 ≡ []
  no_lengths =
      stays a b c d e one.only two.only three.only four.only suppress_table (ours_there a.schema tables ours.Suppress) (λ is. absurd (cc)) (λ is. absurd (cc)) ∙ no_rows a tables empty ours.Suppress

  opened : Stores e opening_state
  opened = record {
    tables = subst IsFormat2 (sym (schema_stays a b c d e one.only two.only three.only four.only)) tables;
    rules = subst (λ rows. IsPermutation rows (map kept_rule opening_rules)) (sym rules_stay)
        (same_rows (d.trees 0) (map kept_rule opening_rules) (three_keyed (table_rule 1 0 local_table) (table_rule 2 32766 main_table) (table_rule 3 32767 default_table) a b c d one two three no_rules) (keyed_rules opening_rules opening_fits.sound.distinct_ids)
        (turned _ _ _ (d.trees 0) (three_rules (table_rule 1 0 local_table) (table_rule 2 32766 main_table) (table_rule 3 32767 default_table) a b c d one two three no_rules)));
    routes = subst (λ rows. IsPermutation (map (drop 1) rows) []) (sym (routes_stay ∙ no_routes)) (IsPermutation-refl []);
    keyed = keyed_empty (e.trees 1) (routes_stay ∙ no_routes);
    lengths = subst (λ rows. IsPermutation rows []) (sym no_lengths) (IsPermutation-refl []);
    count = one_row 0 d e four (meta_stays ∙ no_count);
    fits = opening_fits;
  }

  others_stay : (table : Table) → Has a.schema.tables table → (Has our_tables table → ⊥) → Has e.schema.tables table × (e.trees table.tree ≡ a.trees table.tree)
  others_stay table there not_ours =
      let other = among_others a.schema tables table there not_ours in (
        subst (λ (s : Schema). Has s.tables table) (sym (schema_stays a b c d e one.only two.only three.only four.only)) there,
        stays a b c d e one.only two.only three.only four.only table there (λ is. absurd (eqb-false table.tree 0 (tables.others.rule table other) is)) (λ is. absurd (eqb-false table.tree 3 (tables.others.meta table other) is)),
      )

  filled : IsFilled a e
  filled = record {
    empty = empty;
    opening = opened;
    others = others_stay;
    made = λ table there. inl (subst (λ (s : Schema). Has s.tables table) (schema_stays a b c d e one.only two.only three.only four.only) there);
  }

-- ---- the step that fills them

pub fills : {S : Type 0} (g : Ghosts S) (old : Held S) (db : Database) → IsFormat2 (state g old).now.schema → AreEmpty (state g old).now → HasDone g (Fills g) old db
    → IsDatabase db × IsFormat2 db.schema × IsFilled (state g old).now db
fills g old db t empty done =
    let last = done.0 in
    let rules_in = done.1 in
    let start = state g (begun_from old) in
    let one_mid = rules_in.1.0 in
    let two_mid = rules_in.1.2.0 in
    let r1 = rules_in.1.1 in
    let r2 = rules_in.1.2.1 in
    let r3 = rules_in.1.2.2 in
    let third = rules_in.0 in
    let count = rules_in.2 in
    let one = adds_rule t.tables t.indexes t.views t.others start (state g one_mid) (table_rule 1 0 local_table) r1.0 t.is r1.1 in
    let is_b = one.only.schema ∙ t.is in
    let two = adds_rule t.tables t.indexes t.views t.others (state g one_mid) (state g two_mid) (table_rule 2 32766 main_table) r2.0 is_b r2.1 in
    let is_c = two.only.schema ∙ is_b in
    let three = adds_rule t.tables t.indexes t.views t.others (state g two_mid) (state g third) (table_rule 3 32767 default_table) r3.0 is_c r3.1 in
    let is_d = three.only.schema ∙ is_c in
    let four = adds_count t.tables t.indexes t.views t.others (state g third) (state g last) 0 count.0 is_d count.1 in
    let means = insert_meta_is t.tables t.indexes t.views in
    let w = runs_as insert_meta (meta_row 0) (state g third) (state g last) (schema_with t.tables t.indexes t.views) is_d insert_meta_command means.0 means.1 count.0 count.1 in
    let all = filled (state g old).now (state g one_mid).now (state g two_mid).now (state g third).now (state g last).now t empty one two three four in
    subst (λ (d : Database). IsDatabase d × IsFormat2 d.schema × IsFilled (state g old).now d) (sym done.2) (w.sound, all.opening.tables, all)
