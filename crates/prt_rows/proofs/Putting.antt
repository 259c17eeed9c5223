-- What the statement that puts a route does to the rows.
use Rattle.std.proofs.Common.{◌≡◌, inl, inr, ℕ, ℤ, List, [], ◌∷◌, Option, Some, None, Ok, refl, sym, ap, subst, ◌∙◌}
use Rattle.sqlite.proofs.Callers.{one_step}
use Rattle.sqlite.specs.Edit.{edit_of, next_rowid}
use Rattle.sqlite.specs.Effect.{Database}
use Rattle.sqlite.specs.Rows.{Clears, Meets, Puts, Task, Tries, TriesEach, Upserts, Written, count_of, nothing}
use Rattle.sqlite.specs.Rowids.TheVariants.{Chosen, Given}
use Rattle.sqlite.specs.Schema.{Schema}
use Rattle.sqlite.specs.State.{State, Executes}
use Rattle.sqlite.specs.Table.{Table}
use Rattle.sqlite.specs.Tree.{Trees, rowid}
use Rattle.sqlite.specs.declared.types.Value.TheVariants.{Null}
use Rattle.sqlite_rules.proofs.ListLemmas.{all_has}
use Rattle.sqlite_rules.specs.Calls.{ids_of}
use Rattle.sqlite_rules.specs.Edit.{taken_by, with_rowid}
use Rattle.sqlite_rules.specs.Keys.{AreConflicts, conflicts}
use Rattle.sqlite_rules.specs.Lists.{Has}
use Rattle.sqlite_schema.specs.declared.command.Conflict.TheVariants.{Abort}
use Rattle.sqlite_schema.specs.declared.schema.Index.{Index}
use Rattle.sqlite_schema.specs.declared.schema.Keys.TheVariants.{Enforced}
use Rattle.sqlite_schema.specs.declared.schema.View.{View}
use Rattle.sqlite_value.specs.Order.{Row}
use Rattle.prt_route.specs.declared.route.Route.{Route}
use Rattle.prt_rows.proofs.Casts.{cast_null, cast_route}
use Rattle.prt_rows.proofs.Writing.{same_value, went, wrote}
use Rattle.prt_rows.proofs.Foreign.{no_works}
use Rattle.prt_rows.proofs.Found.{Finds, finds_passing}
use Rattle.prt_rows.proofs.Replacing.{PutsRow, puts_new, puts_in_place, update_values}
use Rattle.prt_rows.proofs.RouteKeys.{conflict_is, split}
use Rattle.prt_rows.proofs.Texts.{put_route_is}
use Rattle.prt_rows.specs.Effects as effects
use Rattle.prt_rows.specs.Effects.{AreRouteRows, IsKeyed}
use Rattle.prt_rows.specs.Kept.{kept_route}
use Rattle.prt_rows.specs.Meanings.{on_key, put_route_command, replaced_terms, same_rowid}
use Rattle.prt_rows.specs.Others.{AreNotOfRoutes, AreOthers}
use Rattle.prt_rows.specs.RouteRow.{route_row}
use Rattle.prt_rows.specs.Statements.{put_route}
use Rattle.prt_rows.specs.Tables.{key_places, route_key, route_table, schema_with}
use Rattle.sqlite.specs.declared.types.Value.TheVariants.{Int}

module _ (tables : List Table) (indexes : List Index) (views : List View) (others : AreOthers tables) (free : AreNotOfRoutes indexes) where
  abbrev schema : Schema
  schema = schema_with tables indexes views

  abbrev task_of : Option ℕ → Route → Task
  task_of limit route = record { limit = limit; keys = Enforced; schema = schema; table = route_table; params = route_row route }

  module _ (limit : Option ℕ) (route : Route) (db : Trees) (routes : AreRouteRows (db 1)) (distinct : IsKeyed (db 1)) (id : ℤ) where
    abbrev new : Row
    new = kept_route (Int id) route

    -- the other tables of the file keep their rows
    abbrev OthersStay : Trees → Type 0
    OthersStay next = (other : Table) → Has schema.tables other → (other.tree ≡ 1 → ⊥) → next other.tree ≡ db other.tree

    abbrev Made : Trees → Type 0
    Made next = PutsRow tables indexes views free route db next routes distinct × OthersStay next

    put_in : (w : Written) → AreConflicts (Some key_places) (route_key ∷ indexes) route_table (db 1) new [] → Puts (task_of limit route) new db (Ok w) → Made w.trees
    put_in w none puts =
        let e = went puts in
        let edit = edit_of db route_table [] Given 0 (new ∷ []) in
        let step = one_step schema Enforced db e.0 edit (no_works 1 tables indexes views others.route others.elsewhere Enforced refl 0 (taken_by db edit) edit.news) e.1 in
        let trees : w.trees ≡ e.0 = ap (λ (it : Written). it.trees) (same_value e.2) in
        subst Made (sym trees) (puts_new tables indexes views free route db e.0 routes distinct id none step, λ other among apart. all_has _ schema.tables other step.tables among apart)

    resolved : (w : Written) (found : List Row) → AreConflicts (Some key_places) (route_key ∷ indexes) route_table (db 1) new found
        → Meets (task_of limit route) (Upserts (task_of limit route) Abort new db []) new db on_key found (Ok w) → Made w.trees
    resolved w [] none meets = elim meets.0 as (λ f. Clears (task_of limit route) Abort new db f (Ok w) → Made w.trees) [ [] ↦ λ p. put_in w none p | x ∷ more ↦ λ p. put_in w none p ] meets.2
    resolved w (there ∷ more) met meets =
        let it = met.sound there (inl refl) in
        let q = routes it.0 it.1 in
        let same = sym (ap (λ y. conflicts (Some key_places) (route_key ∷ indexes) route_table new y) (split it.0 q.0 q.1) ∙ conflict_is indexes free (rowid it.0) (Int id) q.0 route) ∙ it.2 in
        let queried = went meets in
        let e = went queried.2 in
        let found = finds_passing 1 same_rowid replaced_terms (record { schema = schema; trees = db }) (update_values route (rowid there) id) queried.0 refl queried.1 in
        let edit = edit_of db route_table (ids_of queried.0) Given 1 queried.0 in
        let step = one_step schema Enforced db e.0 edit (no_works 1 tables indexes views others.route others.elsewhere Enforced refl 0 (taken_by db edit) edit.news) e.1 in
        let trees : w.trees ≡ e.0 = ap (λ (it : Written). it.trees) (same_value e.2) in
        let finds = subst (λ (t : Row). Finds same_rowid replaced_terms (db 1) (update_values route (rowid t) id) queried.0) it.3 found in
        subst Made (sym trees) (
          puts_in_place tables indexes views free route db e.0 routes distinct id it.0 q.0 it.1 q.1 same queried.0 finds step,
          λ other among apart. all_has _ schema.tables other step.tables among apart,
        )

    tried : (w : Written) → Tries (task_of limit route) Abort (on_key ∷ []) new db (Ok w) → Made w.trees
    tried w (inl wide) = absurd (let e = wide.1 in cc)
    tried w (inr (None, judged, upserts)) = resolved w upserts.0 upserts.1 upserts.2
    tried w (inr (Some why, judged, refused)) = absurd (let e = refused in cc)

  pub puts_route : (old new : State) (route : Route) (count : ℕ) → old.now.schema ≡ schema → AreRouteRows (old.now.trees 1) → IsKeyed (old.now.trees 1) → Executes put_route (route_row route) old new (Ok count)
      → effects.Puts route old.now new.now
  puts_route old new route count has routes distinct ran =
      let db = old.now.trees in
      let params = route_row route in
      let task = task_of old.step_limit route in
      let is = put_route_is tables indexes views in
      let w = wrote schema 1 route_table refl put_route put_route_command is (λ _ _ _ _ _ runs. runs) (λ _ _ _ _ _ _ _ does. does) old new params count has ran in
      let sourced = went w.1 in
      let counter = went sourced.2 in
      let each = went counter.2 in
      let next = went each.2 in
      let id = next_rowid (db 1) in
      let one = went (subst (λ rows. TriesEach task Abort (on_key ∷ []) rows (count_of counter.0) (nothing db) (Ok each.0)) sourced.1.1 each.1) in
      let tries = subst (λ n. Tries task Abort (on_key ∷ []) n db (Ok one.0)) (ap (with_rowid Chosen (db 1)) (cast_route Null route cast_null)) one.1 in
      let made = tried old.step_limit route db routes distinct id one.0 tries in
      let first : each.0.0.trees ≡ one.0.trees = ap (λ (p : Written × ℤ). p.0.trees) (same_value one.2) in
      let then : next.0 ≡ each.0.0.trees = same_value next.1 in
      let last : w.0.trees ≡ next.0 = ap (λ (it : Written). it.trees) (same_value next.2) in
      let all : new.now.trees ≡ one.0.trees = ap (λ (d : Database). d.trees) w.2 ∙ last ∙ then ∙ first in
      let it = subst (λ t. PutsRow tables indexes views free route db t routes distinct × ((other : Table) → Has schema.tables other → (other.tree ≡ 1 → ⊥) → t other.tree ≡ db other.tree)) (sym all) made in
      record {
        only = record {
          schema = ap (λ (d : Database). d.schema) w.2 ∙ sym has;
          others = λ other among apart. it.1 other (subst (λ (s : Schema). Has s.tables other) has among) apart;
        };
        sound = it.0.sound;
        here = it.0.here;
        complete = it.0.complete;
        keyed = it.0.keyed;
      }
