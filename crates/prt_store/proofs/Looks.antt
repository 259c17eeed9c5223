-- What the statements that look at the tables report, one after the other.
use Rattle.std.proofs.Common.{◌≡◌, ◌⊎◌, inl, inr, ℕ, Bool, List, [], ◌∷◌, length, IsTrue, refl, sym, ap, subst, ◌∙◌, arith}
use Rattle.std.proofs.lemmas.Bool.{ne_eqb}
use Rattle.std.specs.Prelude.{◌==◌, MatchBool}
use Rattle.sqlite.specs.Effect.{Database}
use Rattle.sqlite.specs.Held.{Held, state}
use Rattle.sqlite.specs.Listing.{understood}
use Rattle.sqlite.specs.Schema.{Schema}
use Rattle.sqlite.specs.State.{IsRolledBack, IsUnchanged, Shown, State as Conn}
use Rattle.sqlite.specs.Store.{Ghosts}
use Rattle.sqlite.specs.Table.{Table}
use Rattle.sqlite_rules.specs.Lists.{Has}
use Rattle.sqlite_value.specs.Order.{Row}
use Rattle.prt_rows.proofs.Looking.{Looks, looks_at_meta, looks_at_routes, looks_at_rules, looks_at_suppress}
use Rattle.prt_rows.proofs.Quiet.{IsQuiet, quiet_meta, quiet_routes, quiet_rules, quiet_suppress}
use Rattle.prt_rows.specs.Effects.{AreEmpty}
use Rattle.prt_rows.specs.Format.{IsFormat2}
use Rattle.prt_rows.specs.Tables.{meta_table, our_tables, route_table, rule_table, suppress_table}
use Rattle.prt_store.specs.Openings.{IsDue, IsEmpty, NamesFormat1, table_of}
use Rattle.prt_store.specs.Shown.{ShowsContents, ShowsNoRow, ShowsRows, ShowsSomeRow, look_at}
use Rattle.prt_store.specs.declared.opening.OurTable.{OurTable}
use Rattle.prt_store.specs.declared.opening.OurTable.TheVariants as ours

-- a query that fails leaves what was there, if the connection is still open
pub still_there : (old new : Conn) → IsUnchanged old new ⊎ IsRolledBack old new → IsTrue new.is_open → (IsTrue old.is_open → old.now ≡ old.committed) → new.now ≡ old.now
still_there old new (inl same) still_open settled = same.0.now_is
still_there old new (inr undone) still_open settled = (undone.undone still_open).0 ∙ sym (settled (undone.was_open still_open))

-- ---- one look

-- the statement changes nothing
pub quiet_look : (table : OurTable) (schema : Schema) → IsQuiet (understood schema (look_at table))
quiet_look ours.Rule = quiet_rules
quiet_look ours.Route = quiet_routes
quiet_look ours.Meta = quiet_meta
quiet_look ours.Suppress = quiet_suppress

looks_at : (table : OurTable) (old new : Conn) → IsFormat2 old.now.schema → (found : List Row) → Shown (look_at table) [] old new found → Looks (old.now.trees (table_of table).tree) found
looks_at ours.Rule old new t found = looks_at_rules t.tables t.indexes t.views old new t.is found
looks_at ours.Route old new t found = looks_at_routes t.tables t.indexes t.views old new t.is found
looks_at ours.Meta old new t found = looks_at_meta t.tables t.indexes t.views old new t.is found
looks_at ours.Suppress old new t found = looks_at_suppress t.tables t.indexes t.views old new t.is found

-- whether it found nothing determines what it showed
module _ {S : Type 0} (g : Ghosts S) (table : OurTable) (conn : Held S) where
  pub look_tells : (found : List Row) (n : ℕ) (b : Bool) → n ≡ length found → b ≡ (n == 0) → ShowsRows g conn (look_at table) found → MatchBool b (ShowsNoRow g conn table) (ShowsSomeRow g conn table)
  look_tells [] n b long is it = subst (λ b. MatchBool b (ShowsNoRow g conn table) (ShowsSomeRow g conn table)) (sym (is ∙ ap (λ n. n == 0) long)) it
  look_tells (x ∷ found) n b long is it =
      subst (λ b. MatchBool b (ShowsNoRow g conn table) (ShowsSomeRow g conn table)) (sym (is ∙ ap (λ n. n == 0) long ∙ ne_eqb (length (x ∷ found)) 0 (λ zero. absurd (omega (arith, zero))))) (x ∷ found, it, λ none. absurd (let e = none in cc))

  module _ (tables : IsFormat2 (state g conn).now.schema) where
    shown_looks : (found : List Row) → ShowsRows g conn (look_at table) found → Looks ((state g conn).now.trees (table_of table).tree) found
    shown_looks found it = subst (λ (db : Database). Looks (db.trees (table_of table).tree) found) it.2 (looks_at table (state g it.0) (state g it.1) (subst (λ (db : Database). IsFormat2 db.schema) (sym it.2) tables) found it.3)

    pub empty_if_shown : ShowsNoRow g conn table → IsEmpty table (state g conn).now
    empty_if_shown it = (shown_looks [] it).none refl

    pub not_empty_if_shown : ShowsSomeRow g conn table → IsEmpty table (state g conn).now → ⊥
    not_empty_if_shown it empty = it.2 ((shown_looks it.0 it.1).some empty)

-- ---- the four tables

-- our tables are there
pub our_table : (schema : Schema) → IsFormat2 schema → (table : Table) → Has our_tables table → Has schema.tables table
our_table schema t table ours = subst (λ (s : Schema). Has s.tables table) (sym t.is) (first_four table ours)
  where
    first_four : (table : Table) → Has our_tables table → Has (rule_table ∷ route_table ∷ meta_table ∷ suppress_table ∷ t.tables) table
    first_four table (inl is) = inl is
    first_four table (inr (inl is)) = inr (inl is)
    first_four table (inr (inr (inl is))) = inr (inr (inl is))
    first_four table (inr (inr (inr (inl is)))) = inr (inr (inr (inl is)))
    first_four table (inr (inr (inr (inr none)))) = absurd none

ours_in : (table : OurTable) → Has our_tables (table_of table)
ours_in ours.Rule = inl refl
ours_in ours.Route = inr (inl refl)
ours_in ours.Meta = inr (inr (inl refl))
ours_in ours.Suppress = inr (inr (inr (inl refl)))

pub ours_there : (schema : Schema) → IsFormat2 schema → (table : OurTable) → Has schema.tables (table_of table)
ours_there schema t table = our_table schema t (table_of table) (ours_in table)

-- a table of ours that is empty has no rows
pub no_rows : (db : Database) → IsFormat2 db.schema → AreEmpty db → (table : OurTable) → IsEmpty table db
no_rows db t empty table = empty (table_of table) (ours_in table) (ours_there db.schema t table)

all_empty : (db : Database) → ((table : OurTable) → IsEmpty table db) → AreEmpty db
all_empty db none table (inl is) there = subst (λ (t : Table). db.trees t.tree ≡ []) (sym is) (none ours.Rule)
all_empty db none table (inr (inl is)) there = subst (λ (t : Table). db.trees t.tree ≡ []) (sym is) (none ours.Route)
all_empty db none table (inr (inr (inl is))) there = subst (λ (t : Table). db.trees t.tree ≡ []) (sym is) (none ours.Meta)
all_empty db none table (inr (inr (inr (inl is)))) there = subst (λ (t : Table). db.trees t.tree ≡ []) (sym is) (none ours.Suppress)
all_empty db none table (inr (inr (inr (inr other)))) there = absurd other

-- what the statements that look at them show of the four
module _ {S : Type 0} (g : Ghosts S) (conn : Held S) (tables : IsFormat2 (state g conn).now.schema) where
  pub all_empty_if_shown : ((table : OurTable) → ShowsNoRow g conn table) → AreEmpty (state g conn).now
  all_empty_if_shown none = all_empty (state g conn).now (λ table. empty_if_shown g table conn tables (none table))

  pub not_all_empty_if_shown : ShowsContents g conn → AreEmpty (state g conn).now → ⊥
  not_all_empty_if_shown some empty = not_empty_if_shown g some.0 conn tables some.1 (no_rows (state g conn).now tables empty some.0)

-- ---- the format

-- the file is to be migrated if its `meta` names format 1 and it has no lengths
pub is_due_if : (db : Database) → IsFormat2 db.schema → NamesFormat1 db × IsEmpty ours.Suppress db → IsDue db
is_due_if db t found =
    let named = found.0 in
    (named.0, record { there = ours_there db.schema t ours.Meta; fits = named.1; row = named.2; none = λ there. found.1 })

pub named_if_due : (db : Database) → IsFormat2 db.schema → IsDue db → NamesFormat1 db × IsEmpty ours.Suppress db
named_if_due db t due = ((due.0, due.1.fits, due.1.row), due.1.none (ours_there db.schema t ours.Suppress))
