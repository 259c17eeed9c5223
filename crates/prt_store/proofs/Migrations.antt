-- What the migration of a file does.
use Rattle.std.proofs.Common.{inl, inr, true, false, [], Ok, Result, OnOk, sym, subst, arith}
use Rattle.std.proofs.lemmas.Result.{on_ok_weaker}
use Rattle.sqlite.proofs.Callers.{runs_as}
use Rattle.sqlite.proofs.StateLemmas.{survives_then}
use Rattle.sqlite.specs.Effect.{Database, IsDatabase}
use Rattle.sqlite.specs.Held.{Held, state}
use Rattle.sqlite.specs.State.{HasCleanDisk, IsLive, Survives}
use Rattle.sqlite.specs.Store.{Ghosts}
use Rattle.prt_refusals.specs.declared.refusal.Refusal.{Refusal}
use Rattle.prt_rows.proofs.Migrating.{sets_format}
use Rattle.prt_rows.proofs.Texts.{migrate_is}
use Rattle.prt_rows.specs.Effects.{Migrates}
use Rattle.prt_rows.specs.Format.{IsFormat2}
use Rattle.prt_rows.specs.Meanings.{migrate_command}
use Rattle.prt_rows.specs.Statements.{migrate}
use Rattle.prt_rows.specs.Tables.{schema_with}
use Rattle.prt_store.proofs.Loads.{named_if_shown, not_named_if_shown}
use Rattle.prt_store.proofs.Looks.{empty_if_shown, is_due_if, named_if_due, not_empty_if_shown}
use Rattle.prt_store.specs.Shown.{ShowsDue, ShowsNotDue}
use Rattle.prt_store.specs.declared.opening.OurTable.TheVariants as ours
use Rattle.prt_store.specs.Adopted.{LeavesMigrated}
use Rattle.prt_store.specs.Openings.{Commits, Finds, HasDone, HasLeft, IsDue, Ran, begun_from}

-- ---- what was shown determines whether the file is to be migrated

module _ {S : Type 0} (g : Ghosts S) (a : Held S) (tables : IsFormat2 (state g a).now.schema) (sound : IsDatabase (state g a).now) where
  due_if_shown : ShowsDue g a → IsDue (state g a).now
  due_if_shown it = is_due_if (state g a).now tables (named_if_shown g a tables sound it.0, empty_if_shown g ours.Suppress a tables it.1)

  not_due_if_shown : ShowsNotDue g a → IsDue (state g a).now → ⊥
  not_due_if_shown (inl other) due = not_named_if_shown g a tables sound other (named_if_due (state g a).now tables due).0
  not_due_if_shown (inr some) due = not_empty_if_shown g ours.Suppress a tables some (named_if_due (state g a).now tables due).1

-- ---- the format is set

-- the statement that sets the format migrates a file of format 1
migrated_by : {S : Type 0} (g : Ghosts S) (old : Held S) (db : Database) → IsFormat2 (state g old).now.schema → IsDue (state g old).now → HasDone g (Ran g migrate []) old db → IsDatabase db × Migrates (state g old).now db
migrated_by g old db t due done =
    let last = done.0 in
    let ran = done.1 in
    let start = state g (begun_from old) in
    let means = migrate_is t.tables t.indexes t.views in
    let w = runs_as migrate [] start (state g last) (schema_with t.tables t.indexes t.views) t.is migrate_command means.0 means.1 ran.0 ran.1 in
    let set = sets_format t.tables t.indexes t.views t.others start (state g last) due.0 ran.0 t.is due.1.row ran.1 in
    subst (λ (d : Database). IsDatabase d × Migrates (state g old).now d) (sym done.2) (w.sound, inr (due.0, due.1, set))

-- ---- the whole migration

module _ {S : Type 0} (g : Ghosts S) (a b : Held S) (live : IsLive (state g a)) where
  -- a file that is not of format 1 stays as it is
  pub stays_as_it_is : Finds g (ShowsDue g a) (ShowsNotDue g a) a b (Ok false) → HasCleanDisk (state g b) → IsFormat2 (state g a).now.schema → Migrates (state g a).now (state g b).now
  stays_as_it_is one clean tables = let seen = one.ok clean in inl ((λ count was. not_due_if_shown g a tables (live seen.0.0.was_open).0 seen.1 (count, was)), seen.0.0.now_is)

  module _ (c : Held S) (result : Result (Unit {0}) Refusal) (one : Finds g (ShowsDue g a) (ShowsNotDue g a) a b (Ok true)) (two : Commits g (Ran g migrate []) b c result) where
    migrated_then : IsFormat2 (state g a).now.schema → HasCleanDisk (state g b) → (db : Database) → HasDone g (Ran g migrate []) b db → IsDatabase db × Migrates (state g a).now db
    migrated_then tables clean db done =
        let seen = one.ok clean in
        let same = seen.0.0.now_is in
        let it = migrated_by g b db (subst (λ (d : Database). IsFormat2 d.schema) (sym same) tables) (subst IsDue (sym same) (due_if_shown g a tables (live seen.0.0.was_open).0 seen.1)) done in
        (it.0, subst (λ (d : Database). Migrates d db) same it.1)

    clean_before : HasCleanDisk (state g c) → HasCleanDisk (state g b)
    clean_before clean = omega (arith, two.crash.clean, clean)

    pub is_migrated : HasCleanDisk (state g c) → IsFormat2 (state g a).now.schema → OnOk result (Migrates (state g a).now (state g c).now)
    is_migrated clean tables = on_ok_weaker result (λ it. subst (Migrates (state g a).now) (sym it.1.committed) (migrated_then tables (clean_before clean) (state g c).committed it.0).1) (two.ok clean)

    pub leaves_migrated : (HasCleanDisk (state g a) → IsFormat2 (state g a).now.schema) → Survives (state g a) (state g c) (LeavesMigrated (state g a).now)
    leaves_migrated tables =
        survives_then (state g a) (state g b) (state g c) (λ _. ⊥) (HasLeft g (Ran g migrate []) b) (LeavesMigrated (state g a).now) (λ clean trees none. absurd none)
        (λ clean trees left.
        let late = clean_before clean in
        let it = migrated_then (tables (omega (arith, one.quiet.clean, late))) late left.0 left.1 in
        record { db = left.0; is = left.2; sound = it.0; migrates = it.1 }) one.quiet two.crash
