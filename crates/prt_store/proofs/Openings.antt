-- The steps of an opening, one after the other.
use Rattle.std.proofs.Common.{◌≡◌, ◌≢◌, ◌⊎◌, inl, inr, ℕ, Bool, true, false, [], ◌∷◌, Ok, Err, Result, IfErr, IsErr, IsTrue, OnErr, OnOk, true≢false, refl, sym, ap, subst, ◌∙◌, arith}
use Rattle.std.proofs.lemmas.Result.{on_err_weaker, on_ok_weaker}
use Rattle.std.specs.Result.{is_err, result_or}
use Rattle.sqlite.proofs.StateLemmas.{survives_then, survives_weaker}
use Rattle.sqlite.specs.Effect.{Database, IsDatabase}
use Rattle.sqlite.specs.Held.{Held, state}
use Rattle.sqlite.specs.Schema.{Schema}
use Rattle.sqlite.specs.State.{HasCleanDisk, IsRolledBack, IsUnchanged, KeepsCounts, Shows, Survives}
use Rattle.sqlite.specs.Steps.{FailsToCommit}
use Rattle.sqlite.specs.Store.{Ghosts}
use Rattle.sqlite.specs.Table.{Table}
use Rattle.sqlite.specs.Tree.{Trees}
use Rattle.sqlite.specs.declared.error.Error.{Error}
use Rattle.sqlite_rules.specs.Lists.{Has}
use Rattle.prt_refusals.specs.declared.refusal.Refusal.{Refusal}
use Rattle.prt_refusals.specs.declared.refusal.Refusal.TheVariants.{OpenFailed}
use Rattle.prt_rows.proofs.Creating.{makes_meta, makes_route, makes_rule, makes_suppress}
use Rattle.prt_rows.proofs.Keeping.{empty_after, empty_before, format_made, keeps_format_1, keeps_itself, keeps_none, keeps_rules, keeps_rules_and_routes, keeps_then, meta_missing, meta_there, routes_missing, routes_there, rules_missing, rules_there, suppress_missing, suppress_there}
use Rattle.prt_rows.specs.Effects.{AreEmpty, IsOfFormat1, KeepsTables, Migrates, Sets}
use Rattle.prt_rows.specs.Format.{BeginsFormat2, BeginsWithMeta, BeginsWithRoutes, BeginsWithRules, IsFormat2, has_table}
use Rattle.prt_rows.specs.Kept.{kept_count, kept_count_1}
use Rattle.prt_rows.specs.Statements.{create_meta, create_route, create_rule, create_suppress}
use Rattle.prt_rows.specs.Tables.{format_1_alone, meta_table, no_tables, our_tables, rule_alone, rule_and_route, suppress_table}
use Rattle.prt_store.proofs.Filling.{fills}
use Rattle.prt_store.proofs.Looks.{all_empty_if_shown, not_all_empty_if_shown}
use Rattle.prt_store.proofs.Transactions.{committed, crash_after, left_alone, not_committed, stopped, survives_itself}
use Rattle.prt_store.specs.Adopted.{Adopts, AdoptsPart, IsFilled, IsSettled, LeavesMigrated, LeavesPart, MigratesTables}
use Rattle.prt_store.specs.Openings.{Advances, Commits, Fills, Finds, HasDone, HasLeft, MakesMissing, OpensTables, Ran, Takes, Works, begun_from, table_of}
use Rattle.prt_store.specs.Shown.{ShowsContents, ShowsNoRow}
use Rattle.prt_store.specs.declared.opening.OurTable.{OurTable}
use Rattle.prt_store.specs.declared.opening.OurTable.TheVariants as ours
use Rattle.prt_store.specs.declared.opening.Step.TheVariants as step

pub on_any : {T E P : Type 0} (r : Result T E) → P → OnOk r P
on_any (Ok x) it = it
on_any (Err e) it = tt

both_ok : {T E : Type 0} (P Q : Type 0) (r : Result T E) → OnOk r P → OnOk r Q → OnOk r (P × Q)
both_ok P Q (Ok x) one two = (one, two)
both_ok P Q (Err e) one two = tt

on_err_any : {T E P : Type 0} (r : Result T E) → P → OnErr r P
on_err_any (Ok x) it = tt
on_err_any (Err e) it = it

-- ---- the end of a transaction

module _ {S : Type 0} (g : Ghosts S) (Does : Held S → Held S → Type 0) (old begun last end : Held S) (result : Result ℕ Error) (was : begun ≡ begun_from old) (works : Works g Does begun last result) (fine : is_err result ≡ false)
    (settled : IsTrue (state g old).is_open → (state g old).now ≡ (state g old).committed) (survives : Survives (state g last) (state g end) (λ trees. trees ≡ (state g last).now.trees)) where
  -- what was done is committed, or the commit fails
  pub ends : (done : Result (Unit {0}) Error)
      → (HasCleanDisk (state g end) → OnOk done (IsTrue (state g last).in_transaction × Shows (state g last) (state g end) (state g last).now (state g last).now false × KeepsCounts (state g last) (state g end) × ((state g end).marks ≡ [])))
      → (HasCleanDisk (state g end) → IfErr done (FailsToCommit (state g last) (state g end))) → Commits g Does old end (result_or done (Err OpenFailed))
  ends (Ok x) shows fails = record {
    ok = λ clean. committed g Does old begun last result was works fine end survives.clean (shows clean).1 clean;
    err = λ clean still_open. tt;
    crash = crash_after g Does old begun last result was works fine end survives;
  }
  ends (Err e) shows fails = record {
    ok = λ clean. tt;
    err = λ clean still_open. not_committed g Does old begun last result was works fine end (Err e) refl clean survives.clean (fails clean) settled still_open;
    crash = crash_after g Does old begun last result was works fine end survives;
  }

-- what was refused is rolled back
pub stops : {S : Type 0} (g : Ghosts S) (Does : Held S → Held S → Type 0) (old begun last end : Held S) (result : Result ℕ Error) → begun ≡ begun_from old → Works g Does begun last result → (IsTrue (state g old).is_open → (state g old).now ≡ (state g old).committed)
    → Survives (state g last) (state g end) (λ _. ⊥) → (HasCleanDisk (state g end) → IsRolledBack (state g last) (state g end)) → Commits g Does old end (Err OpenFailed)
stops g Does old begun last end result was works settled survives undone = record {
  ok = λ clean. tt;
  err = λ clean still_open. (left_alone g Does old begun last result was works end survives.clean undone settled clean still_open).0;
  crash = stopped g Does old begun last result was works end (HasLeft g Does old) survives;
}

-- ---- what is left of an opening

-- nothing was done yet
nothing_done : (db : Database) → BeginsFormat2 db.schema → AdoptsPart db db
nothing_done db tables = record { tables = tables; rows = inl (keeps_itself db) }

pub filled_later : (old mid new : Database) → KeepsTables old mid → IsFilled mid new → IsFilled old new
filled_later old mid new keeps filled = record {
  empty = empty_before old mid keeps filled.empty;
  opening = filled.opening;
  others = λ table there not_ours.
      let first = keeps.kept table there in
      let second = filled.others table first.0 not_ours in
      (second.0, second.1 ∙ first.1);
  made = λ table there. elim (filled.made table there) [
    | inl before ↦ elim (keeps.made table before) [ inl was ↦ inl was | inr one_of_ours ↦ inr one_of_ours.0 ]
    | inr ours ↦ inr ours
  ];
}

-- ---- a file of format 1

-- it has a row
pub not_empty : (db : Database) (count : ℕ) → IsOfFormat1 db count → AreEmpty db → ⊥
not_empty db count was empty = let none : kept_count_1 count ∷ [] ≡ [] = sym was.row ∙ empty meta_table (inr (inr (inl refl))) was.there in cc

-- tables that are made leave it one
pub due_after : (old mid : Database) (count : ℕ) → KeepsTables old mid → IsOfFormat1 old count → IsOfFormat1 mid count
due_after old mid count keeps was =
    let meta = keeps.kept meta_table was.there in
    record {
      there = meta.0;
      fits = was.fits;
      row = meta.1 ∙ was.row;
      none = λ there. elim (keeps.made suppress_table there) [ inl before ↦ (keeps.kept suppress_table before).1 ∙ was.none before | inr made ↦ made.1 ];
    }

-- and make none
due_before : (old mid : Database) (count : ℕ) → KeepsTables old mid → IsOfFormat1 mid count → IsOfFormat1 old count
due_before old mid count keeps is = elim (keeps.made meta_table is.there) [
  | inl before ↦ record {
    there = before;
    fits = is.fits;
    row = sym (keeps.kept meta_table before).1 ∙ is.row;
    none = λ there. let now = keeps.kept suppress_table there in sym now.1 ∙ is.none now.0;
  }
  | inr made ↦ absurd (let none : kept_count_1 count ∷ [] ≡ [] = sym is.row ∙ made.1 in cc)
]

-- a table of ours is `meta` or keeps its rows apart from it
apart_or_meta : (table : Table) → Has our_tables table → (table ≡ meta_table) ⊎ (table.tree ≢ 3)
apart_or_meta table (inl is) = inr (λ tree. absurd (let e = sym (ap (λ (t : Table). t.tree) is) ∙ tree in cc))
apart_or_meta table (inr (inl is)) = inr (λ tree. absurd (let e = sym (ap (λ (t : Table). t.tree) is) ∙ tree in cc))
apart_or_meta table (inr (inr (inl is))) = inl is
apart_or_meta table (inr (inr (inr (inl is)))) = inr (λ tree. absurd (let e = sym (ap (λ (t : Table). t.tree) is) ∙ tree in cc))
apart_or_meta table (inr (inr (inr (inr none)))) = absurd none

-- a table of ours that has no rows has none once the format is set
still_empty : (mid new : Database) (migrated : MigratesTables mid new) (table : Table) → Has mid.schema.tables table → Has our_tables table → mid.trees table.tree ≡ [] → new.trees table.tree ≡ []
still_empty mid new migrated table there ours empty = elim (apart_or_meta table ours) [
  | inl is ↦ absurd (let none : kept_count_1 migrated.count ∷ [] ≡ [] = sym migrated.was.row ∙ subst (λ (t : Table). mid.trees t.tree ≡ []) is empty in cc)
  | inr apart ↦ (migrated.kept table there apart).1 ∙ empty
]

-- tables were made, and then the format was set
pub migrated_later : (old mid new : Database) → KeepsTables old mid → MigratesTables mid new → MigratesTables old new
migrated_later old mid new keeps migrated = record {
  count = migrated.count;
  was = due_before old mid migrated.count keeps migrated.was;
  row = migrated.row;
  there = migrated.there;
  kept = λ table there apart.
      let first = keeps.kept table there in
      let second = migrated.kept table first.0 apart in
      (second.0, second.1 ∙ first.1);
  made = λ table there. elim (migrated.made table there) [
    | inl before ↦ elim (keeps.made table before) [
      | inl was ↦ inl was
      | inr one_of_ours ↦ inr (one_of_ours.0, still_empty mid new migrated table before one_of_ours.0 one_of_ours.1)
    ]
    | inr none ↦ inr none
  ];
}

-- what the statement that sets the format does is a migration of the tables
migrated_of : (mid new : Database) (count : ℕ) → IsOfFormat1 mid count → Sets meta_table (kept_count count) mid new → MigratesTables mid new
migrated_of mid new count was set = record {
  count = count;
  was = was;
  row = set.alone;
  there = subst (λ (s : Schema). Has s.tables meta_table) (sym set.only.schema) was.there;
  kept = λ table there apart. (subst (λ (s : Schema). Has s.tables table) (sym set.only.schema) there, set.only.others table there apart);
  made = λ table there. inl (subst (λ (s : Schema). Has s.tables table) set.only.schema there);
}

-- what an opening leaves whose tables have rows
adopts_of : (old mid new : Database) → KeepsTables old mid → IsFormat2 mid.schema → (AreEmpty mid → ⊥) → Migrates mid new → Adopts old new
adopts_of old mid new keeps tables some (inl same) =
    subst (Adopts old) (sym same.1) (record {
      tables = tables;
      rows = inl (record { some = λ empty. some (empty_after old mid keeps empty); not_due = λ count was. same.0 count (due_after old mid count keeps was); keeps = keeps });
    })
adopts_of old mid new keeps tables some (inr due) =
    record { tables = subst IsFormat2 (sym due.2.only.schema) tables; rows = inr (inl (migrated_later old mid new keeps (migrated_of mid new due.0 due.1 due.2))) }

pub part_of : (old new : Database) → Adopts old new → AdoptsPart old new
part_of old new adopts = record { tables = inr (inr (inr (inr adopts.tables))); rows = elim adopts.rows [ inl kept ↦ inl kept.keeps | inr changed ↦ inr changed ] }

-- ---- what was done after tables were made

part_later : (old mid new : Database) → KeepsTables old mid → AdoptsPart mid new → AdoptsPart old new
part_later old mid new keeps part = record {
  tables = part.tables;
  rows = elim part.rows [
    | inl more ↦ inl (keeps_then old mid new keeps more)
    | inr changed ↦ elim changed [ inl migrated ↦ inr (inl (migrated_later old mid new keeps migrated)) | inr filled ↦ inr (inr (filled_later old mid new keeps filled)) ]
  ];
}

leaves_later : (old mid : Database) (trees : Trees) → KeepsTables old mid → LeavesPart mid trees → LeavesPart old trees
leaves_later old mid trees keeps left = record { db = left.db; is = left.is; sound = left.sound; part = part_later old mid left.db keeps left.part }

-- an opening that does nothing is refused
pub opens_nothing : {S : Type 0} (g : Ghosts S) (conn : Held S) (reason : Refusal) → OpensTables g conn conn (Err reason)
opens_nothing g conn reason = record {
  ok = λ clean tables. tt;
  err = λ clean still_open tables. nothing_done (state g conn).now tables;
  crash = λ tables. survives_itself (state g conn) (LeavesPart (state g conn).now);
}

-- ---- a table that is made if it is missing

module _ {S : Type 0} (g : Ghosts S) (table : OurTable) (From To : Schema → Type 0) (from : Schema) (there : (schema : Schema) → From schema → has_table (table_of table).name schema ≡ true → To schema)
    (missing : (schema : Schema) → From schema → has_table (table_of table).name schema ≡ false → schema ≡ from) (begins : (schema : Schema) → From schema → BeginsFormat2 schema) (goes_on : (schema : Schema) → To schema → BeginsFormat2 schema)
    (makes : (old : Held S) (db : Database) → (state g old).now.schema ≡ from → HasDone g (Takes g (step.Make table)) old db → IsDatabase db × To db.schema × KeepsTables (state g old).now db) where
  advances : (old new : Held S) (result : Result (Unit {0}) Refusal) → MakesMissing g table old new result → Advances g From To old new result
  advances old new result done = go (has_table (table_of table).name (state g old).now.schema) refl
    where
      stays : has_table (table_of table).name (state g old).now.schema ≡ true → Advances g From To old old result
      stays is = record {
        ok = λ clean tables. on_any result (there (state g old).now.schema tables is, keeps_itself (state g old).now);
        err = λ clean still_open tables. on_err_any result (nothing_done (state g old).now (begins (state g old).now.schema tables));
        crash = λ tables. survives_itself (state g old) (LeavesPart (state g old).now);
      }

      made_of : has_table (table_of table).name (state g old).now.schema ≡ false → From (state g old).now.schema → (db : Database) → HasDone g (Takes g (step.Make table)) old db → IsDatabase db × To db.schema × KeepsTables (state g old).now db
      made_of is tables db it = makes old db (missing (state g old).now.schema tables is) it

      left_of : has_table (table_of table).name (state g old).now.schema ≡ false → From (state g old).now.schema → (trees : Trees) → HasLeft g (Takes g (step.Make table)) old trees → LeavesPart (state g old).now trees
      left_of is tables trees left =
          let it = made_of is tables left.0 left.1 in
          record { db = left.0; is = left.2; sound = it.0; part = record { tables = goes_on left.0.schema it.1; rows = inl it.2 } }

      takes : has_table (table_of table).name (state g old).now.schema ≡ false → Commits g (Takes g (step.Make table)) old new result → Advances g From To old new result
      takes is all = record {
        ok = λ clean tables. on_ok_weaker result (λ it.
            let now = made_of is tables (state g new).committed it.0 in
            subst (λ (d : Database). To d.schema × KeepsTables (state g old).now d) (sym it.1.committed) (now.1, now.2)) (all.ok clean);
        err = λ clean still_open tables. on_err_weaker result (λ same. subst (AdoptsPart (state g old).now) (sym same) (nothing_done (state g old).now (begins (state g old).now.schema tables))) (all.err clean still_open);
        crash = λ tables. survives_weaker (state g old) (state g new) (HasLeft g (Takes g (step.Make table)) old) (LeavesPart (state g old).now) (λ clean trees. left_of is (tables (omega (arith, all.crash.clean))) trees) all.crash;
      }

      go : (b : Bool) → has_table (table_of table).name (state g old).now.schema ≡ b → Advances g From To old new result
      go true is = subst (λ h. Advances g From To old h result) (sym (done.there is)) (stays is)
      go false is = takes is (done.missing is)

module _ {S : Type 0} (g : Ghosts S) where
  makes_rules : (old : Held S) (db : Database) → (state g old).now.schema ≡ no_tables → HasDone g (Ran g create_rule []) old db → IsDatabase db × BeginsWithRules db.schema × KeepsTables (state g old).now db
  makes_rules old db has done =
      let made = makes_rule (state g (begun_from old)) (state g done.0) done.1.0 has done.1.1 in
      subst (λ (d : Database). IsDatabase d × BeginsWithRules d.schema × KeepsTables (state g old).now d) (sym done.2) (made.sound, inl made.schema, keeps_none (state g old).now (state g done.0).now has made)

  makes_routes : (old : Held S) (db : Database) → (state g old).now.schema ≡ rule_alone → HasDone g (Ran g create_route []) old db → IsDatabase db × BeginsWithRoutes db.schema × KeepsTables (state g old).now db
  makes_routes old db has done =
      let made = makes_route (state g (begun_from old)) (state g done.0) done.1.0 has done.1.1 in
      subst (λ (d : Database). IsDatabase d × BeginsWithRoutes d.schema × KeepsTables (state g old).now d) (sym done.2) (made.sound, inl made.schema, keeps_rules (state g old).now (state g done.0).now has made)

  makes_first : (old : Held S) (db : Database) → (state g old).now.schema ≡ rule_and_route → HasDone g (Ran g create_meta []) old db → IsDatabase db × BeginsWithMeta db.schema × KeepsTables (state g old).now db
  makes_first old db has done =
      let made = makes_meta (state g (begun_from old)) (state g done.0) done.1.0 has done.1.1 in
      subst (λ (d : Database). IsDatabase d × BeginsWithMeta d.schema × KeepsTables (state g old).now d) (sym done.2)
      (made.sound, inl made.schema, keeps_rules_and_routes (state g old).now (state g done.0).now has made)

  makes_all : (old : Held S) (db : Database) → (state g old).now.schema ≡ format_1_alone → HasDone g (Ran g create_suppress []) old db → IsDatabase db × IsFormat2 db.schema × KeepsTables (state g old).now db
  makes_all old db has done =
      let made = makes_suppress (state g (begun_from old)) (state g done.0) done.1.0 has done.1.1 in
      subst (λ (d : Database). IsDatabase d × IsFormat2 d.schema × KeepsTables (state g old).now d) (sym done.2)
      (made.sound, format_made (state g done.0).now.schema made.schema, keeps_format_1 (state g old).now (state g done.0).now has made)

  module _ (old new : Held S) (result : Result (Unit {0}) Refusal) where
    pub rules_made : MakesMissing g ours.Rule old new result → Advances g BeginsFormat2 BeginsWithRules old new result
    rules_made = advances g ours.Rule BeginsFormat2 BeginsWithRules no_tables rules_there rules_missing (λ schema tables. tables) (λ schema tables. inr tables) makes_rules old new result

    pub routes_made : MakesMissing g ours.Route old new result → Advances g BeginsWithRules BeginsWithRoutes old new result
    routes_made = advances g ours.Route BeginsWithRules BeginsWithRoutes rule_alone routes_there routes_missing (λ schema tables. inr tables) (λ schema tables. inr (inr tables)) makes_routes old new result

    pub meta_made : MakesMissing g ours.Meta old new result → Advances g BeginsWithRoutes BeginsWithMeta old new result
    meta_made = advances g ours.Meta BeginsWithRoutes BeginsWithMeta rule_and_route meta_there meta_missing (λ schema tables. inr (inr tables)) (λ schema tables. inr (inr (inr tables))) makes_first old new result

    pub suppress_made : MakesMissing g ours.Suppress old new result → Advances g BeginsWithMeta IsFormat2 old new result
    suppress_made = advances g ours.Suppress BeginsWithMeta IsFormat2 format_1_alone suppress_there suppress_missing (λ schema tables. inr (inr (inr tables))) (λ schema tables. inr (inr (inr (inr tables)))) makes_all old new result

-- ---- one after the other

module _ {S : Type 0} (g : Ghosts S) (From Mid To : Schema → Type 0) (a b : Held S) where
  -- an opening that fails gets no further
  pub advances_not : (reason : Refusal) (result : Result (Unit {0}) Refusal) → IsErr result → Advances g From Mid a b (Err reason) → Advances g From To a b result
  advances_not reason (Ok x) bad one = absurd (true≢false (sym bad))
  advances_not reason (Err other) bad one = record { ok = λ clean tables. tt; err = one.err; crash = one.crash }

  module _ (c : Held S) (result : Result (Unit {0}) Refusal) (one : Advances g From Mid a b (Ok tt)) (two : Advances g Mid To b c result) where
    mid_tables : (HasCleanDisk (state g a) → From (state g a).now.schema) → HasCleanDisk (state g b) → Mid (state g b).now.schema
    mid_tables tables clean = (one.ok clean (tables (omega (arith, (one.crash tables).clean)))).0

    clean_mid : From (state g a).now.schema → HasCleanDisk (state g c) → HasCleanDisk (state g b)
    clean_mid tables clean = omega (arith, (two.crash (mid_tables (λ _. tables))).clean)

    pub advances_then : Advances g From To a c result
    advances_then = record {
      ok = λ clean tables.
          let first = one.ok (clean_mid tables clean) tables in
          on_ok_weaker result (λ second. (second.0, keeps_then (state g a).now (state g b).now (state g c).now first.1 second.1)) (two.ok clean first.0);
      err = λ clean still_open tables.
          let first = one.ok (clean_mid tables clean) tables in
          on_err_weaker result (λ part. part_later (state g a).now (state g b).now (state g c).now first.1 part) (two.err clean still_open first.0);
      crash = λ tables.
          let second = two.crash (mid_tables tables) in
          survives_then (state g a) (state g b) (state g c) (LeavesPart (state g a).now) (LeavesPart (state g b).now) (LeavesPart (state g a).now) (λ clean trees left. left)
          (λ clean trees left.
          let before : HasCleanDisk (state g b) = omega (arith, second.clean) in
          let first = one.ok before (tables (omega (arith, (one.crash tables).clean))) in
          leaves_later (state g a).now (state g b).now trees first.1 left) (one.crash tables) second;
    }

-- ---- the whole opening

module _ {S : Type 0} (g : Ghosts S) (a b : Held S) where
  -- an opening that is refused at its end has done what one does that is not
  pub opened_in_part : (reason : Refusal) → OpensTables g a b (Ok tt) → OpensTables g a b (Err reason)
  opened_in_part reason opens = record {
    ok = λ clean tables. tt;
    err = λ clean still_open tables. part_of (state g a).now (state g b).now (opens.ok clean tables).0;
    crash = opens.crash;
  }

  module _ (one : Advances g BeginsFormat2 IsFormat2 a b (Ok tt)) where
    part_made : HasCleanDisk (state g b) → BeginsFormat2 (state g a).now.schema → AdoptsPart (state g a).now (state g b).now
    part_made clean tables = let it = one.ok clean tables in record { tables = inr (inr (inr (inr it.0))); rows = inl it.1 }

    pub opens_refused : (other : Refusal) → OpensTables g a b (Err other)
    opens_refused other = record { ok = λ clean tables. tt; err = λ clean still_open tables. part_made clean tables; crash = one.crash }

    module _ (c : Held S) where
      has_tables : (HasCleanDisk (state g a) → BeginsFormat2 (state g a).now.schema) → HasCleanDisk (state g b) → IsFormat2 (state g b).now.schema
      has_tables tables clean = (one.ok clean (tables (omega (arith, (one.crash tables).clean)))).0

      -- the tables are looked at
      abbrev Looked : Result Bool Refusal → Type 0
      Looked = Finds g ((table : OurTable) → ShowsNoRow g b table) (ShowsContents g b) b c

      module _ (found : Result Bool Refusal) (two : Looked found) where
        clean_before : HasCleanDisk (state g c) → HasCleanDisk (state g b)
        clean_before clean = omega (arith, two.quiet.clean)

        crash_then : (HasCleanDisk (state g a) → BeginsFormat2 (state g a).now.schema) → Survives (state g a) (state g c) (LeavesPart (state g a).now)
        crash_then tables =
            survives_then (state g a) (state g b) (state g c) (LeavesPart (state g a).now) (λ _. ⊥) (LeavesPart (state g a).now) (λ clean trees left. left) (λ clean trees none. absurd none) (one.crash tables)
            two.quiet

      pub look_failed : (reason : Refusal) (result : Result (Unit {0}) Refusal) → IsErr result → Looked (Err reason) → (IsTrue (state g b).is_open → (state g b).now ≡ (state g b).committed) → OpensTables g a c result
      look_failed reason (Ok x) bad two settled = absurd (true≢false (sym bad))
      look_failed reason (Err other) bad two settled = record {
        ok = λ clean tables. tt;
        err = λ clean still_open tables.
            subst (AdoptsPart (state g a).now) (sym (two.err clean still_open settled)) (part_made (clean_before (Err reason) two clean) tables);
        crash = crash_then (Err reason) two;
      }

      -- the tables have rows already, and a file of format 1 is migrated
      module _ (d : Held S) (result : Result (Unit {0}) Refusal) (two : Looked (Ok false)) (alone : (state g b).in_transaction ≡ false) (settled : IsTrue (state g b).is_open → (state g b).now ≡ (state g b).committed)
          (migrates : HasCleanDisk (state g d) → IsFormat2 (state g c).now.schema → OnOk result (Migrates (state g c).now (state g d).now))
          (settles : HasCleanDisk (state g d) → IsFormat2 (state g c).now.schema → IsSettled g c → OnOk result (IsSettled g d))
          (stays : HasCleanDisk (state g d) → IsTrue (state g d).is_open → IsFormat2 (state g c).now.schema → IsSettled g c → OnErr result ((state g d).now ≡ (state g c).now))
          (crash : (HasCleanDisk (state g c) → IsFormat2 (state g c).now.schema) → Survives (state g c) (state g d) (LeavesMigrated (state g c).now)) where
        module _ (tables : HasCleanDisk (state g a) → BeginsFormat2 (state g a).now.schema) (clean : HasCleanDisk (state g c)) where
          clean_made : HasCleanDisk (state g b)
          clean_made = omega (arith, two.quiet.clean)

          same : IsUnchanged (state g b) (state g c)
          same = (two.ok clean).0

          tables_seen : IsFormat2 (state g c).now.schema
          tables_seen = subst (λ (db : Database). IsFormat2 db.schema) (sym same.0.now_is) (has_tables tables clean_made)

          settled_seen : IsSettled g c
          settled_seen = record { is_open = same.0.is_open; autocommit = same.0.mode ∙ alone; committed = same.0.now_is ∙ settled same.0.was_open ∙ sym same.0.committed_is }

          first_step : KeepsTables (state g a).now (state g b).now
          first_step = (one.ok clean_made (tables (omega (arith, (one.crash tables).clean, clean_made)))).1

          adopts_after : (db : Database) → Migrates (state g c).now db → Adopts (state g a).now db
          adopts_after db it = adopts_of (state g a).now (state g b).now db first_step (has_tables tables clean_made) (not_all_empty_if_shown g b (has_tables tables clean_made) (two.ok clean).1) (subst (λ (was : Database). Migrates was db) same.0.now_is it)

        clean_seen : (HasCleanDisk (state g a) → BeginsFormat2 (state g a).now.schema) → HasCleanDisk (state g d) → HasCleanDisk (state g c)
        clean_seen tables clean = omega (arith, (crash (tables_seen tables)).clean, clean)

        pub opens_migrated : OpensTables g a d result
        opens_migrated = record {
          ok = λ clean tables.
              let late = clean_seen (λ _. tables) clean in
              let has = tables_seen (λ _. tables) late in
              both_ok (Adopts (state g a).now (state g d).now) (IsSettled g d) result (on_ok_weaker result (adopts_after (λ _. tables) late (state g d).now) (migrates clean has)) (settles clean has (settled_seen (λ _. tables) late));
          err = λ clean still_open tables.
              let late = clean_seen (λ _. tables) clean in
              on_err_weaker result (λ is. subst (AdoptsPart (state g a).now) (sym (is ∙ (same (λ _. tables) late).0.now_is)) (part_made (clean_made (λ _. tables) late) tables))
              (stays clean still_open (tables_seen (λ _. tables) late) (settled_seen (λ _. tables) late));
          crash = λ tables.
              survives_then (state g a) (state g c) (state g d) (LeavesPart (state g a).now) (LeavesMigrated (state g c).now) (LeavesPart (state g a).now) (λ clean trees left. left)
              (λ clean trees left.
              let late = clean_seen tables clean in
              record { db = left.db; is = left.is; sound = left.sound; part = part_of (state g a).now left.db (adopts_after tables late left.db left.migrates) }) (crash_then (Ok false) two tables) (crash (tables_seen tables));
        }

      module _ (d : Held S) (result : Result (Unit {0}) Refusal) (two : Looked (Ok true)) (three : Commits g (Fills g) c d result) where
        clean_then : HasCleanDisk (state g d) → HasCleanDisk (state g c)
        clean_then clean = omega (arith, three.crash.clean)

        filled_by : BeginsFormat2 (state g a).now.schema → HasCleanDisk (state g c) → (db : Database) → HasDone g (Fills g) c db → IsDatabase db × IsFormat2 db.schema × IsFilled (state g a).now db
        filled_by tables clean db done =
            let first = one.ok (clean_before (Ok true) two clean) tables in
            let seen = two.ok clean in
            let same = sym seen.0.0.now_is in
            let it = fills g c db (subst (λ (d : Database). IsFormat2 d.schema) same first.0) (subst AreEmpty same (all_empty_if_shown g b first.0 seen.1)) done in
            (it.0, it.1, filled_later (state g a).now (state g b).now db first.1 (subst (λ (d : Database). IsFilled d db) (sym same) it.2))

        -- the tables have none, and are filled
        pub opens_filled : OpensTables g a d result
        opens_filled = record {
          ok = λ clean tables. on_ok_weaker result (λ it.
              let all = filled_by tables (clean_then clean) (state g d).committed it.0 in
              (subst (Adopts (state g a).now) (sym it.1.committed) (record { tables = all.1; rows = inr (inr all.2) }), it.1)) (three.ok clean);
          err = λ clean still_open tables.
              let late = clean_then clean in
              on_err_weaker result (λ same. subst (AdoptsPart (state g a).now) (sym (same ∙ (two.ok late).0.0.now_is)) (part_made (clean_before (Ok true) two late) tables)) (three.err clean still_open);
          crash = λ tables.
              survives_then (state g a) (state g c) (state g d) (LeavesPart (state g a).now) (HasLeft g (Fills g) c) (LeavesPart (state g a).now) (λ clean trees left. left)
              (λ clean trees left.
              let late = clean_then clean in
              let had = tables (omega (arith, (crash_then (Ok true) two tables).clean)) in
              let it = filled_by had late left.0 left.1 in
              record { db = left.0; is = left.2; sound = it.0; part = record { tables = inr (inr (inr (inr it.1))); rows = inr (inr it.2) } }) (crash_then (Ok true) two tables) three.crash;
        }
