-- What an opening does to a connection, whatever tables the file has.
use Rattle.std.proofs.Common.{◌≡◌, inl, inr, ℕ, Bool, true, false, List, [], ◌∷◌, length, Option, Some, None, Ok, Err, Result, IsErr, OnOk, true≢false, refl, sym, subst, ◌∙◌, arith}
use Rattle.std.proofs.lemmas.Result.{on_ok_weaker}
use Rattle.std.specs.Prelude.{MatchBool, is_some}
use Rattle.sqlite.proofs.Callers.{unchanged_then}
use Rattle.sqlite.specs.Held.{Held, state}
use Rattle.sqlite.specs.Listing.{understood}
use Rattle.sqlite.specs.declared.error.Error.{Error}
use Rattle.std.specs.List.{AllByRecursion as Each}
use Rattle.prt_addr.specs.Word.{Word}
use Rattle.sqlite.specs.State.{CommitsShowing, FailsToQuery, HasCleanDisk, IsUnchanged, Shown, Survives}
use Rattle.sqlite.specs.Store.{Ghosts}
use Rattle.sqlite_value.specs.Order.{Row}
use Rattle.prt_refusals.specs.declared.refusal.Refusal.{Refusal}
use Rattle.prt_rows.proofs.Quiet.{IsQuiet, failed_query, shown_unchanged, shows_no_write}
use Rattle.prt_rows.specs.Decodes.{Decodes}
use Rattle.prt_rows.specs.Format.{HasFormat2, has_table}
use Rattle.prt_rows.specs.MetaRow.{IsCount, meta_rows_1}
use Rattle.prt_rows.specs.Statements.{migrate, read_meta}
use Rattle.prt_store.proofs.Looks.{still_there}
use Rattle.prt_store.proofs.Openings.{on_any}
use Rattle.prt_store.proofs.Shown.{rows_moved}
use Rattle.prt_store.proofs.Stops.{quiet_then}
use Rattle.prt_store.specs.Openings.{Commits, Fills, Finds, KeepsOrFills, KeepsOrMigrates, MakesAndFills, MakesMissing, MakesTable, MakesTables, Ran, table_of}
use Rattle.prt_store.specs.Shown.{ShowsContents, ShowsDue, ShowsFormat1, ShowsNoRow, ShowsNotDue, ShowsOtherFormat, ShowsRows, ShowsSomeRow, look_at}
use Rattle.prt_store.specs.declared.opening.OurTable.{OurTable}
use Rattle.prt_store.specs.declared.opening.OurTable.TheVariants as ours

-- ---- the tables are made

module _ {S : Type 0} (g : Ghosts S) (table : OurTable) (old new : Held S) (result : Result (Unit {0}) Refusal) (done : MakesMissing g table old new result) where
  clean_missing : HasCleanDisk (state g new) → HasCleanDisk (state g old)
  clean_missing clean = go (has_table (table_of table).name (state g old).now.schema) refl
    where
      go : (b : Bool) → has_table (table_of table).name (state g old).now.schema ≡ b → HasCleanDisk (state g old)
      go true is = subst (λ h. HasCleanDisk (state g h)) (done.there is) clean
      go false is = omega (arith, (done.missing is).crash.clean, clean)

  table_made : HasCleanDisk (state g new) → OnOk result (MakesTable g table old new)
  table_made clean = go (has_table (table_of table).name (state g old).now.schema) refl
    where
      go : (b : Bool) → has_table (table_of table).name (state g old).now.schema ≡ b → OnOk result (MakesTable g table old new)
      go true is = on_any result (record { there = λ _. done.there is; missing = λ no. absurd (true≢false (sym is ∙ no)) })
      go false is = on_ok_weaker result (λ it. record { there = λ yes. absurd (true≢false (sym yes ∙ is)); missing = λ _. it }) ((done.missing is).ok clean)

pub tables_made : {S : Type 0} (g : Ghosts S) (a b c d e : Held S) (result : Result (Unit {0}) Refusal) → MakesMissing g ours.Rule a b (Ok tt) → MakesMissing g ours.Route b c (Ok tt) → MakesMissing g ours.Meta c d (Ok tt)
    → MakesMissing g ours.Suppress d e result → HasCleanDisk (state g e) → OnOk result (MakesTables g a e)
tables_made g a b c d e result one two three four clean =
    let late = clean_missing g ours.Suppress d e result four clean in
    let mid = clean_missing g ours.Meta c d (Ok tt) three late in
    let early = clean_missing g ours.Route b c (Ok tt) two mid in
    let first = table_made g ours.Rule a b (Ok tt) one early in
    let second = table_made g ours.Route b c (Ok tt) two mid in
    let third = table_made g ours.Meta c d (Ok tt) three late in
    on_ok_weaker result (λ fourth. (b, first, (c, second, (d, third, fourth)))) (table_made g ours.Suppress d e result four clean)

-- ---- they are looked at

either_way : {A B C D : Type 0} (b : Bool) → (A → C) → (B → D) → MatchBool b A B → MatchBool b C D
either_way true so not_so it = so it
either_way false so not_so it = not_so it

module _ {S : Type 0} (g : Ghosts S) (Yes No : Type 0) (old new : Held S) (sql : Word) (quiet : IsQuiet (understood (state g old).now.schema sql)) (survives : Survives (state g old) (state g new) (CommitsShowing sql [] (state g old))) where
  pub look_fails : (e : Error) (reason : Refusal) → (HasCleanDisk (state g new) → FailsToQuery sql [] (state g old) (state g new) e) → Finds g Yes No old new (Err reason)
  look_fails e reason fails = record {
    ok = λ clean. tt;
    err = λ clean still_open settled. still_there (state g old) (state g new) (failed_query sql (state g old) (state g new) quiet e (fails clean)) still_open settled;
    quiet = shows_no_write sql (state g old) (state g new) quiet survives;
  }

  pub look_finds : (rows : List Row) (b : Bool) → (HasCleanDisk (state g new) → Shown sql [] (state g old) (state g new) rows) → (ShowsRows g old sql rows → MatchBool b Yes No) → Finds g Yes No old new (Ok b)
  look_finds rows b shown tells = record {
    ok = λ clean. (shown_unchanged sql (state g old) (state g new) quiet rows (shown clean), tells (old, new, refl, shown clean));
    err = λ clean still_open settled. tt;
    quiet = shows_no_write sql (state g old) (state g new) quiet survives;
  }

-- what is shown of a database is shown of the same one
module _ {S : Type 0} (g : Ghosts S) (a b : Held S) (same : (state g b).now ≡ (state g a).now) where
  none_moved : (table : OurTable) → ShowsNoRow g b table → ShowsNoRow g a table
  none_moved table = rows_moved g a b same (look_at table) []

  each_moved : (tables : List OurTable) → Each (ShowsNoRow g b) tables → Each (ShowsNoRow g a) tables
  each_moved [] all = tt
  each_moved (table ∷ tables) all = (none_moved table all.0, each_moved tables all.1)

  some_moved : (table : OurTable) → ShowsSomeRow g b table → ShowsSomeRow g a table
  some_moved table it = (it.0, rows_moved g a b same (look_at table) it.0 it.1, it.2)

  format_moved : ShowsFormat1 g b → ShowsFormat1 g a
  format_moved it = (it.0, it.1, rows_moved g a b same read_meta (meta_rows_1 it.0) it.2)

  other_moved : ShowsOtherFormat g b → ShowsOtherFormat g a
  other_moved it = (it.0, rows_moved g a b same read_meta it.0 it.1, it.2)

  due_moved : ShowsDue g b → ShowsDue g a
  due_moved it = (format_moved it.0, none_moved ours.Suppress it.1)

  not_due_moved : ShowsNotDue g b → ShowsNotDue g a
  not_due_moved (inl other) = inl (other_moved other)
  not_due_moved (inr some) = inr (some_moved ours.Suppress some)

module _ {S : Type 0} (g : Ghosts S) (P Q No : Type 0) (a b : Held S) where
  pub finds_not : Finds g P No a b (Ok false) → Finds g Q No a b (Ok false)
  finds_not one = record { ok = one.ok; err = one.err; quiet = one.quiet }

  pub finds_fails : (Other : Type 0) (reason : Refusal) (result : Result Bool Refusal) → IsErr result → Finds g P No a b (Err reason) → Finds g Q Other a b result
  finds_fails Other reason (Ok x) bad one = absurd (true≢false (sym bad))
  finds_fails Other reason (Err other) bad one = record { ok = λ clean. tt; err = one.err; quiet = one.quiet }

  pub finds_as : (Other : Type 0) (result : Result Bool Refusal) → (P → Q) → (No → Other) → Finds g P No a b result → Finds g Q Other a b result
  finds_as Other (Ok found) so not_so one = record { ok = λ clean. ((one.ok clean).0, either_way found so not_so (one.ok clean).1); err = one.err; quiet = one.quiet }
  finds_as Other (Err reason) so not_so one = record { ok = λ clean. tt; err = one.err; quiet = one.quiet }

  -- the second look is tried if the first one found it so
  finds_both : (R Else Other : Type 0) → ((state g b).now ≡ (state g a).now → Q → R) → ((state g b).now ≡ (state g a).now → No → Other) → (c : Held S) (result : Result Bool Refusal) → Finds g P Else a b (Ok true) → Finds g Q No b c result → Finds g (P × R) Other a c result
  finds_both R Else Other so not_so c (Ok found) one two = record {
    ok = λ clean.
        let first = one.ok (omega (arith, two.quiet.clean, clean)) in
        let second = two.ok clean in
        (unchanged_then (state g a) (state g b) (state g c) first.0 second.0, either_way found (λ it. (first.1, so first.0.0.now_is it)) (not_so first.0.0.now_is) second.1);
    err = λ clean still_open settled. tt;
    quiet = quiet_then g a b c one.quiet two.quiet;
  }
  finds_both R Else Other so not_so c (Err reason) one two = record {
    ok = λ clean. tt;
    err = λ clean still_open settled.
        let same = (one.ok (omega (arith, two.quiet.clean, clean))).0.0 in
        two.err clean still_open (λ _. same.now_is ∙ settled same.was_open ∙ sym same.committed_is) ∙ same.now_is;
    quiet = quiet_then g a b c one.quiet two.quiet;
  }

pub each_of_none : {X : Type 0} (P : X → Type 0) (xs : List X) → length xs ≡ 0 → Each P xs
each_of_none P [] none = tt
each_of_none P (x ∷ xs) none = absurd (omega (arith, none))

-- a table, and then those that are queried after it
pub finds_next : {S : Type 0} (g : Ghosts S) (table : OurTable) (tables : List OurTable) (a b c : Held S) (result : Result Bool Refusal) → Finds g (ShowsNoRow g a table) (ShowsSomeRow g a table) a b (Ok true)
    → Finds g (Each (ShowsNoRow g b) tables) (ShowsContents g b) b c result → Finds g (Each (ShowsNoRow g a) (table ∷ tables)) (ShowsContents g a) a c result
finds_next g table tables a b c result =
    finds_both g (ShowsNoRow g a table) (Each (ShowsNoRow g b) tables) (ShowsContents g b) a b (Each (ShowsNoRow g a) tables) (ShowsSomeRow g a table) (ShowsContents g a) (λ same. each_moved g a b same tables) (λ same some. (some.0, some_moved g a b same some.0 some.1)) c result

-- so each of the four is queried
pub asked_all : {S : Type 0} (g : Ghosts S) (conn : Held S) → Each (ShowsNoRow g conn) (ours.Meta ∷ (ours.Rule ∷ (ours.Route ∷ (ours.Suppress ∷ [])))) → (table : OurTable) → ShowsNoRow g conn table
asked_all g conn it ours.Meta = it.0
asked_all g conn it ours.Rule = it.1.0
asked_all g conn it ours.Route = it.1.1.0
asked_all g conn it ours.Suppress = it.1.1.1.0

-- ---- the format is looked at

pub format_tells : {S : Type 0} (g : Ghosts S) (conn : Held S) (rows : List Row) (count : Option ℕ) (b : Bool) → Decodes meta_rows_1 IsCount rows count → b ≡ is_some count → ShowsRows g conn read_meta rows → MatchBool b (ShowsFormat1 g conn) (ShowsOtherFormat g conn)
format_tells g conn rows (Some n) b read is it = subst (λ b. MatchBool b (ShowsFormat1 g conn) (ShowsOtherFormat g conn)) (sym is) (n, read.0, subst (ShowsRows g conn read_meta) read.1 it)
format_tells g conn rows None b none is it = subst (λ b. MatchBool b (ShowsFormat1 g conn) (ShowsOtherFormat g conn)) (sym is) (rows, it, none)

-- the format, and then the lengths
pub finds_format : {S : Type 0} (g : Ghosts S) (a b c : Held S) (result : Result Bool Refusal) → Finds g (ShowsFormat1 g a) (ShowsOtherFormat g a) a b (Ok true) → Finds g (ShowsNoRow g b ours.Suppress) (ShowsSomeRow g b ours.Suppress) b c result → Finds g (ShowsDue g a) (ShowsNotDue g a) a c result
finds_format g a b c result =
    finds_both g (ShowsFormat1 g a) (ShowsNoRow g b ours.Suppress) (ShowsSomeRow g b ours.Suppress) a b (ShowsNoRow g a ours.Suppress) (ShowsOtherFormat g a) (ShowsNotDue g a) (λ same. none_moved g a b same ours.Suppress) (λ same some. inr (some_moved g a b same ours.Suppress some)) c result

-- ---- the migration

module _ {S : Type 0} (g : Ghosts S) (a b : Held S) where
  pub does_not_migrate : Finds g (ShowsDue g a) (ShowsNotDue g a) a b (Ok false) → HasCleanDisk (state g b) → KeepsOrMigrates g a b
  does_not_migrate finds clean = let it = finds.ok clean in inl (it.1, it.0)

  pub does_migrate : (c : Held S) (result : Result (Unit {0}) Refusal) → Finds g (ShowsDue g a) (ShowsNotDue g a) a b (Ok true) → Commits g (Ran g migrate []) b c result → HasCleanDisk (state g c) → OnOk result (KeepsOrMigrates g a c)
  does_migrate c result finds commits clean =
      let it = finds.ok (omega (arith, commits.crash.clean, clean)) in
      on_ok_weaker result (λ done. inr (record { found = it.1; seen = b; same = it.0; set = done.0; settled = done.1 })) (commits.ok clean)

  -- what follows tables that were looked at
  migrates_later : (new : Held S) → IsUnchanged (state g a) (state g b) → KeepsOrMigrates g b new → KeepsOrMigrates g a new
  migrates_later new same (inl kept) = inl (not_due_moved g a b same.0.now_is kept.0, unchanged_then (state g a) (state g b) (state g new) same kept.1)
  migrates_later new same (inr it) = inr (record { found = due_moved g a b same.0.now_is it.found; seen = it.seen; same = unchanged_then (state g a) (state g b) (state g it.seen) same it.same; set = it.set; settled = it.settled })

-- ---- the whole opening

module _ {S : Type 0} (g : Ghosts S) (a made seen : Held S) (makes : HasCleanDisk (state g made) → MakesTables g a made) where
  pub does_keep : (new : Held S) (result : Result (Unit {0}) Refusal) → Finds g ((table : OurTable) → ShowsNoRow g made table) (ShowsContents g made) made seen (Ok false) → HasCleanDisk (state g seen) → OnOk result (KeepsOrMigrates g seen new)
      → OnOk result (MakesAndFills g a new)
  does_keep new result finds clean does =
      let it = finds.ok clean in
      on_ok_weaker result (λ keeps. (made, makes (omega (arith, finds.quiet.clean, clean)), inl (it.1, migrates_later g made seen new it.0 keeps))) does

  pub does_fill : (new : Held S) (result : Result (Unit {0}) Refusal) → Finds g ((table : OurTable) → ShowsNoRow g made table) (ShowsContents g made) made seen (Ok true) → Commits g (Fills g) seen new result → HasCleanDisk (state g new)
      → OnOk result (MakesAndFills g a new)
  does_fill new result finds commits clean =
      let late : HasCleanDisk (state g seen) = omega (arith, commits.crash.clean, clean) in
      let it = finds.ok late in
      on_ok_weaker result (λ done. (
        made,
        makes (omega (arith, finds.quiet.clean, late)),
        inr (record { empty = it.1; seen = seen; same = it.0; filled = done.0; settled = done.1 }),
      )) (commits.ok clean)

-- if the tables were there, none was made
pub keeps_or_fills : {S : Type 0} (g : Ghosts S) (old new : Held S) → HasFormat2 (state g old).now.schema → MakesAndFills g old new → KeepsOrFills g old new
keeps_or_fills {S = S} g old new tables all =
    let makes = all.1 in
    let rule : makes.0 ≡ old = makes.1.there tables.rule in
    let route : makes.2.0 ≡ old = makes.2.1.there (subst (λ h. has_table (table_of ours.Route).name (state g h).now.schema ≡ true) (sym rule) tables.route) ∙ rule in
    let meta : makes.2.2.0 ≡ old = makes.2.2.1.there (subst (λ h. has_table (table_of ours.Meta).name (state g h).now.schema ≡ true) (sym route) tables.meta) ∙ route in
    let suppress : all.0 ≡ old = makes.2.2.2.there (subst (λ h. has_table (table_of ours.Suppress).name (state g h).now.schema ≡ true) (sym meta) tables.suppress) ∙ meta in
    subst (λ h. KeepsOrFills g h new) suppress all.2
