-- What the statements that read the tables report of the state that they encode.
use Rattle.std.proofs.Common.{◌≡◌, ◌≢◌, ◌⊎◌, false, inl, inr, ℕ, ◌+◌, ◌≤◌, true, List, [], ◌∷◌, drop, map, nat_le, All, Any, Some, None, Ok, Err, Result, IsPermutation, IsTrue, IfErr, IfOk, OnOk, refl, sym, ap, subst, ◌∙◌, true≢false, arith}
use Rattle.std.proofs.lemmas.Bool.{and_parts}
use Rattle.std.proofs.lemmas.Bool.Decides.{nat_tests}
use Rattle.std.proofs.lemmas.Result.{IfErr-weaker, IfOk-weaker, on_err_weaker, on_ok_weaker}
use Rattle.std.specs.Prelude.{IsErrAnd}
use Rattle.std.proofs.lemmas.List.Elements.{recursion_from_All}
use Rattle.std.proofs.lemmas.List.Sorted.{IsPermutation-map, IsPermutation-sym, IsPermutation-trans}
use Rattle.sqlite.proofs.Callers.{one_permutation, unchanged_then}
use Rattle.sqlite.proofs.StateLemmas.{survives_then}
use Rattle.sqlite.specs.Effect.{Database, IsDatabase}
use Rattle.sqlite.specs.Held.{Held, state}
use Rattle.sqlite.specs.Listing.{understood}
use Rattle.sqlite.specs.Store.{Ghosts}
use Rattle.sqlite.specs.Tree.{rowid}
use Rattle.sqlite.specs.State.{CommitsShowing, FailsToQuery, HasCleanDisk, IsLive, IsRolledBack, IsUnchanged, Shown, Survives}
use Rattle.sqlite.specs.declared.error.Error.{Error}
use Rattle.sqlite_rules.proofs.ListLemmas.{all_has, any_has}
use Rattle.sqlite_rules.proofs.ProbeLemmas.{has_mapped, mapped_has}
use Rattle.sqlite_rules.specs.Lists.{Has}
use Rattle.sqlite_value.specs.Order.{Row}
use Rattle.prt_refusals.specs.Opening.{IsOpenRefusal}
use Rattle.prt_addr.specs.Word.{Word}
use Rattle.prt_refusals.specs.declared.refusal.Refusal.{Refusal}
use Rattle.prt_refusals.specs.declared.refusal.Refusal.TheVariants.{Damaged, NoMemory, OpenFailed}
use Rattle.prt_route.specs.declared.route.Route.{Route}
use Rattle.prt_rows.proofs.Cells.{same_number}
use Rattle.prt_rows.proofs.Found.{has_permuted}
use Rattle.prt_rows.proofs.Quiet.{IsQuiet, failed_query, shown_unchanged, shows_no_write}
use Rattle.prt_rows.proofs.Reading.{Lists, keyed_if_read_rising, read_rising_if_keyed, reads_meta, reads_routes, reads_rules, reads_suppress}
use Rattle.prt_rows.proofs.RouteRows.{same_route}
use Rattle.prt_rows.proofs.Shapes.{meta_is_read, routes_are_read, rules_are_read, suppress_is_read}
use Rattle.prt_rows.specs.Cell.{IsWithin}
use Rattle.prt_rows.specs.Decodes.{Decodes}
use Rattle.prt_rows.specs.Kept.{kept_count, kept_length, kept_rule, with_key_column}
use Rattle.prt_rows.specs.Meanings.{read_meta_terms, read_route_terms, read_rule_terms, read_suppress_terms}
use Rattle.prt_rows.specs.MetaRow.{meta_row_in}
use Rattle.prt_rows.specs.RouteRow.{IsInRange, route_row}
use Rattle.prt_rows.specs.Rowids.{rowids_rise}
use Rattle.prt_rows.specs.RuleRow.{IsRule, rule_row}
use Rattle.prt_rows.specs.Statements.{read_meta, read_routes, read_rules, read_suppress}
use Rattle.prt_rows.specs.SuppressRow.{IsLength, suppress_row}
use Rattle.prt_rows.specs.declared.suppress_row.RuleLength.{RuleLength}
use Rattle.prt_rule.specs.Storable.{is_storable_rule}
use Rattle.prt_rule.specs.declared.rule.Action.{Action}
use Rattle.prt_rule.specs.declared.rule.Action.TheVariants.{Blackhole, Lookup, Prohibit, Unreachable}
use Rattle.prt_rule.specs.declared.rule.Rule.{Rule}
use Rattle.prt_version.specs.RowsSpell.{RowsSpell, RowsSpellNone}
use Rattle.prt_version.specs.State.{State}
use Rattle.prt_store.proofs.Changes.{lengths_are_keyed, rules_keyed}
use Rattle.prt_store.proofs.Lengths.{HaveOwnIds, ids_rise, merged_lengths, merged_map, merged_rows, none_left_over, of_rule, same_lengths_of, same_members_of_lengths, same_rules, suppress_of, was_length, was_merged}
use Rattle.prt_store.proofs.Once.{unmapped}
use Rattle.prt_store.proofs.Spelling.{rows_of_permutation}
use Rattle.prt_store.specs.Lengths.{left_over, lengths_of, merged, plain}
use Rattle.prt_store.specs.Adopted.{IsSettled}
use Rattle.prt_store.specs.Loaded.{ReadsOnly, ReadsShown, StaysSettled}
use Rattle.prt_store.specs.Openings.{NamesFormat1}
use Rattle.prt_store.specs.Shown.{ShowsBadTable, ShowsDamage, ShowsFormat1, ShowsLengths, ShowsNoState, ShowsOtherFormat, ShowsRoutes, ShowsRows, ShowsRules, ShowsState}
use Rattle.prt_rows.specs.Format.{IsFormat2}
use Rattle.prt_store.specs.Stored.{FitsTables, Stores}

-- ---- what a statement that reads leaves

module _ {S : Type 0} (g : Ghosts S) (old new : Held S) where
  pub stays_settled : IsUnchanged (state g old) (state g new) → IsSettled g old → StaysSettled g old new
  stays_settled same was = (record { is_open = same.0.is_open; autocommit = same.0.mode ∙ was.autocommit; committed = same.0.now_is ∙ was.committed ∙ sym same.0.committed_is }, same.0.now_is)

  rolled_back_settled : IsRolledBack (state g old) (state g new) → IsTrue (state g new).is_open → IsSettled g old → StaysSettled g old new
  rolled_back_settled undone still_open was =
      let back = undone.undone still_open in
      (record { is_open = still_open; autocommit = undone.autocommit; committed = back.0 ∙ sym back.1 }, back.0 ∙ sym was.committed)

  -- what was loaded is of a database
  pub still_sound : {X : Type 0} (result : Result X Refusal) → IsLive (state g old) → OnOk result (IsUnchanged (state g old) (state g new)) → OnOk result (IsDatabase (state g new).now)
  still_sound (Ok x) live same = subst IsDatabase (sym same.0.now_is) (live same.0.was_open).0
  still_sound (Err reason) live same = tt

  -- nothing was changed, whatever was made of the rows
  pub unchanged_only : {X : Type 0} (result : Result X Refusal) → (HasCleanDisk (state g new) → IsUnchanged (state g old) (state g new)) → Survives (state g old) (state g new) (λ _. ⊥) → IfErr result IsOpenRefusal → ReadsOnly g old new result
  unchanged_only (Ok x) same quiet why = record { reason = tt; same = same; err = λ clean still_open was. tt; quiet = quiet }
  unchanged_only (Err reason) same quiet why = record { reason = why; same = λ clean. tt; err = λ clean still_open was. stays_settled (same clean) was; quiet = quiet }

  module _ (sql : Word) (quiet : IsQuiet (understood (state g old).now.schema sql)) (survives : Survives (state g old) (state g new) (CommitsShowing sql [] (state g old))) where
    -- a query that shows rows
    pub shown_only : {X : Type 0} (rows : List Row) (result : Result X Refusal) → (HasCleanDisk (state g new) → Shown sql [] (state g old) (state g new) rows) → IfErr result IsOpenRefusal → ReadsOnly g old new result
    shown_only rows result shown = unchanged_only result (λ clean. shown_unchanged sql (state g old) (state g new) quiet rows (shown clean)) (shows_no_write sql (state g old) (state g new) quiet survives)

    -- one that fails leaves nothing pending if nothing was
    pub failed_only : {X : Type 0} (e : Error) → (HasCleanDisk (state g new) → FailsToQuery sql [] (state g old) (state g new) e) → ReadsOnly {X = X} g old new (Err OpenFailed)
    failed_only e fails = record {
      reason = inr (inl refl);
      same = λ clean. tt;
      err = λ clean still_open was. elim (failed_query sql (state g old) (state g new) quiet e (fails clean)) [
        | inl same ↦ stays_settled same was
        | inr undone ↦ rolled_back_settled undone still_open was
      ];
      quiet = shows_no_write sql (state g old) (state g new) quiet survives;
    }

-- ---- one read after another

module _ {S X Y : Type 0} (g : Ghosts S) {a b c : Held S} (x : X) (one : ReadsOnly g a b (Ok x)) (result : Result Y Refusal) (two : ReadsOnly g b c result) where
  pub clean_between : HasCleanDisk (state g c) → HasCleanDisk (state g b)
  clean_between clean = omega (arith, two.quiet.clean, clean)

  pub then_only : ReadsOnly g a c result
  then_only = record {
    reason = two.reason;
    same = λ clean. on_ok_weaker result (unchanged_then (state g a) (state g b) (state g c) (one.same (clean_between clean))) (two.same clean);
    err = λ clean still_open was.
        let first = stays_settled g a b (one.same (clean_between clean)) was in
        on_err_weaker result (λ second. (second.0, second.1 ∙ first.1)) (two.err clean still_open first.0);
    quiet = survives_then (state g a) (state g b) (state g c) _ _ (λ _. ⊥) (λ _ db none. none) (λ _ db none. none) one.quiet two.quiet;
  }

module _ {S X Y : Type 0} (g : Ghosts S) {P : X → Type 0} {Bad : Type 0} {a b : Held S} where
  -- what was shown later was shown of the same database
  pub then_shown : {Q R : Y → Type 0} {Worse Damage : Type 0} {c : Held S} (x : X) → ReadsShown g P Bad a b (Ok x) → (result : Result Y Refusal) → ReadsShown g Q Worse b c result → ((state g b).now ≡ (state g a).now → P x → (y : Y) → Q y → R y)
      → ((state g b).now ≡ (state g a).now → P x → Worse → Damage) → ReadsShown g R Damage a c result
  then_shown {Q = Q} {R = R} x one result two shows bad = record {
    shown = λ clean. let before = clean_between g x one.only result two.only clean in IfOk-weaker result Q R (shows (one.only.same before).0.now_is (one.shown before)) (two.shown clean);
    damage = λ clean.
        let before = clean_between g x one.only result two.only clean in
        let same = (one.only.same before).0 in
        IfErr-weaker result _ _ (λ reason it told. (same.was_open, bad same.now_is (one.shown before) (it told).1)) (two.damage clean);
    only = then_only g x one.only result two.only;
  }

  -- what is made of what was read
  pub made_shown : {Q : Y → Type 0} {None Damage : Type 0} (x : X) → ReadsShown g P Bad a b (Ok x) → (result : Result Y Refusal) → (P x → IfOk result Q) → IfErr result (λ reason. ((reason ≡ Damaged) × None) ⊎ (reason ≡ NoMemory)) → (P x → None → Damage) → ReadsShown g Q Damage a b result
  made_shown x one result made fails bad = record {
    shown = λ clean. made (one.shown clean);
    damage = λ clean. IfErr-weaker result _ _ (λ reason why told. ((one.only.same clean).0.was_open, bad (one.shown clean) (refused reason why told))) fails;
    only = unchanged_only g a b result one.only.same one.only.quiet (IfErr-weaker result _ IsOpenRefusal (λ reason why. elim why [ inl none ↦ inl none.0 | inr memory ↦ inr (inr memory) ]) fails);
  }
    where
      refused : {D : Type 0} (reason : Refusal) → ((reason ≡ Damaged) × D) ⊎ (reason ≡ NoMemory) → reason ≡ Damaged → D
      refused reason (inl none) told = none.1
      refused reason (inr memory) told = absurd (let other : Damaged ≡ NoMemory = sym told ∙ memory in cc)

  -- `?` hands a refusal over as it is
  pub handed_over : {Q : Y → Type 0} {Damage : Type 0} (reason : Refusal) (result : Result Y Refusal) → IsErrAnd result (λ other. other ≡ reason) → ReadsShown g P Bad a b (Err reason) → (Bad → Damage) → ReadsShown g Q Damage a b result
  handed_over reason (Ok y) is one bad = absurd is
  handed_over reason (Err other) is one bad = record {
    shown = λ clean. tt;
    damage = λ clean told. let it = one.damage clean (sym is ∙ told) in (it.0, bad it.1);
    only = record { reason = subst IsOpenRefusal (sym is) one.only.reason; same = λ clean. tt; err = one.only.err; quiet = one.only.quiet };
  }

-- ---- what is shown is what the tables keep

pub map_twice : {X Y Z : Type 0} (g : Y → Z) (f : X → Y) (xs : List X) → map g (map f xs) ≡ map (λ x. g (f x)) xs
map_twice g f [] = refl
map_twice g f (x ∷ xs) = ap (λ ys. g (f x) ∷ ys) (map_twice g f xs)

-- rows in some order, as they are kept
kept_alike : {X : Type 0} (write : X → Row) (xs : List X) (rows : List Row) → IsPermutation rows (map write xs) → IsPermutation (map with_key_column rows) (map (λ x. with_key_column (write x)) xs)
kept_alike write xs rows same = subst (IsPermutation (map with_key_column rows)) (map_twice with_key_column write xs) (IsPermutation-map with_key_column rows (map write xs) same)

-- a row without its key's column
without_key_column : (row other : Row) → with_key_column row ≡ with_key_column other → row ≡ other
without_key_column [] [] is = refl
without_key_column [] (w ∷ other) is = absurd (let e = is in cc)
without_key_column (v ∷ row) [] is = absurd (let e = is in cc)
without_key_column (v ∷ row) (w ∷ other) is = λ i. ap rowid is i ∷ ap (drop 2) is i

one_row : (rows : List Row) (row : Row) → map with_key_column rows ≡ with_key_column row ∷ [] → rows ≡ row ∷ []
one_row [] row is = absurd (let e = is in cc)
one_row (first ∷ []) row is = let same : with_key_column first ≡ with_key_column row = cc in ap (λ r. r ∷ []) (without_key_column first row same)
one_row (first ∷ (other ∷ rows)) row is = absurd (let e = is in cc)

each_of : {X : Type 0} (P : X → Type 0) (xs : List X) → All P xs → (x : X) → Has xs x → P x
each_of P xs all x there = all_has P xs x (recursion_from_All P xs all) there

-- rows of a table that keeps values rise, and each is decoded
not_bad : {X : Type 0} (write kept : X → Row) (Fits : X → Type 0) (key part : Row → Row) (table rows : List Row) (values : List X) → ((row : Row) (x : X) → key row ≡ kept x → part row ≡ write x) → IsPermutation table (map kept values) → IsPermutation table (map key rows)
    → ((x : X) → Has values x → Fits x) → rowids_rise rows ≡ true → (rowids_rise rows ≡ false) ⊎ Any (λ v. Decodes write Fits v None) (map part rows) → ⊥
not_bad write kept Fits key part table rows values written keeps shows fit rise (inl falls) = true≢false (sym rise ∙ falls)
not_bad write kept Fits key part table rows values written keeps shows fit rise (inr bad) =
    let it = any_has (λ v. Decodes write Fits v None) (map part rows) bad in
    let r = has_mapped part rows it.0 it.1 in
    let same = IsPermutation-trans (map kept values) table (map key rows) (IsPermutation-sym _ _ keeps) shows in
    let m = has_mapped kept values (key r.0) (has_permuted (map kept values) (map key rows) (key r.0) same (mapped_has key rows r.0 r.1)) in
    it.2 m.0 (fit m.0 m.1) (r.2 ∙ written r.0 m.0 m.2)

-- the row of `meta` in a file of this format, as it is kept
abbrev kept_in : ℕ → ℕ → Row
kept_in format count = with_key_column (meta_row_in format count)

module _ {S : Type 0} (g : Ghosts S) (conn : Held S) (tables : IsFormat2 (state g conn).now.schema) (sound : IsDatabase (state g conn).now) where
  abbrev now : Database
  now = (state g conn).now

  same_tables : (before : Held S) → (state g before).now ≡ now → IsFormat2 (state g before).now.schema
  same_tables before same = subst (λ (db : Database). IsFormat2 db.schema) (sym same) tables

  meta_kept : (rows : List Row) → ShowsRows g conn read_meta rows → IsPermutation (now.trees 3) (map with_key_column rows)
  meta_kept rows it =
      let t = same_tables it.0 it.2 in
      let listed = reads_meta t.tables t.indexes t.views (state g it.0) (state g it.1) t.is rows it.3 in
      meta_is_read tables.tables tables.indexes tables.views now tables.is sound rows (subst (λ (db : Database). Lists 3 read_meta_terms (db.trees 3) rows) it.2 listed)

  rules_listed : (rows : List Row) → ShowsRows g conn read_rules rows → Lists 0 read_rule_terms (now.trees 0) rows
  rules_listed rows it = let t = same_tables it.0 it.2 in subst (λ (db : Database). Lists 0 read_rule_terms (db.trees 0) rows) it.2 (reads_rules t.tables t.indexes t.views (state g it.0) (state g it.1) t.is rows it.3)

  rules_kept : (rows : List Row) → ShowsRows g conn read_rules rows → IsPermutation (now.trees 0) (map with_key_column rows)
  rules_kept rows it = rules_are_read tables.tables tables.indexes tables.views now tables.is sound rows (rules_listed rows it)

  lengths_listed : (rows : List Row) → ShowsRows g conn read_suppress rows → Lists 4 read_suppress_terms (now.trees 4) rows
  lengths_listed rows it = let t = same_tables it.0 it.2 in subst (λ (db : Database). Lists 4 read_suppress_terms (db.trees 4) rows) it.2 (reads_suppress t.tables t.indexes t.views (state g it.0) (state g it.1) t.is rows it.3)

  lengths_kept : (rows : List Row) → ShowsRows g conn read_suppress rows → IsPermutation (now.trees 4) (map with_key_column rows)
  lengths_kept rows it = suppress_is_read tables.tables tables.indexes tables.views now tables.is sound rows (lengths_listed rows it)

  routes_listed : (rows : List Row) → ShowsRows g conn read_routes rows → Lists 1 read_route_terms (now.trees 1) rows
  routes_listed rows it = let t = same_tables it.0 it.2 in subst (λ (db : Database). Lists 1 read_route_terms (db.trees 1) rows) it.2 (reads_routes t.tables t.indexes t.views (state g it.0) (state g it.1) t.is rows it.3)

  routes_kept : (rows : List Row) → ShowsRows g conn read_routes rows → IsPermutation (map (drop 1) (now.trees 1)) (map (drop 1) rows)
  routes_kept rows it = IsPermutation-map (drop 1) (now.trees 1) rows (routes_are_read tables.tables tables.indexes tables.views now tables.is sound rows (routes_listed rows it))

  -- the row that was read is the one of the table
  row_kept : (format count : ℕ) → ShowsRows g conn read_meta (meta_row_in format count ∷ []) → now.trees 3 ≡ kept_in format count ∷ []
  row_kept format count it = one_permutation (kept_in format count) (now.trees 3) (IsPermutation-sym _ _ (meta_kept (meta_row_in format count ∷ []) it))

  row_shown : (format count : ℕ) (rows : List Row) → ShowsRows g conn read_meta rows → now.trees 3 ≡ kept_in format count ∷ [] → rows ≡ meta_row_in format count ∷ []
  row_shown format count rows it is = one_row rows (meta_row_in format count) (one_permutation (kept_in format count) (map with_key_column rows) (subst (λ table. IsPermutation table (map with_key_column rows)) is (meta_kept rows it)))

  pub named_if_shown : ShowsFormat1 g conn → NamesFormat1 now
  named_if_shown it = (it.0, it.1, row_kept 1 it.0 it.2)

  pub not_named_if_shown : ShowsOtherFormat g conn → NamesFormat1 now → ⊥
  not_named_if_shown it named = it.2 named.0 named.1 (row_shown 1 named.0 it.0 it.1 named.2)

  -- the state whose rows were shown is the one that the tables encode
  pub stores_shown : (stored : State) → ShowsState g conn stored → Stores now stored
  stores_shown stored it = record {
    tables = tables;
    rules = IsPermutation-trans (now.trees 0) _ (map kept_rule stored.rules) (rules_kept it.rules.0 it.rules.1) (kept_alike rule_row stored.rules it.rules.0 it.rules.2);
    routes = IsPermutation-trans (map (drop 1) (now.trees 1)) (map (drop 1) it.routes.0) (map route_row stored.routes) (routes_kept it.routes.0 it.routes.1) it.routes.3;
    keyed = keyed_if_read_rising 1 read_route_terms (now.trees 1) it.routes.0 (routes_listed it.routes.0 it.routes.1) it.routes.2;
    lengths = IsPermutation-trans (now.trees 4) _ (map kept_length (lengths_of stored.rules)) (lengths_kept it.lengths.0 it.lengths.1) (kept_alike suppress_row (lengths_of stored.rules) it.lengths.0 it.lengths.2);
    count = row_kept 2 stored.count it.count;
    fits = it.fits;
  }

-- ---- the rules and their lengths

plain_fits : (last : ℕ) (rule : Rule) → IsRule last rule → IsRule last (plain rule)
plain_fits last rule is = record { id = is.id; priority = is.priority; from = is.from; to = is.to; iif = is.iif; mark = is.mark; action = is.action; plain = refl }

module _ (count : ℕ) (rules : List Rule) (lengths : List RuleLength) (fit : All (IsRule (count + 3)) rules) where
  merged_fits : (rule : Rule) → Has (merged rules lengths) rule → IsRule (count + 3) (plain rule)
  merged_fits rule there = let was = was_merged rules lengths rule there in subst (IsRule (count + 3)) (sym was.2) (plain_fits (count + 3) was.0 (each_of (IsRule (count + 3)) rules fit was.0 was.1))

  pub own_lengths : left_over rules lengths ≡ [] → lengths_of (merged rules lengths) ≡ lengths
  own_lengths over = merged_lengths rules lengths (λ rule there. (each_of (IsRule (count + 3)) rules fit rule there).plain) over

  -- the state that they encode fits the tables
  pub fits_read : (routes : List Route) (stored : State) → All IsInRange routes → RowsSpell count (merged rules lengths) routes stored → FitsTables stored
  fits_read routes stored in_range spells = record {
    sound = spells.sound;
    rules = λ rule there. subst (λ n. IsRule (n + 3) (plain rule)) (sym spells.count) (merged_fits rule (has_permuted (merged rules lengths) stored.rules rule spells.rules_are there));
    routes = λ route there. each_of IsInRange routes in_range route (has_permuted routes stored.routes route spells.routes_are there);
    storable = spells.storable;
  }

pub merged_alike : (rules : List Rule) (lengths : List RuleLength) → map rule_row (merged rules lengths) ≡ map rule_row rules
merged_alike = merged_map rule_row (λ rule. refl)

-- if their rows rise, they have ids of their own
pub merged_ids : (rules : List Rule) (lengths : List RuleLength) → rowids_rise (map rule_row rules) ≡ true → HaveOwnIds (merged rules lengths)
merged_ids rules lengths rise = ids_rise None (merged rules lengths) (subst (λ rows. rowids_rise rows ≡ true) (sym (merged_alike rules lengths)) rise)

-- a length of a rule that may be stored
len_fits : (action : Action) (len : ℕ) → is_storable_rule action (Some len) ≡ true → len ≤ 32
len_fits (Lookup table) len is = let fits : nat_le len 32 ≡ true = (and_parts (nat_le 1 table) (nat_le len 32) is).1 in grind (arith, nat_tests)
len_fits Blackhole len is = absurd (cc)
len_fits Unreachable len is = absurd (cc)
len_fits Prohibit len is = absurd (cc)

-- ---- tables that encode a state

module _ (db : Database) (stored : State) (held : Stores db stored) where
  length_fits : (length : RuleLength) → Has (lengths_of stored.rules) length → IsLength (stored.count + 3) length
  length_fits length there =
      let whose = was_length stored.rules length there in
      let storable = all_has (λ (rule : Rule). is_storable_rule rule.action rule.suppress ≡ true) stored.rules whose.0 held.fits.storable.rules whose.1 in
      record {
        rule = subst (IsWithin 1 (stored.count + 3)) (sym (of_rule whose.0 length whose.2)) (held.fits.rules whose.0 whose.1).id;
        len = record { least = omega arith; most = len_fits whose.0.action length.len (subst (λ s. is_storable_rule whose.0.action s ≡ true) (suppress_of whose.0 length whose.2) storable) };
      }

  pub count_stored : (count : ℕ) → db.trees 3 ≡ kept_count count ∷ [] → stored.count ≡ count
  count_stored count row = let same : kept_count stored.count ∷ [] ≡ kept_count count ∷ [] = sym held.count ∙ row in cc

  pub routes_same : (routes : List Route) → IsPermutation (map (drop 1) (db.trees 1)) (map route_row routes) → ((route : Route) → Has routes route → IsInRange route) → IsPermutation routes stored.routes
  routes_same routes rows fit = unmapped route_row routes stored.routes (IsPermutation-trans (map route_row routes) (map (drop 1) (db.trees 1)) (map route_row stored.routes) (IsPermutation-sym _ _ rows) held.routes)
      (λ route other there also same. same_route route other (fit route there) (held.fits.routes other also) same)

  -- rules with these rows and these lengths are those of the state
  pub rules_same : (last : ℕ) (rules : List Rule) → HaveOwnIds rules → ((rule : Rule) → Has rules rule → IsRule last (plain rule)) → ((rule : Rule) → Has stored.rules rule → IsRule last (plain rule)) → IsPermutation (db.trees 0) (map kept_rule rules)
      → IsPermutation (db.trees 4) (map kept_length (lengths_of rules)) → IsPermutation rules stored.rules
  rules_same last rules ids fit also_fit rows lengths =
      let rows_are = IsPermutation-trans (map kept_rule rules) (db.trees 0) (map kept_rule stored.rules) (IsPermutation-sym _ _ rows) held.rules in
      let lengths_are = IsPermutation-trans (map kept_length (lengths_of rules)) (db.trees 4) (map kept_length (lengths_of stored.rules)) (IsPermutation-sym _ _ lengths) held.lengths in
      same_rules last rules stored.rules ids held.fits.sound.distinct_ids fit also_fit rows_are (same_lengths_of rules stored.rules lengths_are)

  -- a length whose row the table keeps is of a rule whose row it keeps
  length_among : (rules : List Rule) (lengths : List RuleLength) → IsPermutation (db.trees 0) (map kept_rule rules) → IsPermutation (db.trees 4) (map kept_length lengths) → (length : RuleLength) → Has lengths length → (rule : Rule) × Has rules rule × (rule.id ≡ length.rule)
  length_among rules lengths rule_rows length_rows length there =
      let lengths_are = IsPermutation-trans (map kept_length lengths) (db.trees 4) (map kept_length (lengths_of stored.rules)) (IsPermutation-sym _ _ length_rows) held.lengths in
      let whose = was_length stored.rules length (same_members_of_lengths lengths (lengths_of stored.rules) (rows_of_permutation _ _ lengths_are) length there) in
      let rules_are = IsPermutation-trans (map kept_rule rules) (db.trees 0) (map kept_rule stored.rules) (IsPermutation-sym _ _ rule_rows) held.rules in
      let m = has_mapped kept_rule rules (kept_rule whose.0) (has_permuted (map kept_rule rules) (map kept_rule stored.rules) (kept_rule whose.0) rules_are (mapped_has kept_rule stored.rules whose.0 whose.1)) in
      (m.0, m.1, same_number m.0.id whose.0.id (ap rowid (sym m.2)) ∙ sym (of_rule whose.0 length whose.2))

-- ---- damage

module _ {S : Type 0} (g : Ghosts S) (conn : Held S) (tables : IsFormat2 (state g conn).now.schema) (sound : IsDatabase (state g conn).now) (stored : State) (held : Stores (state g conn).now stored) where
  abbrev db : Database
  db = (state g conn).now

  -- no table shows bad rows
  no_bad_table : ShowsBadTable g conn stored.count → ⊥
  no_bad_table (inl bad) =
      not_bad rule_row kept_rule (IsRule (stored.count + 3)) with_key_column (λ row. row) (db.trees 0) bad.0 (map plain stored.rules) (λ row rule. without_key_column row (rule_row rule)) (subst (IsPermutation (db.trees 0)) (sym (map_twice kept_rule plain stored.rules)) held.rules)
      (rules_kept g conn tables sound bad.0 bad.1) (λ rule there. let m = has_mapped plain stored.rules rule there in subst (IsRule (stored.count + 3)) (sym m.2) (held.fits.rules m.0 m.1))
      (read_rising_if_keyed 0 read_rule_terms (db.trees 0) bad.0 (rules_listed g conn tables sound bad.0 bad.1) (rules_keyed db stored held)) bad.2
  no_bad_table (inr (inl bad)) =
      not_bad suppress_row kept_length (IsLength (stored.count + 3)) with_key_column (λ row. row) (db.trees 4) bad.0 (lengths_of stored.rules) (λ row length. without_key_column row (suppress_row length)) held.lengths (lengths_kept g conn tables sound bad.0 bad.1)
      (length_fits db stored held) (read_rising_if_keyed 4 read_suppress_terms (db.trees 4) bad.0 (lengths_listed g conn tables sound bad.0 bad.1) (lengths_are_keyed db stored held)) bad.2
  no_bad_table (inr (inr bad)) =
      not_bad route_row route_row IsInRange (drop 1) (drop 1) (map (drop 1) (db.trees 1)) bad.0 stored.routes (λ row route is. is) held.routes (routes_kept g conn tables sound bad.0 bad.1) held.fits.routes
      (read_rising_if_keyed 1 read_route_terms (db.trees 1) bad.0 (routes_listed g conn tables sound bad.0 bad.1) held.keyed) bad.2

  module _ (count : ℕ) (rules : List Rule) (lengths : List RuleLength) (routes : List Route) (some : ShowsRules g (count + 3) conn rules) (known : ShowsLengths g (count + 3) conn lengths) where
    rule_rows : IsPermutation (db.trees 0) (map kept_rule rules)
    rule_rows = subst (IsPermutation (db.trees 0)) (map_twice with_key_column rule_row rules) (rules_kept g conn tables sound (map rule_row rules) some.shown)

    length_rows : IsPermutation (db.trees 4) (map kept_length lengths)
    length_rows = subst (IsPermutation (db.trees 4)) (map_twice with_key_column suppress_row lengths) (lengths_kept g conn tables sound (map suppress_row lengths) known.shown)

    all_merged : left_over rules lengths ≡ []
    all_merged =
        none_left_over None None rules lengths some.rise (read_rising_if_keyed 4 read_suppress_terms (db.trees 4) (map suppress_row lengths) (lengths_listed g conn tables sound (map suppress_row lengths) known.shown) (lengths_are_keyed db stored held))
        (length_among db stored held rules lengths rule_rows length_rows)

    -- the parts that are shown encode the state
    rows_spell : stored.count ≡ count → ShowsRoutes g conn routes → RowsSpell count (merged rules lengths) routes stored
    rows_spell number more = record {
      count = number;
      rules_are = rules_same db stored held (count + 3) (merged rules lengths) (merged_ids rules lengths some.rise) (merged_fits count rules lengths some.fit) (λ rule there. subst (λ n. IsRule (n + 3) (plain rule)) number (held.fits.rules rule there))
          (subst (IsPermutation (db.trees 0)) (sym (merged_rows rules lengths)) rule_rows) (subst (λ l. IsPermutation (db.trees 4) (map kept_length l)) (sym (own_lengths count rules lengths some.fit all_merged)) length_rows);
      routes_are = routes_same db stored held routes (subst (IsPermutation (map (drop 1) (db.trees 1))) more.parts (routes_kept g conn tables sound more.rows more.shown)) (each_of IsInRange routes more.fit);
      sound = held.fits.sound;
      storable = held.fits.storable;
    }

  no_other_state : (count : ℕ) → stored.count ≡ count → (it : ShowsNoState g conn count) → (left_over it.rules it.lengths ≢ []) ⊎ RowsSpellNone count (merged it.rules it.lengths) it.routes → ⊥
  no_other_state count number it (inl left) = left (all_merged count it.rules it.lengths it.routes it.show_rules it.show_lengths)
  no_other_state count number it (inr none) = none stored (rows_spell count it.rules it.lengths it.routes it.show_rules it.show_lengths number it.show_routes)

  -- nothing that is shown is damaged
  pub no_damage : ShowsDamage g conn → ⊥
  no_damage (inl it) = it.2 stored.count (record { least = omega arith; most = held.fits.sound.count_fits }) (row_shown g conn tables sound 2 stored.count it.0 it.1 held.count)
  no_damage (inr it) =
      let number = count_stored db stored held it.0 (row_kept g conn tables sound 2 it.0 it.1.shown) in
      elim it.2 [
        | inl bad ↦ no_bad_table (subst (ShowsBadTable g conn) (sym number) bad)
        | inr none ↦ no_other_state it.0 number none none.none
      ]

-- ---- what was loaded

module _ {S : Type 0} (g : Ghosts S) (old new : Held S) (live : IsLive (state g old)) (clean : HasCleanDisk (state g new)) (tables : IsFormat2 (state g old).now.schema) where
  pub loads_stored : (result : Result State Refusal) → ReadsShown g (ShowsState g old) (ShowsDamage g old) old new result → IfOk result (Stores (state g old).now)
  loads_stored (Ok stored) loads = stores_shown g old tables (live (loads.only.same clean).0.was_open).0 stored (loads.shown clean)
  loads_stored (Err reason) loads = tt

  pub loads_none : (result : Result State Refusal) → ReadsShown g (ShowsState g old) (ShowsDamage g old) old new result → IfErr result (λ reason. reason ≡ Damaged → (stored : State) → Stores (state g old).now stored → ⊥)
  loads_none (Ok stored) loads = tt
  loads_none (Err reason) loads = λ told stored held. let it = loads.damage clean told in no_damage g old tables (live it.0).0 stored held it.1
