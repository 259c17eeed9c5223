-- What the statements that read the tables show, one by one and together.
use Rattle.std.proofs.Common.{◌≡◌, ◌≢◌, ◌⊎◌, Any, false, inl, inr, ℕ, ◌+◌, List, [], ◌∷◌, All, Some, None, Ok, Err, Result, IfErr, IfOk, IsPermutation, drop, map, true, refl, sym, subst, ◌∙◌}
use Rattle.std.proofs.lemmas.List.Sorted.{IsPermutation-map}
use Rattle.sqlite.specs.Held.{Held, state}
use Rattle.sqlite.specs.Listing.{understood}
use Rattle.sqlite.specs.State.{CommitsShowing, FailsToQuery, HasCleanDisk, Shown, Survives}
use Rattle.sqlite.specs.declared.error.Error.{Error}
use Rattle.sqlite.specs.Store.{Ghosts}
use Rattle.sqlite.specs.Tree.{rowid}
use Rattle.sqlite_value.specs.Order.{Row}
use Rattle.prt_addr.specs.Word.{Word}
use Rattle.prt_refusals.specs.declared.refusal.Refusal.{Refusal}
use Rattle.prt_refusals.specs.declared.refusal.Refusal.TheVariants.{Damaged, NoMemory, OpenFailed}
use Rattle.prt_refusals.specs.Opening.{IsOpenRefusal}
use Rattle.prt_rows.proofs.Quiet.{IsQuiet, shown_unchanged}
use Rattle.prt_route.specs.declared.route.Route.{Route}
use Rattle.prt_rows.specs.Decodes.{Decodes}
use Rattle.prt_rows.specs.Kept.{kept_length}
use Rattle.prt_rows.specs.MetaRow.{IsCount, meta_rows}
use Rattle.prt_rows.specs.RouteRow.{IsInRange, route_row}
use Rattle.prt_rows.specs.Rowids.{FailsToRead, rowids_rise}
use Rattle.prt_rows.specs.RuleRow.{IsRule, rule_row}
use Rattle.prt_rows.specs.Statements.{read_meta, read_routes, read_rules, read_suppress}
use Rattle.prt_rows.specs.SuppressRow.{IsLength, suppress_row}
use Rattle.prt_rows.specs.declared.suppress_row.RuleLength.{RuleLength}
use Rattle.prt_rule.specs.declared.rule.Rule.{Rule}
use Rattle.prt_store.proofs.Lengths.{HaveOwnIds, lengths_permuted}
use Rattle.prt_store.specs.Loaded.{ReadsShown}
use Rattle.prt_store.proofs.Loads.{failed_only, fits_read, map_twice, merged_alike, merged_ids, own_lengths, shown_only}
use Rattle.prt_store.specs.Lengths.{left_over, lengths_of, merged}
use Rattle.prt_store.specs.Shown.{ShowsBadRows, ShowsCount, ShowsDamage, ShowsInSomeOrder, ShowsLengths, ShowsRoutes, ShowsRows, ShowsRules, ShowsState}
use Rattle.prt_version.specs.RowsSpell.{RowsSpell, RowsSpellNone}
use Rattle.prt_version.specs.State.{State}

-- ---- one statement

module _ {S : Type 0} (g : Ghosts S) (conn : Held S) (rows : List Row) where
  pub count_shown : (count : ℕ) → ShowsRows g conn read_meta rows → Decodes meta_rows IsCount rows (Some count) → ShowsCount g conn count
  count_shown count shown read = record { shown = subst (ShowsRows g conn read_meta) read.1 shown; fits = read.0 }

  pub rules_shown : (last : ℕ) (rules : List Rule) → Decodes (map rule_row) (All (IsRule last)) rows (Some rules) → ShowsRows g conn read_rules rows → rowids_rise rows ≡ true → ShowsRules g last conn rules
  rules_shown last rules read shown rise = record { shown = subst (ShowsRows g conn read_rules) read.1 shown; rise = subst (λ rows. rowids_rise rows ≡ true) read.1 rise; fit = read.0 }

  pub lengths_shown : (last : ℕ) (lengths : List RuleLength) → Decodes (map suppress_row) (All (IsLength last)) rows (Some lengths) → ShowsRows g conn read_suppress rows → ShowsLengths g last conn lengths
  lengths_shown last lengths read shown = record { shown = subst (ShowsRows g conn read_suppress) read.1 shown; fit = read.0 }

  pub routes_shown : (routes : List Route) → Decodes (map route_row) (All IsInRange) (map (drop 1) rows) (Some routes) → ShowsRows g conn read_routes rows → rowids_rise rows ≡ true → ShowsRoutes g conn routes
  routes_shown routes read shown rise = record { rows = rows; shown = shown; rise = rise; parts = read.1; fit = read.0 }

module _ {S X : Type 0} (g : Ghosts S) (old new : Held S) (sql : Word) (quiet : IsQuiet (understood (state g old).now.schema sql)) (survives : Survives (state g old) (state g new) (CommitsShowing sql [] (state g old))) where
  -- the query fails
  pub nothing_read : {Shows : X → Type 0} {Damage : Type 0} (e : Error) → (HasCleanDisk (state g new) → FailsToQuery sql [] (state g old) (state g new) e) → ReadsShown g Shows Damage old new (Err OpenFailed)
  nothing_read e fails = record { shown = λ clean. tt; damage = λ clean told. absurd (cc); only = failed_only g old new sql quiet survives e fails }

  -- it shows rows, which are decoded or not
  pub rows_read : {V : Type 0} {Shows : X → Type 0} (write : V → Row) (Fits : V → Type 0) (part : Row → Row) (rows : List Row) (result : Result X Refusal) → (HasCleanDisk (state g new) → Shown sql [] (state g old) (state g new) rows)
      → IfOk result (λ _. rowids_rise rows ≡ true) → IfOk result (λ x. ShowsRows g old sql rows → rowids_rise rows ≡ true → Shows x) → IfErr result (FailsToRead write Fits part rows) → ReadsShown g Shows (ShowsBadRows g old sql write Fits part) old new result
  rows_read write Fits part rows (Ok x) shown rise read fails = record { shown = λ clean. read (old, new, refl, shown clean) rise; damage = λ clean. tt; only = shown_only g old new sql quiet survives rows (Ok x) shown tt }
  rows_read write Fits part rows (Err reason) shown rise read fails = record {
    shown = λ clean. tt;
    damage = λ clean told. ((shown_unchanged sql (state g old) (state g new) quiet rows (shown clean)).0.was_open, (rows, (old, new, refl, shown clean), bad fails told));
    only = shown_only g old new sql quiet survives rows (Err reason) shown (refusal fails);
  }
    where
      refusal : FailsToRead write Fits part rows reason → IsOpenRefusal reason
      refusal (inl falls) = inl falls.0
      refusal (inr (inl undecoded)) = inl undecoded.0
      refusal (inr (inr memory)) = inr (inr memory)

      bad : FailsToRead write Fits part rows reason → reason ≡ Damaged → (rowids_rise rows ≡ false) ⊎ Any (λ v. Decodes write Fits v None) (map part rows)
      bad (inl falls) told = inl falls.1
      bad (inr (inl undecoded)) told = inr undecoded.1
      bad (inr (inr memory)) told = absurd (let other : Damaged ≡ NoMemory = sym told ∙ memory in cc)

-- ---- the same database

-- what was shown of a database was shown of the same one
module _ {S : Type 0} (g : Ghosts S) (a b : Held S) (same : (state g b).now ≡ (state g a).now) where
  pub rows_moved : (sql : Word) (rows : List Row) → ShowsRows g b sql rows → ShowsRows g a sql rows
  rows_moved sql rows it = (it.0, it.1, it.2 ∙ same, it.3)

  pub rules_moved : (last : ℕ) (rules : List Rule) → ShowsRules g last b rules → ShowsRules g last a rules
  rules_moved last rules it = record { shown = rows_moved read_rules (map rule_row rules) it.shown; rise = it.rise; fit = it.fit }

  pub lengths_moved : (last : ℕ) (lengths : List RuleLength) → ShowsLengths g last b lengths → ShowsLengths g last a lengths
  lengths_moved last lengths it = record { shown = rows_moved read_suppress (map suppress_row lengths) it.shown; fit = it.fit }

  pub routes_moved : (routes : List Route) → ShowsRoutes g b routes → ShowsRoutes g a routes
  routes_moved routes it = record { rows = it.rows; shown = rows_moved read_routes it.rows it.shown; rise = it.rise; parts = it.parts; fit = it.fit }

  pub bad_moved : {X : Type 0} (sql : Word) (write : X → Row) (Fits : X → Type 0) (part : Row → Row) → ShowsBadRows g b sql write Fits part → ShowsBadRows g a sql write Fits part
  bad_moved sql write Fits part it = (it.0, rows_moved sql it.0 it.1, it.2)

  order_moved : (sql : Word) (rows : List Row) → ShowsInSomeOrder g b sql rows → ShowsInSomeOrder g a sql rows
  order_moved sql rows it = (it.0, rows_moved sql it.0 it.1, it.2)

  pub state_moved : (stored : State) → ShowsState g b stored → ShowsState g a stored
  state_moved stored it = record {
    count = rows_moved read_meta (meta_rows stored.count) it.count;
    rules = order_moved read_rules (map rule_row stored.rules) it.rules;
    lengths = order_moved read_suppress (map suppress_row (lengths_of stored.rules)) it.lengths;
    routes = (it.routes.0, rows_moved read_routes it.routes.0 it.routes.1, it.routes.2, it.routes.3);
    fits = it.fits;
  }

-- ---- the whole state

-- a row of lengths without the column of its key, which is empty
abbrev unkept : Row → Row
unkept row = rowid row ∷ drop 2 row

-- the same rules in another order have the same rows of lengths
lengths_alike : (rules others : List Rule) → HaveOwnIds rules → HaveOwnIds others → IsPermutation rules others → IsPermutation (map suppress_row (lengths_of rules)) (map suppress_row (lengths_of others))
lengths_alike rules others distinct apart same =
    subst (λ rows. IsPermutation rows (map suppress_row (lengths_of others))) (map_twice unkept kept_length (lengths_of rules))
    (subst (λ rows. IsPermutation (map unkept (map kept_length (lengths_of rules))) rows) (map_twice unkept kept_length (lengths_of others)) (IsPermutation-map unkept _ _ (lengths_permuted rules others distinct apart same)))

module _ {S : Type 0} (g : Ghosts S) (conn : Held S) (count : ℕ) (rules : List Rule) (lengths : List RuleLength) (routes : List Route) (one : ShowsCount g conn count) (some : ShowsRules g (count + 3) conn rules) (known : ShowsLengths g (count + 3) conn lengths)
    (more : ShowsRoutes g conn routes) where
  pub no_state : (left_over rules lengths ≢ []) ⊎ RowsSpellNone count (merged rules lengths) routes → ShowsDamage g conn
  no_state none = inr (count, one, inr (record { rules = rules; lengths = lengths; routes = routes; show_rules = some; show_lengths = known; show_routes = more; none = none }))

  -- what the parts show together is the state that was made of them
  pub shows_state : left_over rules lengths ≡ [] → (stored : State) → RowsSpell count (merged rules lengths) routes stored → ShowsState g conn stored
  shows_state over stored spells = record {
    count = subst (λ n. ShowsRows g conn read_meta (meta_rows n)) (sym spells.count) one.shown;
    rules = (map rule_row rules, some.shown, subst (λ rows. IsPermutation rows (map rule_row stored.rules)) (merged_alike rules lengths) (IsPermutation-map rule_row (merged rules lengths) stored.rules spells.rules_are));
    lengths = (
      map suppress_row lengths,
      known.shown,
      subst (λ l. IsPermutation (map suppress_row l) (map suppress_row (lengths_of stored.rules))) (own_lengths count rules lengths some.fit over)
          (lengths_alike (merged rules lengths) stored.rules (merged_ids rules lengths some.rise) spells.sound.distinct_ids spells.rules_are),
    );
    routes = (more.rows, more.shown, more.rise, subst (λ rows. IsPermutation rows (map route_row stored.routes)) (sym more.parts) (IsPermutation-map route_row routes stored.routes spells.routes_are));
    fits = fits_read count rules lengths some.fit routes stored more.fit spells;
  }
