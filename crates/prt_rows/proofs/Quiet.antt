-- A query changes nothing, whatever tables the file has.
use Rattle.std.proofs.Common.{◌≡◌, ◌⊎◌, inl, inr, List, [], Bool, true, false, None, Ok, Err, Result, true≢false, refl, sym, subst}
use Rattle.std.specs.Prelude.{if◌then◌else◌}
use Rattle.sqlite.proofs.StateLemmas.{survives_weaker}
use Rattle.sqlite.specs.Command.{Command}
use Rattle.sqlite.specs.Listing.{if_select, is_select, listing_schema, reads_listing, understood}
use Rattle.sqlite.specs.Schema.{Schema}
use Rattle.sqlite.specs.State.{CommitsShowing, FailsToQuery, IsNotRun, IsRolledBack, IsUnchanged, Shown, State, Survives}
use Rattle.sqlite.specs.declared.error.Error.{Error}
use Rattle.sqlite_ast.specs.declared.Select.{Select}
use Rattle.sqlite_ast.specs.declared.Statement.{Statement}
use Rattle.sqlite_ast.specs.declared.Statement.TheVariants as written
use Rattle.sqlite_resolve.specs.Compile.{compiled, first, meaning, planned, returning, timed, with_command}
use Rattle.sqlite_resolve.specs.Lowering.{Checked, and_then}
use Rattle.sqlite_resolve.specs.declared.compiled.Compiled.{Compiled}
use Rattle.sqlite_resolve.specs.declared.error.CompileError.{CompileError}
use Rattle.sqlite_resolve.specs.Scope.{Name}
use Rattle.sqlite_syntax.specs.declared.statement.Parsed.{Parsed}
use Rattle.sqlite_tied.specs.Compute.{everything}
use Rattle.prt_addr.specs.Word.{Word}
use Rattle.prt_rows.specs.Statements.{look_at_meta, look_at_routes, look_at_rules, look_at_suppress, read_meta, read_routes, read_rules, read_suppress}

-- if it is understood, it shows no rows of a write and does not read the time
abbrev pub IsQuiet : Result Compiled CompileError → Type 0
IsQuiet (Ok c) = (c.returning ≡ None) × (c.formats ≡ [])
IsQuiet (Err e) = Unit {0}

abbrev pub IsSelect : Statement → Type 0
IsSelect (written.Select s) = Unit {0}
IsSelect _ = ⊥

-- the text is a SELECT that does not read the time
abbrev pub IsQuery : Checked Parsed → Type 0
IsQuery (Ok p) = IsSelect p.statement × (p.formats ≡ [])
IsQuery (Err e) = ⊥

quiet_command : (p : Parsed) (formats : List Name) (r : Checked Command) → formats ≡ [] → IsQuiet (and_then (and_then (and_then r (λ c. Ok (c, None))) (λ found. Ok (formats, found))) (λ plan. Ok (with_command p plan)))
quiet_command p formats (Ok c) none = (refl, none)
quiet_command p formats (Err e) none = tt

module _ (schema : Schema) where
  quiet_select : (p : Parsed) (s : Select) → p.statement ≡ written.Select s → p.formats ≡ [] → IsQuiet (and_then (planned schema p) (λ plan. Ok (with_command p plan)))
  unfolding planned meaning returning timed
  quiet_select p s is none = rw is (quiet_command p p.formats _ none)

  quiet_statement : (p : Parsed) (statement : Statement) → p.statement ≡ statement → IsSelect statement → p.formats ≡ [] → IsQuiet (and_then (planned schema p) (λ plan. Ok (with_command p plan)))
  quiet_statement p (written.Select s) is select none = quiet_select p s is none
  quiet_statement p _ is select none = absurd select

  quiet_parsed : (r : Checked Parsed) → IsQuery r → IsQuiet (and_then r (λ p. and_then (planned schema p) (λ plan. Ok (with_command p plan))))
  quiet_parsed (Ok p) query = quiet_statement p p.statement refl query.0 query.1
  quiet_parsed (Err e) query = absurd query

  quiet_compiled : (text : Word) → IsQuery (first text) → IsQuiet (compiled schema text)
  unfolding compiled
  quiet_compiled text query = quiet_parsed (first text) query

quiet_if : (b : Bool) (c : Compiled) (e : CompileError) → IsQuiet (Ok c) → IsQuiet (if b then Ok c else Err e)
quiet_if true c e quiet = quiet
quiet_if false c e quiet = tt

quiet_listing : (r : Result Compiled CompileError) → IsQuiet r → IsQuiet (if_select r)
quiet_listing (Ok c) quiet = quiet_if (is_select c.command) c _ quiet
quiet_listing (Err e) quiet = tt

either : (b : Bool) (one other : Result Compiled CompileError) → IsQuiet one → IsQuiet other → IsQuiet (if b then one else other)
either true one other left right = left
either false one other left right = right

pub quiet_query : (schema : Schema) (text : Word) → IsQuery (first text) → IsQuiet (understood schema text)
unfolding understood
quiet_query schema text query = either (reads_listing schema text) _ _ (quiet_listing (compiled listing_schema text) (quiet_compiled listing_schema text query)) (quiet_compiled schema text query)

-- ---- the statements that look whether a table has rows, and those that read one

looks_at_rules : IsQuery (first look_at_rules)
unfolding everything
looks_at_rules = (tt, refl)

looks_at_routes : IsQuery (first look_at_routes)
unfolding everything
looks_at_routes = (tt, refl)

looks_at_meta : IsQuery (first look_at_meta)
unfolding everything
looks_at_meta = (tt, refl)

looks_at_suppress : IsQuery (first look_at_suppress)
unfolding everything
looks_at_suppress = (tt, refl)

reads_rules : IsQuery (first read_rules)
unfolding everything
reads_rules = (tt, refl)

reads_routes : IsQuery (first read_routes)
unfolding everything
reads_routes = (tt, refl)

reads_meta : IsQuery (first read_meta)
unfolding everything
reads_meta = (tt, refl)

reads_suppress : IsQuery (first read_suppress)
unfolding everything
reads_suppress = (tt, refl)

module _ (schema : Schema) where
  pub quiet_rules : IsQuiet (understood schema look_at_rules)
  quiet_rules = quiet_query schema look_at_rules looks_at_rules

  pub quiet_routes : IsQuiet (understood schema look_at_routes)
  quiet_routes = quiet_query schema look_at_routes looks_at_routes

  pub quiet_meta : IsQuiet (understood schema look_at_meta)
  quiet_meta = quiet_query schema look_at_meta looks_at_meta

  pub quiet_suppress : IsQuiet (understood schema look_at_suppress)
  quiet_suppress = quiet_query schema look_at_suppress looks_at_suppress

  pub quiet_read_rules : IsQuiet (understood schema read_rules)
  quiet_read_rules = quiet_query schema read_rules reads_rules

  pub quiet_read_routes : IsQuiet (understood schema read_routes)
  quiet_read_routes = quiet_query schema read_routes reads_routes

  pub quiet_read_meta : IsQuiet (understood schema read_meta)
  quiet_read_meta = quiet_query schema read_meta reads_meta

  pub quiet_read_suppress : IsQuiet (understood schema read_suppress)
  quiet_read_suppress = quiet_query schema read_suppress reads_suppress

-- ---- what such a query does

module _ (sql : Word) (old new : State) (quiet : IsQuiet (understood old.now.schema sql)) where
  pub shown_unchanged : (rows : _) → Shown sql [] old new rows → IsUnchanged old new
  unfolding Shown
  shown_unchanged rows shown =
      let bare = subst IsQuiet shown.1.is quiet in
      (rw (bare.0) at shown.2).3

  -- if it fails, the connection is as it was, or without what was pending
  pub failed_query : (e : Error) → FailsToQuery sql [] old new e → IsUnchanged old new ⊎ IsRolledBack old new
  unfolding FailsToQuery IsNotRun
  failed_query e (inl (inl refused)) = inl refused.1
  failed_query e (inl (inr failed)) = inr failed.3
  failed_query e (inr ran) =
      let bare = subst IsQuiet ran.1.is quiet in
      inl (rw (bare.0) at ran.2).3

  pub shows_no_write : Survives old new (CommitsShowing sql [] old) → Survives old new (λ _. ⊥)
  unfolding CommitsShowing
  shows_no_write survives = survives_weaker old new _ _ (λ clean db showing.
      let bare = subst IsQuiet showing.1.is quiet in
      let some = rw (bare.0) at showing.2 in
      absurd (true≢false (sym some))) survives
