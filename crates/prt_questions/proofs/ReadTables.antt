-- What holds of tables that were read.
use Rattle.std.proofs.Common.{◌≡◌, ◌⊎◌, Bor, IfOk, inl, inr, ℕ, List, Option, Result, Ok, Err, refl, subst}
use Rattle.sqlite.specs.Held.{Held}
use Rattle.sqlite.specs.Store.{Ghosts}
use Rattle.prt_diff.specs.declared.fence.Fence.{Fence}
use Rattle.prt_import.specs.Accepted.{IsExecuted}
use Rattle.prt_import.specs.declared.accepted.Accepted.{Accepted}
use Rattle.prt_version.specs.State.{State}
use Rattle.prt_addr.specs.Word.{Word}
use Rattle.prt_args.specs.declared.asking.Shown.{Shown}
use Rattle.prt_args.specs.declared.asking.Shown.TheVariants.{Impact, Lines, Status}
use Rattle.prt_args.specs.declared.asking.Source.{Source}
use Rattle.prt_args.specs.declared.reach.Reach.{Reach}
use Rattle.prt_args.specs.declared.server_place.ServerPlace.{ServerPlace}
use Rattle.prt_args.specs.declared.asking.Source.TheVariants.{Database, Script, Server}
use Rattle.prt_args.specs.declared.fault.TheConstants.{DONE}
use Rattle.prt_questions.specs.Analyses.{HaveTables, IsFoundOf, IsNotRead}
use Rattle.prt_questions.specs.Asking.{HasCompared, HasComparedAtMost, IsAskedOf, IsFenced, IsShown, IsShownAtMost, IsWholeFenced}
use Rattle.prt_questions.specs.LeftOut.{AreKernels}
use Rattle.prt_questions.specs.Sources.{Gives, Sources, after, path_of, rest_after}
use Rattle.prt_machine.specs.declared.database_opener.DatabaseOpener.{Ghosts as Opener}
use Rattle.prt_questions.specs.declared.tables.Tables.{Tables}
use Rattle.prt_questions.proofs.Asked.{asked_more}

module _ {M S : Type 0} (g : Ghosts S) (by : Opener M (Held S)) (from : Sources) (old new : M) where
  -- it holds of their source
  pub of_tables : (source : Source) (left : ℕ) (tables : State) (P : State → Type 0) → HaveTables g by from old new source left tables → P tables → IsAskedOf g by from old new source P
  of_tables (Database path) left tables P read holds = asked_more g by from old new (Database path) (λ state. tables ≡ state) P (λ state is. subst P is holds) read
  of_tables (Server place) left tables P read holds = asked_more g by from old new (Server place) (λ state. tables ≡ state) P (λ state is. subst P is holds) read
  of_tables (Script file) left tables P read holds = (read.0, read.1, read.2, read.3, read.4, subst P read.6 holds)

  -- and of all lines of a script with status 0
  pub found_of : (source : Source) (left : ℕ) (tables : State) (status : ℕ) (P : State → Type 0) → HaveTables g by from old new source left tables → (status ≡ DONE → left ≡ DONE) → P tables → IsFoundOf g by from old new source status P
  found_of (Database path) left tables status P read all holds = of_tables (Database path) left tables P read holds
  found_of (Server place) left tables status P read all holds = of_tables (Server place) left tables P read holds
  found_of (Script file) left tables status P read all holds = (read.0, read.1, read.2, read.3, read.4, λ done. read.5 (all done), subst P read.6 holds)

  -- or they were read for nothing
  pub read_in_vain : (source : Source) (left : ℕ) (tables : State) → HaveTables g by from old new source left tables → IsNotRead g by from old new source
  read_in_vain source left tables read = inr (of_tables source left tables (λ state. Unit {0}) read tt)

  -- a script's tables touch no database
  pub of_script_tables : {E : Type 0} (file : Option (Bor (List ℕ))) (result : Result Tables E) → new ≡ old
      → IfOk result (λ tables. (made : Accepted) × (text : List ℕ) × Gives from (path_of file) text × IsExecuted made text × (tables.left ≡ DONE → AreKernels made.left.items) × (tables.version ≡ made.version))
      → IfOk result (λ tables. HaveTables g by from old new (Script file) tables.left tables.version)
  of_script_tables file (Ok tables) same made = (same, made.0, made.1, made.2, made.3, made.4, made.5)
  of_script_tables file (Err e) same made = tt

  -- nor do those of a server
  pub of_server_tables : {E : Type 0} (place : ServerPlace) (result : Result Tables E) → new ≡ old → IfOk result (λ tables. from.tells place tables.version)
      → IfOk result (λ tables. HaveTables g by from old new (Server place) tables.left tables.version)
  of_server_tables place (Ok tables) same told = (same, tables.version, told, refl)
  of_server_tables place (Err e) same told = tt

  -- what was written of tables that were read, if anything was
  pub of_tables_at_most : (source : Source) (left : ℕ) (tables : State) (Unwritten : Type 0) (P : State → Type 0) → HaveTables g by from old new source left tables → Unwritten ⊎ P tables
      → (Unwritten × IsNotRead g by from old new source) ⊎ IsAskedOf g by from old new source P
  of_tables_at_most source left tables Unwritten P read (inl same) = inl (same, read_in_vain source left tables read)
  of_tables_at_most source left tables Unwritten P read (inr holds) = inr (of_tables source left tables P read holds)

-- What was shown of a difference from a listing.
module _ {M S : Type 0} (g : Ghosts S) (by : Opener M (Held S)) (from : Sources) (old new : M) (writer0 writer : Option (List ℕ)) (file : Option Word) (reach : Reach) (source : Source) where
  pub compared : (shown : Shown) (found : State) (fence : Fence) → IsWholeFenced (Gives from file) reach found fence
      → IsShown g by (after (rest_after file) from) old new writer0 writer fence found shown source → HasCompared g by from old new writer0 writer file reach shown source
  compared Lines found fence is shows = (found, fence, is, shows)
  compared Impact found fence is shows = (found, fence, is, shows)
  compared Status found fence is shows = (found, fence, is, shows.0, shows.1)

  pub compared_at_most : (shown : Shown) (found : State) (fence : Fence) → IsFenced (Gives from file) reach found fence
      → IsShownAtMost g by (after (rest_after file) from) old new writer0 writer fence found shown source → HasComparedAtMost g by from old new writer0 writer file reach shown source
  compared_at_most Lines found fence is shows = inr (found, fence, is, shows)
  compared_at_most Impact found fence is (inl same) = inl same
  compared_at_most Impact found fence is (inr asked) = inr (found, fence, is, asked)
  compared_at_most Status found fence is shows = shows
