-- The calls of a commit, and what is left if it is stopped in one of them.
use Rattle.std.proofs.Common.{◌≡◌, inl, inr, ℕ, List, [], ◌∷◌, false, IsTrue, Result, refl, sym, subst, arith}
use Rattle.std.specs.List.{AllByRecursion as Each}
use Rattle.std.specs.Result.{is_err}
use Rattle.sqlite.proofs.Callers.{survives_begin}
use Rattle.sqlite.proofs.StateLemmas.{survives_then, survives_weaker}
use Rattle.sqlite.specs.Held.{Held, state}
use Rattle.sqlite.specs.State.{HasCleanDisk, Survives}
use Rattle.sqlite.specs.Store.{Ghosts}
use Rattle.sqlite.specs.Tree.{Trees}
use Rattle.sqlite.specs.declared.error.Error.{Error}
use Rattle.sqlite_value.specs.Order.{Row}
use Rattle.prt_addr.specs.Word.{Word}
use Rattle.prt_refusals.specs.declared.refusal.StoreCall.{StoreCall}
use Rattle.prt_refusals.specs.declared.refusal.StoreCall.TheVariants.{Begin, Write, Count, Commit}
use Rattle.prt_rows.specs.Kept.{count_values}
use Rattle.prt_rows.specs.Statements.{set_count}
use Rattle.prt_version.specs.declared.change.Change.{Change}
use Rattle.prt_store.proofs.Ones.{all_stopped, next_one}
use Rattle.prt_store.proofs.Several.{makes_all_next}
use Rattle.prt_store.proofs.Transactions.{of_ok, statement_works, survives_itself}
use Rattle.prt_store.specs.Made.{MakesChanges, WritesAll}
use Rattle.prt_store.specs.Next.{MakesNext, put_all}
use Rattle.prt_store.specs.Openings.{HasLeft, Works, begun_from}
use Rattle.prt_store.specs.Stops.{AllStoppedIn, Counts, LeavesAState, LeavesAllOrNone, MakesAllCalls, MayCommit, RanInside, WritesEach}
use Rattle.prt_store.specs.Written.{CommitsNothing, IsTyped, RunsInside}

-- one call after another, of which none commits
pub quiet_then : {S : Type 0} (g : Ghosts S) (a b c : Held S) → CommitsNothing g a b → CommitsNothing g b c → CommitsNothing g a c
quiet_then g a b c one two = survives_then (state g a) (state g b) (state g c) _ _ (λ _. ⊥) (λ _ db none. none) (λ _ db none. none) one two

ran_inside : {S : Type 0} (g : Ghosts S) (sql : Word) (params : Row) (a b : Held S) (result : Result ℕ Error) → is_err result ≡ false → RunsInside g sql params a b result → CommitsNothing g a b → HasCleanDisk (state g b) → IsTrue (state g a).in_transaction
    → RanInside g sql params a b × IsTrue (state g b).in_transaction
ran_inside g sql params a b result fine runs quiet clean inside = let did = of_ok result fine ((statement_works g sql params a b result runs quiet).done clean inside) in ((did.0, quiet), did.1)

module _ {S : Type 0} (g : Ghosts S) (changes : List Change) (number : ℕ) (old begun written : Held S) (first : Result ℕ Error) (was : begun ≡ begun_from old) (typed : Each IsTyped changes) (fine : is_err first ≡ false)
    (writes : Works g (WritesAll g changes) begun written first) where
  pub wrote : HasCleanDisk (state g written) → WritesEach g changes old written × IsTrue (state g written).in_transaction
  wrote clean =
      let did = of_ok first fine (writes.done clean (rw was)) in
      ((typed, subst (λ h. WritesAll g changes h written × CommitsNothing g h written) was (did.0, writes.quiet)), did.1)

  pub stopped_in_count : (failed end : Held S) → CommitsNothing g written failed → CommitsNothing g failed end → HasCleanDisk (state g end) → AllStoppedIn g changes number old Count end
  stopped_in_count failed end one two clean =
      let rest = quiet_then g written failed end one two in
      (written, (wrote (omega (arith, rest.clean, clean))).0, rest)

  module _ (counted end : Held S) (second : Result ℕ Error) (fine_too : is_err second ≡ false) (counts : RunsInside g set_count (count_values number) written counted second) (quiet_too : CommitsNothing g written counted) (commits : MayCommit g counted end)
      (clean : HasCleanDisk (state g end)) where
    clean_counted : HasCleanDisk (state g counted)
    clean_counted = omega (arith, commits.clean, clean)

    clean_written : HasCleanDisk (state g written)
    clean_written = omega (arith, quiet_too.clean, clean_counted)

    pub counted_too : Counts g number written counted
    counted_too = (ran_inside g set_count (count_values number) written counted second fine_too counts quiet_too clean_counted (wrote clean_written).1).0

    pub stopped_in_commit : AllStoppedIn g changes number old Commit end
    stopped_in_commit = (written, (wrote clean_written).0, counted, counted_too, commits)

    pub calls_made : (state g end).committed ≡ (state g counted).now → MakesAllCalls g changes number old end
    calls_made is = record { written = written; counted = counted; write = (wrote clean_written).0; count = counted_too; commit = (commits, is) }

-- ---- what is left

-- the statements of all changes left these trees
abbrev pub HasLeftNext : {S : Type 0} → Ghosts S → List Change → ℕ → Held S → StoreCall → Trees → Type 0
HasLeftNext g changes number old call trees = (call ≡ Commit) × Each IsTyped changes × HasLeft g (MakesChanges g changes number) old trees

module _ {S : Type 0} (g : Ghosts S) (changes : List Change) (number : ℕ) (old left : Held S) where
  quiet_from : (call : StoreCall) (last : Held S) → CommitsNothing g (begun_from old) last → CommitsNothing g last left → Survives (state g old) (state g left) (HasLeftNext g changes number old call)
  quiet_from call last one two =
      survives_begin g old (state g left) _ (survives_then (state g (begun_from old)) (state g last) (state g left) _ _ (HasLeftNext g changes number old call) (λ _ db none. absurd none) (λ _ db none. absurd none) one two)

  -- a crash finds what it could find before, or what the statements left
  pub left_by : (call : StoreCall) → AllStoppedIn g changes number old call left → Survives (state g old) (state g left) (HasLeftNext g changes number old call)
  left_by Begin is = subst (λ h. Survives (state g old) (state g h) (HasLeftNext g changes number old Begin)) (sym is) (survives_itself (state g old) _)
  left_by Write quiet = survives_begin g old (state g left) _ (survives_weaker (state g (begun_from old)) (state g left) _ (HasLeftNext g changes number old Write) (λ _ db none. absurd none) quiet)
  left_by Count stopped = quiet_from Count stopped.0 stopped.1.1.1 stopped.2
  left_by Commit stopped =
      let write = stopped.1 in
      let count = stopped.3 in
      let last = stopped.2 in
      let quiet = quiet_then g (begun_from old) stopped.0 last write.1.1 count.1 in
      survives_begin g old (state g left) _
      (survives_then (state g (begun_from old)) (state g last) (state g left) _ _ (HasLeftNext g changes number old Commit) (λ _ db none. absurd none)
      (λ _ trees is. (refl, write.0, ((state g last).now, (last, (stopped.0, write.1.0, count.0), refl), is))) quiet stopped.4)

-- whichever call a commit is stopped in, a crash finds the rows as they were or those of the state after all changes
pub leaves_all_or_none : {S : Type 0} (g : Ghosts S) → LeavesAllOrNone g
leaves_all_or_none g before changes number old left call next held rest stopped clean trees leaves = elim ((left_by g changes number old left call stopped).crash clean trees leaves) [
  | inl was ↦ inl (rest.crash trees was)
  | inr it ↦
      let done = it.2 in
      let all = makes_all_next g changes number old done.0 before next it.1 held done.1 in
      inr (it.0, subst (MakesNext (state g old).now (put_all before changes)) (λ i. record { schema = all.schema i; trees = sym done.2 i }) all)
]

-- so it is of one change
pub leaves_a_state : {S : Type 0} (g : Ghosts S) → LeavesAState g
leaves_a_state g before made number old left call next held rest stopped =
    leaves_all_or_none g before (made ∷ []) number old left call (next_one before made number next) held rest (all_stopped g made number old call left stopped)
