-- What is done in a transaction, and what its end leaves.
use Rattle.std.proofs.Common.{◌≡◌, ◌≤◌, inl, inr, ℕ, IsTrue, true, false, Ok, Err, Result, IfErr, OnOk, refl, sym, subst, ◌∙◌, arith, true≢false}
use Rattle.std.proofs.lemmas.Result.{on_ok_weaker}
use Rattle.std.specs.Result.{is_err}
use Rattle.sqlite.proofs.Callers.{survives_begin}
use Rattle.sqlite.proofs.StateLemmas.{survives_then}
use Rattle.sqlite.specs.Held.{Held, state}
use Rattle.sqlite.specs.State.{HasCleanDisk, IsRolledBack, KeepsCommit, Shows, State as Conn, Survives}
use Rattle.sqlite.specs.Steps.{FailsToCommit}
use Rattle.sqlite.specs.Store.{Ghosts}
use Rattle.sqlite.specs.Tree.{Trees}
use Rattle.sqlite.specs.View.{doubt}
use Rattle.sqlite.specs.declared.error.Error.{Error}
use Rattle.sqlite_value.specs.Order.{Row}
use Rattle.prt_addr.specs.Word.{Word}
use Rattle.prt_store.specs.Adopted.{IsSettled}
use Rattle.prt_store.specs.Openings.{HasDone, HasLeft, InTurn, Ran, Works, begun_from}
use Rattle.prt_store.specs.Written.{CommitsNothing, RunsInside}

-- nothing is done to a connection
pub survives_itself : (a : Conn) (P : Trees → Type 0) → Survives a a P
survives_itself a P = record { clean = omega arith; shield = λ h. h; counts = omega arith; limit = refl; closes = λ clean still_open. inl still_open; crash = λ clean db leaves. inl leaves }

-- the statement runs with these parameters, which are those that were passed to it
pub runs_with : {S : Type 0} (g : Ghosts S) (sql : Word) (given params : Row) (old new : Held S) (result : Result ℕ Error) → RunsInside g sql given old new result → given ≡ params → RunsInside g sql params old new result
runs_with g sql given params old new result runs same = subst (λ (values : Row). RunsInside g sql values old new result) same runs

pub statement_works : {S : Type 0} (g : Ghosts S) (sql : Word) (params : Row) (old new : Held S) (result : Result ℕ Error) → RunsInside g sql params old new result → CommitsNothing g old new → Works g (Ran g sql params) old new result
statement_works g sql params old new (Ok count) runs quiet = record {
  done = λ clean inside. let ran = runs clean inside in ((count, ran.0), ran.1.mode);
  keeps = λ clean inside. let ran = runs clean inside in record { was_open = λ _. ran.1.was_open; committed = λ _. ran.1.committed_is };
  quiet = quiet;
}
statement_works g sql params old new (Err e) runs quiet = record {
  done = λ clean inside. tt;
  keeps = λ clean inside. elim (runs clean inside) [
    | inl ran ↦ elim ran.1 [
      | inl same ↦ record { was_open = λ _. same.0.was_open; committed = λ _. same.0.committed_is }
      | inr undone ↦ record { was_open = undone.was_open; committed = λ still_open. (undone.undone still_open).1 }
    ]
    | inr ended ↦ record { was_open = λ _. ended.2.0.was_open; committed = λ _. ended.2.0.committed_is }
  ];
  quiet = quiet;
}

module _ {S : Type 0} (g : Ghosts S) (First Next : Held S → Held S → Type 0) (a b : Held S) where
  pub works_then : (c : Held S) (n : ℕ) (result : Result ℕ Error) → Works g First a b (Ok n) → Works g Next b c result → Works g (InTurn First Next) a c result
  works_then c n result one two = record {
    done = λ clean inside.
        let before : HasCleanDisk (state g b) = omega (arith, two.quiet.clean) in
        let first = one.done before inside in
        on_ok_weaker result (λ second. ((b, first.0, second.0), second.1)) (two.done clean first.1);
    keeps = λ clean inside.
        let before : HasCleanDisk (state g b) = omega (arith, two.quiet.clean) in
        let first = one.done before inside in
        let x = one.keeps before inside in
        let y = two.keeps clean first.1 in
        record { was_open = λ still_open. x.was_open (y.was_open still_open); committed = λ still_open. y.committed still_open ∙ x.committed (y.was_open still_open) };
    quiet = survives_then (state g a) (state g b) (state g c) _ _ (λ _. ⊥) (λ _ db none. none) (λ _ db none. none) one.quiet two.quiet;
  }

-- ---- the whole transaction

-- if it is clean and still open, it shows what it showed, and that is committed as it was
abbrev pub IsLeftAlone : {S : Type 0} → Ghosts S → Held S → Held S → Type 0
IsLeftAlone g old end = HasCleanDisk (state g end) → IsTrue (state g end).is_open → ((state g end).now ≡ (state g old).now) × ((state g end).committed ≡ (state g old).committed)

pub of_ok : {T P : Type 0} (r : Result T Error) → is_err r ≡ false → OnOk r P → P
of_ok (Ok n) fine it = it
of_ok (Err e) fine it = absurd (let bad = fine in cc)

module _ {S : Type 0} (g : Ghosts S) (Does : Held S → Held S → Type 0) (old begun last : Held S) (result : Result ℕ Error) (was : begun ≡ begun_from old) (works : Works g Does begun last result) where
  last_keeps : HasCleanDisk (state g last) → KeepsCommit (state g old) (state g last)
  last_keeps clean =
      let keeps = subst (λ h. KeepsCommit (state g h) (state g last)) was (works.keeps clean (rw was)) in
      record { was_open = keeps.was_open; committed = keeps.committed }

  last_quiet : CommitsNothing g old last
  last_quiet = survives_begin g old (state g last) _ (subst (λ h. Survives (state g h) (state g last) (λ _. ⊥)) was works.quiet)

  -- a transaction that was rolled back leaves what was there before it
  pub rolled_back : (end : Held S) → HasCleanDisk (state g end) → (doubt (state g last).is_clean ≤ doubt (state g end).is_clean) → IsRolledBack (state g last) (state g end)
      → (IsTrue (state g old).is_open → (state g old).now ≡ (state g old).committed) → IsTrue (state g end).is_open → (state g end).now ≡ (state g old).now
  rolled_back end clean less undone settled still_open =
      let keeps = last_keeps (omega (arith, less)) in
      let was_open = undone.was_open still_open in
      (undone.undone still_open).0 ∙ keeps.committed was_open ∙ sym (settled (keeps.was_open was_open))

  pub left_alone : (end : Held S) → (doubt (state g last).is_clean ≤ doubt (state g end).is_clean) → (HasCleanDisk (state g end) → IsRolledBack (state g last) (state g end))
      → (IsTrue (state g old).is_open → (state g old).now ≡ (state g old).committed) → IsLeftAlone g old end
  left_alone end less undone settled clean still_open =
      let back = undone clean in
      let keeps = last_keeps (omega (arith, less)) in
      (rolled_back end clean less back settled still_open, (back.undone still_open).1 ∙ keeps.committed (back.was_open still_open))

  pub stopped : (end : Held S) (P : Trees → Type 0) → Survives (state g last) (state g end) (λ _. ⊥) → Survives (state g old) (state g end) P
  stopped end P rest = survives_then (state g old) (state g last) (state g end) _ _ P (λ _ db none. absurd none) (λ _ db none. absurd none) last_quiet rest

  module _ (fine : is_err result ≡ false) where
    in_the_end : HasCleanDisk (state g last) → HasDone g Does old (state g last).now
    in_the_end clean = (last, subst (λ h. Does h last) was (of_ok result fine (works.done clean (rw was))).0, refl)

    -- what a crash leaves, if the commit may have been made
    pub crash_after : (end : Held S) → Survives (state g last) (state g end) (λ trees. trees ≡ (state g last).now.trees) → Survives (state g old) (state g end) (HasLeft g Does old)
    crash_after end done =
        survives_then (state g old) (state g last) (state g end) _ _ (HasLeft g Does old) (λ _ db none. absurd none) (λ clean trees is. ((state g last).now, in_the_end (omega (arith, done.clean)), is)) last_quiet done

    pub committed : (end : Held S) → (doubt (state g last).is_clean ≤ doubt (state g end).is_clean) → Shows (state g last) (state g end) (state g last).now (state g last).now false → HasCleanDisk (state g end)
        → HasDone g Does old (state g end).committed × IsSettled g end
    committed end less shows clean =
        (subst (HasDone g Does old) (sym shows.committed_is) (in_the_end (omega (arith, less))), record { is_open = shows.is_open; autocommit = shows.mode; committed = shows.now_is ∙ sym shows.committed_is })

    -- a commit that fails leaves what was there before, if the connection is still still_open
    pub not_committed : (end : Held S) (done : Result (Unit {0}) Error) → is_err done ≡ true → HasCleanDisk (state g end) → (doubt (state g last).is_clean ≤ doubt (state g end).is_clean) → IfErr done (FailsToCommit (state g last) (state g end))
        → (IsTrue (state g old).is_open → (state g old).now ≡ (state g old).committed) → IsTrue (state g end).is_open → (state g end).now ≡ (state g old).now
    not_committed end (Ok x) bad clean less failed settled still_open = absurd (true≢false (sym bad))
    not_committed end (Err e) bad clean less (inl failed) settled still_open = rolled_back end clean less failed.3 settled still_open
    not_committed end (Err e) bad clean less (inr ended) settled still_open = absurd (true≢false (sym (of_ok result fine (works.done (omega (arith, less)) (rw was))).1 ∙ ended.1))

    -- and nothing of it is committed
    pub not_made : (end : Held S) (done : Result (Unit {0}) Error) → is_err done ≡ true → (doubt (state g last).is_clean ≤ doubt (state g end).is_clean)
        → (HasCleanDisk (state g end) → IfErr done (FailsToCommit (state g last) (state g end))) → (IsTrue (state g old).is_open → (state g old).now ≡ (state g old).committed) → IsLeftAlone g old end
    not_made end done bad less fails settled clean still_open = go done bad (fails clean)
      where
        go : (done : Result (Unit {0}) Error) → is_err done ≡ true → IfErr done (FailsToCommit (state g last) (state g end)) → ((state g end).now ≡ (state g old).now) × ((state g end).committed ≡ (state g old).committed)
        go (Ok x) bad failed = absurd (true≢false (sym bad))
        go (Err e) bad (inl failed) = left_alone end less (λ _. failed.3) settled clean still_open
        go (Err e) bad (inr ended) = absurd (true≢false (sym (of_ok result fine (works.done (omega (arith, less)) (rw was))).1 ∙ ended.1))
