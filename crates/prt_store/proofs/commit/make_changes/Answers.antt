use Rattle.std.proofs.Common.{◌≡◌, refl, sym, subst, rules, ap, arith}
use Rattle.std.specs.List.{AllByRecursion as Each}
use Rattle.std.specs.Result.{is_err}
use Rattle.sqlite.proofs.StateLemmas.{survives_weaker}
use Rattle.sqlite.specs.Held.{state}
use Rattle.sqlite.specs.State.{HasCleanDisk, Survives}
use Rattle.sqlite.specs.Steps.{FailsToCommit}
use Rattle.sqlite.specs.Tree.{Trees}
use Rattle.prt_refusals.specs.declared.refusal.StoreCall.TheVariants.{Commit, Count}
use Rattle.prt_store.specs.Adopted.{IsSettled}
use Rattle.prt_store.specs.Failures.{RefusesOneOf}
use Rattle.prt_store.specs.Made.{MakesChanges}
use Rattle.prt_store.specs.Openings.{HasDone, HasLeft}
use Rattle.prt_store.specs.Stops.{MakesAllCalls, AllStoppedIn}
use Rattle.prt_store.specs.Written.{IsTyped}
use Rattle.prt_store.proofs.Calls.{makes_changes}
use Rattle.prt_store.proofs.Failures.{fails_begun}
use Rattle.prt_store.proofs.Stops.{calls_made, counted_too, stopped_in_commit, stopped_in_count, wrote}
use Rattle.prt_store.proofs.Transactions.{committed, crash_after}
use Rattle.prt_store.proofs.commit.make_changes.Goals as goal

pub returns-clause-ok : goal.returns-clause-ok
returns-clause-ok g c clean =
    let made = MakesChanges g.S.Store c.args.changes.now c.args.number in
    let old = c.args.conn.now in
    let begun = c.transaction-tx.result.conn.now in
    let last = c.set_count.new.tx.conn.now in
    let end = c.commit.new.self.0 in
    let same : end ≡ c.conn-2-1.given.0 = search rules in
    let late : HasCleanDisk (state g.S.Store end) = subst (λ h. HasCleanDisk (state g.S.Store h)) (sym same) clean in
    let shows = c.in_default-commit.ensures.ok late in
    let works = makes_changes g.S.Store c.args.changes.now c.args.number begun c.write_all.new.tx.conn.now last c.write_all.result c.set_count.result (ap is_err c.in_default.is)
    c.write_all.ensures.works c.set_count.ensures.runs c.set_count.ensures.survives in
    let done = committed g.S.Store made old begun last c.set_count.result c.transaction-tx.ensures.begun works (ap is_err c.in_default-set_count.is) end c.commit.ensures.survives.clean shows.1 late in
    subst (λ h. Each IsTyped c.args.changes.now × HasDone g.S.Store made old (state g.S.Store h).committed × IsSettled g.S.Store h) same (c.in_default.ensures.typed, done.0, done.1)

pub returns-in-Err-commit-clause-crash_err : goal.returns-in-Err-commit-clause-crash_err
returns-in-Err-commit-clause-crash_err g c =
    let made = MakesChanges g.S.Store c.args.changes.now c.args.number in
    let old = c.args.conn.now in
    let begun = c.transaction-tx.result.conn.now in
    let last = c.set_count.new.tx.conn.now in
    let end = c.commit.new.self.0 in
    let same : end ≡ c.conn-2-1.given.0 = search rules in
    let works = makes_changes g.S.Store c.args.changes.now c.args.number begun c.write_all.new.tx.conn.now last c.write_all.result c.set_count.result (ap is_err c.in_default.is)
    c.write_all.ensures.works c.set_count.ensures.runs c.set_count.ensures.survives in
    let all = crash_after g.S.Store made old begun last c.set_count.result c.transaction-tx.ensures.begun works (ap is_err c.in_default-set_count.is) end c.commit.ensures.survives in
    let P = λ (trees : Trees). (Commit ≡ Commit) × Each IsTyped c.args.changes.now × HasLeft g.S.Store made old trees in
    subst (λ h. Survives (state g.S.Store old) (state g.S.Store h) P) same (survives_weaker _ _ _ P (λ _ db it. (refl, c.in_default.ensures.typed, it)) all)

pub returns-clause-calls : goal.returns-clause-calls
returns-clause-calls g c clean =
    let made = c.args.changes.now in
    let old = c.args.conn.now in
    let end = c.commit.new.self.0 in
    let same : end ≡ c.conn-2-1.given.0 = search rules in
    let late : HasCleanDisk (state g.S.Store end) = subst (λ h. HasCleanDisk (state g.S.Store h)) (sym same) clean in
    let shows = c.in_default-commit.ensures.ok late in
    subst (MakesAllCalls g.S.Store made c.args.number old) same
    (calls_made g.S.Store made c.args.number old c.transaction-tx.result.conn.now c.write_all.new.tx.conn.now c.write_all.result c.transaction-tx.ensures.begun c.in_default.ensures.typed (ap is_err c.in_default.is) c.write_all.ensures.works
    c.set_count.new.tx.conn.now end c.set_count.result (ap is_err c.in_default-set_count.is) c.set_count.ensures.runs c.set_count.ensures.survives c.commit.ensures.survives late shows.1.committed_is)

pub returns-in-Err-set_count-clause-stopped : goal.returns-in-Err-set_count-clause-stopped
returns-in-Err-set_count-clause-stopped g c clean =
    let made = c.args.changes.now in
    let old = c.args.conn.now in
    let end = c.drop-tx-in-Err-set_count.new.self.0 in
    let same : end ≡ c.conn-in-Err-set_count-1.given.0 = search rules in
    let late : HasCleanDisk (state g.S.Store end) = subst (λ h. HasCleanDisk (state g.S.Store h)) (sym same) clean in
    subst (AllStoppedIn g.S.Store made c.args.number old Count) same
    (stopped_in_count g.S.Store made c.args.number old c.transaction-tx.result.conn.now c.write_all.new.tx.conn.now c.write_all.result c.transaction-tx.ensures.begun c.in_default.ensures.typed (ap is_err c.in_default.is) c.write_all.ensures.works
    c.set_count.new.tx.conn.now end c.set_count.ensures.survives c.drop-tx-in-Err-set_count.ensures.survives late)

pub returns-in-Err-commit-clause-stopped : goal.returns-in-Err-commit-clause-stopped
returns-in-Err-commit-clause-stopped g c clean =
    let made = c.args.changes.now in
    let old = c.args.conn.now in
    let end = c.commit.new.self.0 in
    let same : end ≡ c.conn-2-1.given.0 = search rules in
    let late : HasCleanDisk (state g.S.Store end) = subst (λ h. HasCleanDisk (state g.S.Store h)) (sym same) clean in
    subst (AllStoppedIn g.S.Store made c.args.number old Commit) same
    (stopped_in_commit g.S.Store made c.args.number old c.transaction-tx.result.conn.now c.write_all.new.tx.conn.now c.write_all.result c.transaction-tx.ensures.begun c.in_default.ensures.typed (ap is_err c.in_default.is) c.write_all.ensures.works
    c.set_count.new.tx.conn.now end c.set_count.result (ap is_err c.in_default-set_count.is) c.set_count.ensures.runs c.set_count.ensures.survives c.commit.ensures.survives late)

pub returns-in-Err-clause-failure : goal.returns-in-Err-clause-failure
returns-in-Err-clause-failure g c =
    let last = c.write_all.new.tx.conn.now in
    let end = c.drop-tx.new.self.0 in
    let same : end ≡ c.conn-1.given.0 = search rules in (
      c.in-Err.error,
      refl,
      λ clean.
          let late : HasCleanDisk (state g.S.Store end) = subst (λ h. HasCleanDisk (state g.S.Store h)) (sym same) clean in
          let ended : HasCleanDisk (state g.S.Store last) = omega (arith, c.drop-tx.ensures.survives.clean, late) in
          (last, fails_begun g.S.Store (RefusesOneOf g.S.Store c.args.changes.now) c.args.conn.now c.transaction-tx.result.conn.now last c.in-Err.error c.transaction-tx.ensures.begun c.in-Err.ensures.fails ended),
    )

pub returns-in-Err-set_count-clause-failure : goal.returns-in-Err-set_count-clause-failure
returns-in-Err-set_count-clause-failure g c =
    let written = c.write_all.new.tx.conn.now in
    let last = c.set_count.new.tx.conn.now in
    let end = c.drop-tx-in-Err-set_count.new.self.0 in
    let same : end ≡ c.conn-in-Err-set_count-1.given.0 = search rules in (
      c.in-Err-set_count.error,
      refl,
      λ clean.
          let late : HasCleanDisk (state g.S.Store end) = subst (λ h. HasCleanDisk (state g.S.Store h)) (sym same) clean in
          let ended : HasCleanDisk (state g.S.Store last) = omega (arith, c.drop-tx-in-Err-set_count.ensures.survives.clean, late) in
          let before : HasCleanDisk (state g.S.Store written) = omega (arith, c.set_count.ensures.survives.clean, ended) in
          let wrote = wrote g.S.Store c.args.changes.now c.args.number c.args.conn.now c.transaction-tx.result.conn.now written c.write_all.result c.transaction-tx.ensures.begun c.in_default.ensures.typed (ap is_err c.in_default.is) c.write_all.ensures.works before in
          (written, wrote.0, last, c.in-Err-set_count.ensures.runs ended wrote.1),
    )

pub returns-in-Err-commit-clause-failure : goal.returns-in-Err-commit-clause-failure
returns-in-Err-commit-clause-failure g c =
    let made = c.args.changes.now in
    let old = c.args.conn.now in
    let begun = c.transaction-tx.result.conn.now in
    let written = c.write_all.new.tx.conn.now in
    let last = c.set_count.new.tx.conn.now in
    let end = c.commit.new.self.0 in
    let same : end ≡ c.conn-2-1.given.0 = search rules in (
      c.in-Err-commit.error,
      refl,
      λ clean.
          let late : HasCleanDisk (state g.S.Store end) = subst (λ h. HasCleanDisk (state g.S.Store h)) (sym same) clean in
          let ended : HasCleanDisk (state g.S.Store last) = omega (arith, c.commit.ensures.survives.clean, late) in
          let before : HasCleanDisk (state g.S.Store written) = omega (arith, c.set_count.ensures.survives.clean, ended) in
          let wrote = wrote g.S.Store made c.args.number old begun written c.write_all.result c.transaction-tx.ensures.begun c.in_default.ensures.typed (ap is_err c.in_default.is) c.write_all.ensures.works before in
          let counted = counted_too g.S.Store made c.args.number old begun written c.write_all.result c.transaction-tx.ensures.begun c.in_default.ensures.typed (ap is_err c.in_default.is) c.write_all.ensures.works
          last end c.set_count.result (ap is_err c.in_default-set_count.is) c.set_count.ensures.runs c.set_count.ensures.survives c.commit.ensures.survives late in
          (written, wrote.0, last, counted, subst (λ h. FailsToCommit (state g.S.Store last) (state g.S.Store h) c.in-Err-commit.error) same (c.in-Err-commit.ensures.err late)),
    )
