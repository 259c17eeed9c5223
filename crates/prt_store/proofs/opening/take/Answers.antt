use Rattle.std.proofs.Common.{◌≡◌, Err, sym, subst, rules, ◌∙◌}
use Rattle.prt_refusals.specs.declared.refusal.Refusal.TheVariants.{OpenFailed}
use Rattle.prt_store.proofs.Openings.{ends, stops}
use Rattle.prt_store.specs.Openings.{Commits, Takes}
use Rattle.prt_store.proofs.opening.take.Goals as goal

pub returns-clause-commits : goal.returns-clause-commits
returns-clause-commits g c =
    let takes = Takes g.S.Store c.args.step in
    let old = c.args.conn.now in
    let end = c.commit.new.self.0 in
    let same : end ≡ c.conn-2-1.given.0 = search rules in
    let fine = sym c.is_err.ensures.value ∙ c.if-is_err.false in
    subst (λ h. Commits g.S.Store takes old h c.or.result) same
    (subst (Commits g.S.Store takes old end) (sym c.or.ensures) (ends g.S.Store takes old c.transaction-tx.result.conn.now c.perform.new.tx.conn.now end c.perform.result c.transaction-tx.ensures.begun c.perform.ensures.works fine
    (c.is_autocommit.ensures.settled c.if-not-is_autocommit.false) c.commit.ensures.survives c.commit.result c.commit.ensures.ok c.commit.ensures.err))

pub returns-then-is_err-clause-commits : goal.returns-then-is_err-clause-commits
returns-then-is_err-clause-commits g c =
    let takes = Takes g.S.Store c.args.step in
    let old = c.args.conn.now in
    let end = c.drop-tx.new.self.0 in
    let same : end ≡ c.conn-1.given.0 = search rules in
    subst (λ h. Commits g.S.Store takes old h (Err OpenFailed)) same
    (stops g.S.Store takes old c.transaction-tx.result.conn.now c.perform.new.tx.conn.now end c.perform.result c.transaction-tx.ensures.begun c.perform.ensures.works (c.is_autocommit.ensures.settled c.if-not-is_autocommit.false)
    c.drop-tx.ensures.survives c.drop-tx.ensures.undone)
