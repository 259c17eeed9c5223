use Rattle.std.proofs.Common.{◌≡◌, ◌⊎◌, [], ap, inl, inr, subst, sym, ◌∙◌}
use Rattle.prt_refusals.specs.declared.refusal.Refusal.TheVariants.{StoreFailed}
use Rattle.prt_refusals.specs.declared.refusal.StoreCall.TheVariants.{Commit}
use Rattle.prt_store.specs.Stored.{Stores}
use Rattle.prt_version.specs.Change.{fold}
use Rattle.sqlite.specs.Held.{Held, state}
use Rattle.sqlite.specs.State.{HasCleanDisk}
use Rattle.prt_publisher.specs.Exits.{HaveCommitted}
use Rattle.prt_published.specs.Line.{line_state}
use Rattle.prt_publisher.specs.Standing.{Standing}
use Rattle.prt_publisher.specs.Step.{commands_checked}
use Rattle.prt_publisher.specs.declared.phase.Phase.TheVariants.{Closed}
use Rattle.prt_publisher.proofs.publisher.Publisher.submit_checked.Goals as goal

pub returns-in-Err-commit-clause-err : goal.returns-in-Err-commit-clause-err
returns-in-Err-commit-clause-err g c =
    let took = c.in_default.ensures.ok in
    let failed = c.in-Err-commit.ensures in
    inr (inl (record {
      takes = took.1;
      call = failed.reason.0;
      why_is = failed.reason.1;
      left = failed.err ∙ ap (λ (p : Standing _). (let r : Standing _ = record p { phase = Closed; commands = []; tables = c.commit.new.self.tables } in r)) took.0;
      now = λ known is_open. subst (λ (p : Standing _). Stores (state g.S.Store c.commit.new.self.tables).now (line_state p.line)) took.0 (failed.now known is_open);
      leaves = λ known left may. subst (λ (p : Standing _). (left ≡ line_state p.line) ⊎ ((c.in-Err-commit.reason ≡ StoreFailed Commit) × (left ≡ fold (line_state p.line) p.commands))) took.0 (failed.left known left may);
    }))

pub returns-in-Ok-clause-ran : goal.returns-in-Ok-clause-ran
returns-in-Ok-clause-ran g c clean =
    let same : c.publish.new.self.tables ≡ c.commit.new.self.tables = ap (λ (p : Standing _). p.tables) c.in-Ok.ensures.ok.0 in
    let ran = c.in_default-commit.ensures.ran (subst (λ (t : Held _). HasCleanDisk (state g.S.Store t)) same clean) in
    subst (λ (t : Held _). HaveCommitted g.S.Store c.args.self.now (commands_checked c.args.checked) t) (sym same)
    (subst (λ (p : Standing _). HaveCommitted g.S.Store p p.commands c.commit.new.self.tables) c.in_default.ensures.ok.0 ran)
