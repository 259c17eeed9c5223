use Rattle.std.proofs.Common.{◌≡◌, inl, inr, sym, ap, subst, ◌∙◌}
use Rattle.sqlite.specs.Effect.{Database}
use Rattle.sqlite.specs.Held.{state}
use Rattle.prt_refusals.specs.declared.refusal.Refusal.TheVariants.{StoreFailed}
use Rattle.prt_refusals.specs.declared.refusal.StoreCall.{StoreCall}
use Rattle.prt_store.proofs.Exits.{left_either, stored_next}
use Rattle.prt_store.proofs.Several.{makes_all_next, small_ids_all, small_numbers}
use Rattle.prt_store.specs.Failures.{AllFailFor}
use Rattle.prt_store.specs.Next.{MakesNext, put_all}
use Rattle.prt_store.specs.Stops.{AllStoppedIn}
use Rattle.prt_store.proofs.store.Store.commit_all.Goals as goal

pub make_changes-requires-clause-ids : goal.make_changes-requires-clause-ids
make_changes-requires-clause-ids g c = small_ids_all c.requires.next.0 c.args.changes.now c.requires.next.1.sound c.requires.next.1.made

pub make_changes-requires-clause-number : goal.make_changes-requires-clause-number
make_changes-requires-clause-number g c = small_numbers c.requires.next.0 c.args.changes.now c.args.number c.requires.next.1

pub returns-in-Ok-clause-ok : goal.returns-in-Ok-clause-ok
returns-in-Ok-clause-ok g c clean before next held =
    let done = c.in-Ok.ensures.ok clean in
    subst (MakesNext (state g.S.Store c.args.self.now.conn).now (put_all before c.args.changes.now)) (sym done.2.committed) (makes_all_next g.S.Store c.args.changes.now c.args.number c.args.self.now.conn _ before next done.0 held done.1)

pub returns-in-Ok-clause-ran : goal.returns-in-Ok-clause-ran
returns-in-Ok-clause-ran g c clean = (c.in-Ok.ensures.ok clean).1

pub returns-in-Err-clause-stopped : goal.returns-in-Err-clause-stopped
returns-in-Err-clause-stopped g c clean call is =
    let same : c.in-Err.call ≡ call = cc in
    subst (λ (failed : StoreCall). AllStoppedIn g.S.Store c.args.changes.now c.args.number c.args.self.now.conn failed c.make_changes.new.conn) same (c.in-Err.ensures.stopped clean)

pub returns-in-Err-clause-failure : goal.returns-in-Err-clause-failure
returns-in-Err-clause-failure g c call is =
    let same : c.in-Err.call ≡ call = cc in
    subst (λ (failed : StoreCall). AllFailFor g.S.Store c.args.changes.now c.args.number c.args.self.now.conn failed c.make_changes.new.conn c.make_changes.new.failure) same c.in-Err.ensures.failure

pub returns-in-Err-clause-still_settled : goal.returns-in-Err-clause-still_settled
returns-in-Err-clause-still_settled g c clean still_open was =
    let same = c.in-Err.ensures.err clean still_open in
    record { is_open = still_open; autocommit = c.in-Err.ensures.mode ∙ was.autocommit; committed = same.0 ∙ was.committed ∙ sym same.1 }

pub returns-in-Err-clause-crash_err : goal.returns-in-Err-clause-crash_err
returns-in-Err-clause-crash_err g c clean before next held trees leaves = elim (c.in-Err.ensures.crash_err.crash clean trees leaves) [
  | inl was ↦ inl was
  | inr made ↦
      let it = made.2 in
      let old = c.args.self.now.conn in
      let all = makes_all_next g.S.Store c.args.changes.now c.args.number old it.0 before next made.1 held it.1 in
      inr (ap StoreFailed made.0, subst (MakesNext (state g.S.Store old).now (put_all before c.args.changes.now)) (λ i. record { schema = all.schema i; trees = sym it.2 i }) all)
]

pub returns-in-Ok-clause-crash_ok : goal.returns-in-Ok-clause-crash_ok
returns-in-Ok-clause-crash_ok g c clean trees may =
    let settled = (c.in-Ok.ensures.ok clean).2 in
    g.met.S.Store.settled c.make_changes.new.conn.store trees settled.is_open may ∙ ap (λ (db : Database). db.trees) (sym settled.committed)

pub returns-in-Ok-clause-stored : goal.returns-in-Ok-clause-stored
returns-in-Ok-clause-stored g c clean before next stored =
    stored_next g.S.Store c.args.self.now.conn c.make_changes.new.conn (put_all before c.args.changes.now) (returns-in-Ok-clause-ok g c clean before next stored.now)
    (returns-in-Ok-clause-crash_ok g c clean)

pub returns-in-Err-clause-left : goal.returns-in-Err-clause-left
returns-in-Err-clause-left g c clean before next stored left may =
    left_either g.S.Store c.args.self.now.conn c.make_changes.new.conn (put_all before c.args.changes.now) before _ stored (returns-in-Err-clause-crash_err g c clean before next stored.now) left may
