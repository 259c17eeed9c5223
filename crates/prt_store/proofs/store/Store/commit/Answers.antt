use Rattle.std.proofs.lemmas.Result.{IfErr-weaker, on_ok_weaker}
use Rattle.sqlite.specs.Held.{state}
use Rattle.prt_store.proofs.Ones.{calls_one, done_one, fails_one, next_one, stopped_one}
use Rattle.prt_store.proofs.store.Store.commit.Goals as goal

pub commit_all-requires-clause-next : goal.commit_all-requires-clause-next
commit_all-requires-clause-next g c = (c.requires.0, rw c.from_ref.ensures.value (next_one c.requires.0 c.args.change.now c.args.number c.requires.1))

pub returns-clause-ok : goal.returns-clause-ok
returns-clause-ok g c clean =
    on_ok_weaker c.commit_all.result (λ all before next held. all before (next_one before c.args.change.now c.args.number next) held) (rw c.from_ref.ensures.value at (c.commit_all.ensures.ok clean))

pub returns-clause-ran : goal.returns-clause-ran
returns-clause-ran g c clean =
    on_ok_weaker c.commit_all.result (done_one g.S.Store c.args.change.now c.args.number c.args.self.now.conn (state g.S.Store c.commit_all.new.self.conn).committed) (rw c.from_ref.ensures.value at (c.commit_all.ensures.ran clean))

pub returns-clause-calls : goal.returns-clause-calls
returns-clause-calls g c clean =
    on_ok_weaker c.commit_all.result (calls_one g.S.Store c.args.change.now c.args.number c.args.self.now.conn c.commit_all.new.self.conn) (rw c.from_ref.ensures.value at (c.commit_all.ensures.calls clean))

pub returns-clause-stopped : goal.returns-clause-stopped
returns-clause-stopped g c clean call is =
    stopped_one g.S.Store c.args.change.now c.args.number c.args.self.now.conn call c.commit_all.new.self.conn (rw c.from_ref.ensures.value at (c.commit_all.ensures.stopped clean call is))

pub returns-clause-failure : goal.returns-clause-failure
returns-clause-failure g c call is =
    fails_one g.S.Store c.args.change.now c.args.number c.args.self.now.conn call c.commit_all.new.self.conn c.commit_all.new.self.failure (rw c.from_ref.ensures.value at (c.commit_all.ensures.failure call is))

pub returns-clause-stored : goal.returns-clause-stored
returns-clause-stored g c clean =
    on_ok_weaker c.commit_all.result (λ all before next stored. all before (next_one before c.args.change.now c.args.number next) stored) (rw c.from_ref.ensures.value at (c.commit_all.ensures.stored clean))

pub returns-clause-crash_err : goal.returns-clause-crash_err
returns-clause-crash_err g c clean =
    IfErr-weaker c.commit_all.result _ _ (λ reason all before next held. all before (next_one before c.args.change.now c.args.number next) held) (rw c.from_ref.ensures.value at (c.commit_all.ensures.crash_err clean))

pub returns-clause-left : goal.returns-clause-left
returns-clause-left g c clean =
    IfErr-weaker c.commit_all.result _ _ (λ reason all before next stored. all before (next_one before c.args.change.now c.args.number next) stored) (rw c.from_ref.ensures.value at (c.commit_all.ensures.left clean))
