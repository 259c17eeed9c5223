use Rattle.std.proofs.Common.{sym, subst}
use Rattle.sqlite.specs.Held.{state}
use Rattle.prt_store.proofs.Nexts.{next_of}
use Rattle.prt_store.specs.Stored.{Stores}
use Rattle.prt_disk_tests.proofs.store.caller.submit.Goals as goal

pub commit-requires : goal.commit-requires
commit-requires g c = (c.args.version.now, next_of c.args.version.now c.args.command.now c.in_ok-change.change _ c.number-number.ensures.value c.number-number.ensures.sound c.requires c.in_ok-change.ensures.value)

pub returns-clause-stored : goal.returns-clause-stored
returns-clause-stored g c clean held =
    let next = next_of c.args.version.now c.args.command.now c.in_ok-change.change _ c.number-number.ensures.value c.number-number.ensures.sound c.requires c.in_ok-change.ensures.value in
    subst (Stores (state g.S.Store c.commit.new.self.conn).now) (sym c.in_ok-next.ensures.value) (c.in_ok-_stamp.ensures.ok clean c.args.version.now next held).stores
