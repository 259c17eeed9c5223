use Rattle.prt_store.proofs.Anywhere.{does_migrate, does_not_migrate}
use Rattle.prt_store.proofs.Migrations.{is_migrated, leaves_migrated, stays_as_it_is}
use Rattle.prt_store.proofs.opening.migrate.Goals as goal

pub returns-clause-ok : goal.returns-clause-ok
returns-clause-ok g c clean tables =
    is_migrated g.S.Store c.args.conn.now c.is_due.new.conn c.schema-live.ensures.live c.take.new.conn c.take.result (rw c.if-not-branch.false at c.in_ok-is_due.ensures.finds) c.take.ensures.commits clean tables

pub returns-clause-crash : goal.returns-clause-crash
returns-clause-crash g c tables =
    leaves_migrated g.S.Store c.args.conn.now c.is_due.new.conn c.schema-live.ensures.live c.take.new.conn c.take.result (rw c.if-not-branch.false at c.in_ok-is_due.ensures.finds) c.take.ensures.commits tables

pub returns-clause-does : goal.returns-clause-does
returns-clause-does g c clean =
    does_migrate g.S.Store c.args.conn.now c.is_due.new.conn c.take.new.conn c.take.result (rw c.if-not-branch.false at c.in_ok-is_due.ensures.finds) c.take.ensures.commits clean

pub returns-then-not-branch-clause-does : goal.returns-then-not-branch-clause-does
returns-then-not-branch-clause-does g c clean =
    does_not_migrate g.S.Store c.args.conn.now c.is_due.new.conn (rw c.if-not-branch.true at c.in_ok-is_due.ensures.finds) clean

pub returns-then-not-branch-clause-ok : goal.returns-then-not-branch-clause-ok
returns-then-not-branch-clause-ok g c clean tables =
    stays_as_it_is g.S.Store c.args.conn.now c.is_due.new.conn c.schema-live.ensures.live (rw c.if-not-branch.true at c.in_ok-is_due.ensures.finds) clean tables
