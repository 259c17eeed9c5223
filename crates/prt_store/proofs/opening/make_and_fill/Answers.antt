use Rattle.prt_store.proofs.Anywhere.{does_fill, does_keep}
use Rattle.prt_store.proofs.Openings.{look_failed, opens_filled, opens_migrated, opens_refused}
use Rattle.prt_store.proofs.opening.make_and_fill.Goals as goal

pub returns-then-not-is_ready-clause-opens : goal.returns-then-not-is_ready-clause-opens
returns-then-not-is_ready-clause-opens g c = opens_refused g.S.Store c.args.conn.now c.make_tables.new.conn c.in_ok-make_tables.ensures.advances _

pub returns-in_err-are_empty-clause-opens : goal.returns-in_err-are_empty-clause-opens
returns-in_err-are_empty-clause-opens g c =
    look_failed g.S.Store c.args.conn.now c.make_tables.new.conn c.in_ok-make_tables.ensures.advances c.are_empty.new.conn c.in_err-are_empty.field-0.0 c.from_residual-in_err-are_empty.result c.from_residual-in_err-are_empty.ensures.0
    c.in_err-are_empty.ensures.finds (c.is_ready.ensures.settled c.if-not-is_ready.false)

pub returns-then-not-branch-clause-opens : goal.returns-then-not-branch-clause-opens
returns-then-not-branch-clause-opens g c =
    let made = c.make_tables.new.conn in
    let seen = c.are_empty.new.conn in
    opens_migrated g.S.Store c.args.conn.now made c.in_ok-make_tables.ensures.advances seen c.migrate.new.conn c.migrate.result (rw c.if-not-branch.true at c.in_ok-are_empty.ensures.finds)
    (c.is_ready.ensures.alone c.if-not-is_ready.false) (c.is_ready.ensures.settled c.if-not-is_ready.false) c.migrate.ensures.ok c.migrate.ensures.settled c.migrate.ensures.err c.migrate.ensures.crash

pub returns-clause-opens : goal.returns-clause-opens
returns-clause-opens g c =
    let made = c.make_tables.new.conn in
    let seen = c.are_empty.new.conn in
    opens_filled g.S.Store c.args.conn.now made c.in_ok-make_tables.ensures.advances seen c.take.new.conn c.take.result (rw c.if-not-branch.false at c.in_ok-are_empty.ensures.finds)
    c.take.ensures.commits

pub returns-then-not-branch-clause-does : goal.returns-then-not-branch-clause-does
returns-then-not-branch-clause-does g c clean =
    let made = c.make_tables.new.conn in
    let seen = c.are_empty.new.conn in
    does_keep g.S.Store c.args.conn.now made seen c.in_ok-make_tables.ensures.makes c.migrate.new.conn c.migrate.result
    (rw c.if-not-branch.true at c.in_ok-are_empty.ensures.finds) (c.migrate.ensures.clean clean) (c.migrate.ensures.does clean)

pub returns-clause-does : goal.returns-clause-does
returns-clause-does g c clean =
    let made = c.make_tables.new.conn in
    let seen = c.are_empty.new.conn in
    does_fill g.S.Store c.args.conn.now made seen c.in_ok-make_tables.ensures.makes c.take.new.conn c.take.result (rw c.if-not-branch.false at c.in_ok-are_empty.ensures.finds)
    c.take.ensures.commits clean
