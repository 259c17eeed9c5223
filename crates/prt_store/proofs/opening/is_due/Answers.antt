use Rattle.std.proofs.Common.{Ok, false, inl}
use Rattle.prt_store.proofs.Anywhere.{finds_as, finds_fails, finds_format, finds_not}
use Rattle.prt_store.specs.Shown.{ShowsDue, ShowsFormat1, ShowsNotDue, ShowsOtherFormat}
use Rattle.prt_store.proofs.opening.is_due.Goals as goal

pub returns-in_err-names_format_1-clause-finds : goal.returns-in_err-names_format_1-clause-finds
returns-in_err-names_format_1-clause-finds g c =
    let start = c.args.conn.now in
    finds_fails g.S.Store (ShowsFormat1 g.S.Store start) (ShowsDue g.S.Store start) (ShowsOtherFormat g.S.Store start) start c.names_format_1.new.conn (ShowsNotDue g.S.Store start) c.in_err-names_format_1.field-0.0 c.from_residual.result c.from_residual.ensures.0
    c.in_err-names_format_1.ensures.finds

pub returns-then-not-branch-clause-finds : goal.returns-then-not-branch-clause-finds
returns-then-not-branch-clause-finds g c =
    let start = c.args.conn.now in
    let first = c.names_format_1.new.conn in
    let named = ShowsFormat1 g.S.Store start in
    let other = ShowsOtherFormat g.S.Store start in
    let not_due = ShowsNotDue g.S.Store start in
    finds_not g.S.Store named (ShowsDue g.S.Store start) not_due start first
    (finds_as g.S.Store named named other start first not_due (Ok false) (λ it. it) (λ it. inl it) (rw c.if-not-branch.true at c.in_ok-names_format_1.ensures.finds))

pub returns-clause-finds : goal.returns-clause-finds
returns-clause-finds g c =
    let start = c.args.conn.now in
    let first = c.names_format_1.new.conn in
    let one = rw c.if-not-branch.false at c.in_ok-names_format_1.ensures.finds in
    finds_format g.S.Store start first c.is_empty.new.conn c.is_empty.result one c.is_empty.ensures.finds
