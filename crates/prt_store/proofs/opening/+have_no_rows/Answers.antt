use Rattle.std.proofs.Common.{Ok, ◌∷◌, false, true}
use Rattle.std.specs.List.{AllByRecursion as Each}
use Rattle.prt_store.proofs.Anywhere.{each_of_none, finds_as, finds_fails, finds_next, finds_not}
use Rattle.prt_store.specs.Shown.{ShowsContents, ShowsNoRow, ShowsSomeRow}
use Rattle.prt_store.proofs.opening.+have_no_rows.Goals as goal

pub returns-in_err-is_empty-clause-finds : goal.returns-in_err-is_empty-clause-finds
returns-in_err-is_empty-clause-finds g t c =
    let start = c.args.conn.now in
    let none = ShowsNoRow g.S.Store start in
    let table = c.args.table in
    finds_fails g.S.Store (none table) (Each none (table ∷ c.args.others.now)) (ShowsSomeRow g.S.Store start table) start c.is_empty.new.conn (ShowsContents g.S.Store start) c.in_err-is_empty.field-0.0 c.from_residual.result c.from_residual.ensures.0
    c.in_err-is_empty.ensures.finds

pub returns-then-not-branch-clause-finds : goal.returns-then-not-branch-clause-finds
returns-then-not-branch-clause-finds g t c =
    let start = c.args.conn.now in
    let first = c.is_empty.new.conn in
    let none = ShowsNoRow g.S.Store start in
    let table = c.args.table in
    let some = ShowsSomeRow g.S.Store start table in
    let contents = ShowsContents g.S.Store start in
    finds_not g.S.Store (none table) (Each none (table ∷ c.args.others.now)) contents start first
    (finds_as g.S.Store (none table) (none table) some start first contents (Ok false) (λ it. it) (λ it. (table, it)) (rw c.if-not-branch.true at c.in_ok-is_empty.ensures.finds))

pub returns-in-None-clause-finds : goal.returns-in-None-clause-finds
returns-in-None-clause-finds g t c =
    let start = c.args.conn.now in
    let first = c.is_empty.new.conn in
    let none = ShowsNoRow g.S.Store start in
    let table = c.args.table in
    let some = ShowsSomeRow g.S.Store start table in
    let others = c.args.others.now in
    finds_as g.S.Store (none table) (Each none (table ∷ others)) some start first (ShowsContents g.S.Store start) (Ok true) (λ it. (it, each_of_none none others c.in-None.ensures.cases)) (λ it. (table, it))
    (rw c.if-not-branch.false at c.in_ok-is_empty.ensures.finds)

pub returns-in-Some-clause-finds : goal.returns-in-Some-clause-finds
returns-in-Some-clause-finds g t c =
    let start = c.args.conn.now in
    let first = c.is_empty.new.conn in
    let last = c.have_no_rows.new.conn in
    let none = ShowsNoRow g.S.Store start in
    let table = c.args.table in
    let one = rw c.if-not-branch.false at c.in_ok-is_empty.ensures.finds in
    rw c.in-Some.ensures.cases.0
    (finds_next g.S.Store table (c.in-Some.next.now ∷ c.in-Some.rest.now) start first last c.have_no_rows.result one c.have_no_rows.ensures.finds)
