use Rattle.std.proofs.Common.{◌≡◌, ◌++◌, ◌∷◌, [], ℕ, map, take, ◌+◌, sym, ap, ◌∙◌, subst}
use Rattle.std.proofs.lemmas.List.{map-append}
use Rattle.prt_fib.specs.Fib.{Table}
use Rattle.prt_fib.specs.Policy.{AreTablesOf}
use Rattle.prt_fib.proofs.Classified.{tables_more, taken_more}
use Rattle.prt_fib.proofs.policy.tables_after.Goals as goal

pub loop-table-preserved : goal.loop-table-preserved
loop-table-preserved c =
    let state = c.args.next.now in
    let tables = c.args.tables.now in
    let i : ℕ = c.loop-table.table-index in
    let table = c.table-item.result in
    let more : map (λ (t : Table). t.packet) (take (i + 1) tables) ≡ map (λ (t : Table). t.packet) (take i tables) ++ table.packet ∷ [] =
    ap (map (λ (t : Table). t.packet)) (taken_more tables i table c.loop-table-test.true c.table-item.is) ∙ map-append (λ (t : Table). t.packet) (take i tables) (table ∷ []) in
    subst (λ ps. AreTablesOf state ps c.push.new.self.items) (sym more)
    (subst (AreTablesOf state _) (sym c.in_ok-push.ensures.items)
    (tables_more state (map (λ (t : Table). t.packet) (take i tables)) c.loop-table.after.items table.packet c.in_ok-after-2.field-0 c.loop-table.invariant c.in_ok-after-2.ensures.state c.in_ok-after-2.ensures.packet))
