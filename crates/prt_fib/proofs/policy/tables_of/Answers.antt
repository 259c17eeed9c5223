use Rattle.std.proofs.Common.{ℕ, take, sym, subst}
use Rattle.prt_fib.specs.Policy.{AreTablesOf}
use Rattle.prt_fib.proofs.Classified.{tables_more, taken_more}
use Rattle.prt_fib.proofs.policy.tables_of.Goals as goal

pub loop-packet-preserved : goal.loop-packet-preserved
loop-packet-preserved c =
    let state = c.args.version.now in
    let packets = c.args.packets.now in
    let i : ℕ = c.loop-packet.packet-index in
    let packet = c.packet-item.result in
    subst (λ ps. AreTablesOf state ps c.push.new.self.items) (sym (taken_more packets i packet c.loop-packet-test.true c.packet-item.is))
    (subst (AreTablesOf state _) (sym c.in_ok-push.ensures.items)
    (tables_more state (take i packets) c.loop-packet.tables.items packet c.in_ok-new.field-0 c.loop-packet.invariant c.in_ok-new.ensures.state c.in_ok-new.ensures.packet))
