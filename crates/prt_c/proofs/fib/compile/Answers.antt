use Rattle.std.proofs.Common.{◌≡◌, Option, Some, Ok, refl, sym, ap, ◌∙◌, subst}
use Rattle.std.specs.Arc.{arc_value}
use Rattle.std.proofs.lemmas.Result.{IfOk-weaker}
use Rattle.prt_command.specs.Then.{◌>>=◌}
use Rattle.prt_rule.specs.declared.packet.Packet.{Packet}
use Rattle.prt_fib.specs.Fib.{Table}
use Rattle.prt_c.specs.Fibs.{IsCompiled, IsTableOf, held_table}
use Rattle.prt_c.specs.Packet.{packet_by, packet_of}
use Rattle.prt_c.specs.declared.fib_owner.FibOwner.{FibOwner}
use Rattle.prt_c.proofs.fib.compile.Goals as goal

pub returns-clause-value : goal.returns-clause-value
returns-clause-value c =
    let state = c.args.version.now in
    let packet = c.args.packet.now in
    let fib = c.in_ok-fib.fib in
    let read : packet_of packet ≡ Ok fib.packet =
    ap (λ r. r >>= λ name. Ok (packet_by packet name)) c.in_ok-read_interface.ensures.read
    ∙ ap (λ (p : Packet). Ok p) (sym (c.in_ok-fib.ensures.packet ∙ ap (λ (p : Packet). record p { iif = c.read_interface.new.iif }) c.packet_by-looked_up.ensures)) in
    let is : IsTableOf state fib.packet (Some (arc_value c.in_ok-first_owner.field-0)) =
    subst (λ (t : Table). (t.state ≡ state) × (t.packet ≡ fib.packet)) (sym c.in_ok-first_owner.ensures.value) (c.in_ok-fib.ensures.state, refl) in
    IfOk-weaker c.hold.result _ (λ held. IsCompiled state packet (held_table held.home))
    (λ held home. subst (λ (h : Option FibOwner). IsCompiled state packet (held_table h)) (sym home) (record { looked_up = fib.packet; read = read; is = is }))
    c.hold.ensures.value
