use Rattle.std.proofs.Common.{◌≡◌, IfOk, length, sym, ap, ◌∙◌, subst}
use Rattle.std.specs.Prelude.{nat_lt}
use Rattle.prt_grace.specs.declared.limits.TheConstants.{MOST_RETIRED}
use Rattle.prt_replay.proofs.Submits.{none_refused_by}
use Rattle.prt_replay.proofs.machine.Machine.prepare.Goals as goal

pub returns-in-Ok : goal.returns-in-Ok
returns-in-Ok c =
    let m = c.args.self.now in
    let shown = c.deref.ensures ∙ ap (λ m. m.published) c.self.view_is in
    let room = sym c.if-has_room.true ∙ c.has_room.ensures ∙ ap (λ m. nat_lt (length m.lookers.registry.retired) MOST_RETIRED) c.self.view_is in
    let same = none_refused_by m c.args.commands.now c.deref.result.now _ shown room c.in-Ok.ensures.accepted in
    subst (λ step. IfOk c.prepare_next.result (λ outcome. record { machine = c.prepare_next.new.self; outcome = outcome } ≡ step)) (sym same) c.prepare_next.ensures

pub returns-in-Ok-2 : goal.returns-in-Ok-2
returns-in-Ok-2 c =
    let m = c.args.self.now in
    let shown = c.deref.ensures ∙ ap (λ m. m.published) c.self.view_is in
    let room = sym c.if-has_room.false ∙ c.has_room.ensures ∙ ap (λ m. nat_lt (length m.lookers.registry.retired) MOST_RETIRED) c.self.view_is in
    sym (none_refused_by m c.args.commands.now c.deref.result.now _ shown room c.in-Ok-2.ensures.accepted)
