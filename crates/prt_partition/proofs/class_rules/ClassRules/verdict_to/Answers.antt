use Rattle.std.proofs.Common.{ap, ◌∙◌}
use Rattle.prt_version.specs.Steps.{first_verdict}
use Rattle.prt_partition.specs.ClassRules.{state_of}
use Rattle.prt_partition.proofs.OfClass.{of_class}
use Rattle.prt_partition.proofs.class_rules.ClassRules.verdict_to.Goals as goal

pub returns : goal.returns
returns c =
    let narrowed = c.args.self.now in
    c.first_verdict.ensures
    ∙ ap (λ rules. first_verdict rules c.deref-2.result.now c.to.result) c.deref.ensures.value
    ∙ ap (λ routes. first_verdict narrowed.rules.items routes c.to.result) (c.deref-2.ensures ∙ c.shared_routes-routes.ensures)
    ∙ ap (λ packet. first_verdict narrowed.rules.items (state_of narrowed).routes packet) c.to.ensures
    ∙ of_class (state_of narrowed) narrowed.rules.items c.args.packet.now c.args.addr c.number-number.ensures.sound.rules_rise c.requires
