use Rattle.std.proofs.Common.{◌∙◌, ap}
use Rattle.prt_command.specs.declared.request.Command.TheVariants.{RuleDel}
use Rattle.prt_dump.proofs.Texts.{text_pushed}
use Rattle.prt_dump.proofs.dump.text_of.Goals as goal

pub returns : goal.returns
returns c =
    text_pushed c.args.rules.now c.args.routes.now c.deref.result.now (RuleDel c.first_rule.result) c.new-text.result.items c.push_command.new.out.items c.push_command-2.new.out.items c.push_rules.new.out.items c.push_routes.new.out.items
    c.new-text.ensures.items c.in_ok-push_command.ensures c.in_ok-push_command-2.ensures (ap (λ choice. RuleDel choice) c.first_rule.ensures) c.in_ok-push_rules.ensures c.in_ok-push_routes.ensures (c.deref.ensures.value ∙ c.in_ok-gateways_last.ensures)
