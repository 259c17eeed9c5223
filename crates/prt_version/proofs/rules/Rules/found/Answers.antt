use Rattle.std.proofs.Common.{◌∙◌, ap, sym}
use Rattle.prt_version.specs.Steps.{first_verdict}
use Rattle.prt_version.proofs.Verdicts.{first_decides}
use Rattle.prt_version.proofs.rules.Rules.found.Goals as goal

pub returns-in-Some : goal.returns-in-Some
returns-in-Some c =
    c.indexed_found.ensures ∙ ap (λ rules. first_verdict rules c.args.routes.now c.args.packet.now) (c.deref.ensures.value ∙ c.self.view_is)
    ∙ sym (first_decides _ _ _ c.requires.order)

pub returns-in-None : goal.returns-in-None
returns-in-None c =
    c.first_found.ensures ∙ ap (λ rules. first_verdict rules c.args.routes.now c.args.packet.now) (c.deref-in-None.ensures.value ∙ c.self.view_is)
    ∙ sym (first_decides _ _ _ c.requires.order)
