use Rattle.std.proofs.Common.{◌∙◌, List, subst}
use Rattle.prt_rule.specs.declared.rule.Rule.{Rule}
use Rattle.prt_version.specs.Tried.{AreTried}
use Rattle.prt_version.proofs.rules.Rules.tried.Goals as goal

pub returns-else-len-lt-FEW : goal.returns-else-len-lt-FEW
returns-else-len-lt-FEW c =
    subst (λ (rules : List Rule). AreTried rules c.args.routes.now c.all.result) (c.deref-else-len-lt-FEW.ensures.value ∙ c.self.view_is)
    (c.all.ensures c.args.routes.now)
