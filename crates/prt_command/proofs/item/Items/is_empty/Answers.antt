use Rattle.std.proofs.Common.{ap, sym, ◌∙◌}
use Rattle.std.specs.Prelude.{not}
use Rattle.prt_command.specs.Items.{is_empty}
use Rattle.prt_command.proofs.Empty.{empty_none}
use Rattle.prt_command.proofs.item.Items.is_empty.Goals as goal

pub returns-clause-none : goal.returns-clause-none
returns-clause-none c =
    let is = ap not c.has_any.ensures in
    (λ h. empty_none c.args.self.now (sym is ∙ h), λ e. is ∙ ap is_empty e)
