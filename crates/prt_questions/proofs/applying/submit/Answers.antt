use Rattle.std.proofs.Common.{◌∙◌, ap}
use Rattle.sqlite.specs.Held.{Held}
use Rattle.prt_published.specs.Line.{line_state}
use Rattle.prt_publisher.specs.Standing.{Standing}
use Rattle.prt_version.proofs.Folds.{fold_append}
use Rattle.prt_questions.proofs.applying.submit.Goals as goal

pub returns-clause-made : goal.returns-clause-made
returns-clause-made g c =
    let old = c.args.publisher.now in
    let grown = c.in_default.ensures.ok.1 in (
      ap (λ (p : Standing (Held _)). p.phase) grown,
      c.in_default.ensures.took.1,
      ap (λ (p : Standing (Held _)). line_state p.line) grown ∙ fold_append old.line.base old.line.list c.args.commands.now,
    )
