use Rattle.std.proofs.Common.{◌∙◌, ◌++◌, List, ap}
use Rattle.std.proofs.lemmas.Result.{on_ok_weaker}
use Rattle.prt_route.specs.declared.route.Route.{Route}
use Rattle.prt_version.specs.Groups.{joined}
use Rattle.prt_version.specs.Tables.{all_rows}
use Rattle.prt_version.proofs.Grouped.{selected_of_table}
use Rattle.prt_version.proofs.groups.push_selected_of.Goals as goal

pub returns-in-Some : goal.returns-in-Some
returns-in-Some c =
    on_ok_weaker c.push_selected.result
    (λ pushed. pushed ∙ ap (λ (rows : List Route). c.args.rows.now.items ++ rows) (selected_of_table c.args.selector.now c.in-Some.number (all_rows c.tables_for.result.now) (all_rows (joined c.args.groups.now)) c.in-Some.is c.tables_for.ensures.rows))
    c.push_selected.ensures
