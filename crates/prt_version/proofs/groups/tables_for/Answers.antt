use Rattle.std.proofs.Common.{◌∙◌, List, ap, subst, sym}
use Rattle.prt_version.specs.Tables.{AreTables, TableRows, all_rows, rows_of_table}
use Rattle.prt_version.proofs.Grouped.{group_are, group_rows}
use Rattle.prt_version.proofs.groups.tables_for.Goals as goal

pub returns-clause-are : goal.returns-clause-are
returns-clause-are c =
    subst AreTables (sym c.as_slice.ensures)
    (group_are c.args.groups.now c.args.number c.split_groups.result.0.now c.split_groups.result.2.now c.split_groups.result.1.now c.requires.are c.split_groups.ensures.whole c.split_groups.ensures.lower c.split_groups.ensures.higher)

pub returns-clause-rows : goal.returns-clause-rows
returns-clause-rows c =
    ap (λ (tables : List TableRows). rows_of_table c.args.number (all_rows tables)) c.as_slice.ensures
    ∙ group_rows c.args.groups.now c.args.number c.split_groups.result.0.now c.split_groups.result.2.now c.split_groups.result.1.now c.requires.are c.split_groups.ensures.whole c.split_groups.ensures.lower c.split_groups.ensures.higher
