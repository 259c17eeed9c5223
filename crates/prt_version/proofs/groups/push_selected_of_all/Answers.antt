use Rattle.std.proofs.Common.{◌++◌, ◌∙◌, List, ap, arith, filter, subst, sym}
use Rattle.std.specs.List.{AllByRecursion as Each}
use Rattle.prt_route.specs.RouteChoice.{is_selected}
use Rattle.prt_version.specs.Tables.{HasOwnRows, TableRows, all_rows}
use Rattle.prt_version.proofs.Grouped.{group_holds, selected_more_groups}
use Rattle.prt_version.proofs.groups.push_selected_of_all.Goals as goal

pub push_selected-requires : goal.push_selected-requires
push_selected-requires c =
    subst (Each HasOwnRows) (sym c.as_slice.ensures) (group_holds HasOwnRows c.args.groups.now c.loop-group.group-index c.group-item.result c.requires (omega arith) c.group-item.is)

pub loop-group-preserved : goal.loop-group-preserved
loop-group-preserved c =
    selected_more_groups c.args.selector.now c.args.groups.now c.loop-group.group-index c.group-item.result c.args.rows.now.items c.loop-group.rows.items _ (omega arith) c.group-item.is c.loop-group.invariant
    (c.in_ok-push_selected.ensures ∙ ap (λ (tables : List TableRows). c.loop-group.rows.items ++ filter (is_selected c.args.selector.now) (all_rows tables)) c.as_slice.ensures)
