use Rattle.std.proofs.Common.{◌∙◌, List, ap, arith, length, subst, sym}
use Rattle.std.specs.Option.{option_copied}
use Rattle.std.proofs.lemmas.List.{length-append}
use Rattle.prt_addr.specs.Rising.{IsRising}
use Rattle.prt_route.specs.Route.{is_listed_before}
use Rattle.prt_version.specs.Tables.{TableRows}
use Rattle.prt_version.proofs.Runs.{IsCut, all_cut, cut_more, none_cut}
use Rattle.prt_version.proofs.SortedRows.{rising_parts}
use Rattle.prt_version.proofs.shared_table.tables_of_rows.Goals as goal

pub loop-first-init : goal.loop-first-init
loop-first-init c = subst (λ (tables : List TableRows). IsCut c.args.rows.now tables c.args.rows.now) (sym c.new-tables.ensures.items) (none_cut c.args.rows.now c.requires)

pub split_table-requires-clause-rising : goal.split_table-requires-clause-rising
split_table-requires-clause-rising c = c.loop-first.invariant.rising

pub table_of_rows-requires-clause-rising : goal.table_of_rows-requires-clause-rising
table_of_rows-requires-clause-rising c = (rising_parts is_listed_before c.split_table.result.0.now c.split_table.result.1.now (subst (IsRising is_listed_before) (sym c.split_table.ensures.whole) c.loop-first.invariant.rising)).0

pub loop-first-smaller : goal.loop-first-smaller
loop-first-smaller c = omega (arith, length-append c.split_table.result.0.now c.split_table.result.1.now, ap length c.split_table.ensures.whole, c.split_table.ensures.some)

pub loop-first-preserved : goal.loop-first-preserved
loop-first-preserved c =
    cut_more c.in-Some.first.now.table c.split_table.result.0.now c.split_table.result.1.now c.split_table.ensures.some c.split_table.ensures.own
    c.args.rows.now c.loop-first.rest.now c.loop-first.tables.items c.push.new.self.items c.in_ok-table.table c.loop-first.invariant c.split_table.ensures.whole c.split_table.ensures.higher c.in_ok-table.ensures c.in_ok-push.ensures.items

pub returns-clause-tables : goal.returns-clause-tables
returns-clause-tables c = c.loop-first.invariant.tables_are

pub returns-clause-value : goal.returns-clause-value
returns-clause-value c =
    all_cut c.args.rows.now c.loop-first.tables.items c.loop-first.rest.now (sym c.first.ensures.value ∙ ap option_copied c.in_default.is) c.loop-first.invariant
