use Rattle.std.proofs.Common.{◌++◌, ◌∙◌, ap, rules}
use Rattle.std.specs.Prelude.{filter}
use Rattle.std.specs.Arc.{arc_value}
use Rattle.std.proofs.lemmas.Fn.{filter_same}
use Rattle.prt_route.specs.RouteChoice.{is_selected}
use Rattle.prt_version.specs.Tables.{TableRows}
use Rattle.prt_version.proofs.ByTable.{nothing_selected}
use Rattle.prt_version.proofs.shared_table.SharedTable.add_selected.Goals as goal

pub returns-then-not-agrees : goal.returns-then-not-agrees
returns-then-not-agrees c =
    nothing_selected _ _ (record { number = c.self.inside.number; rows = arc_value c.self.inside.table }) _ _ c.self.view_is c.agrees.ensures c.if-not-agrees.true c.requires

pub returns : goal.returns
returns c =
    c.in_ok-extend_from_slice.ensures.items ∙ ap (λ xs. c.args.rows.now.items ++ xs)
    (c.as_slice.ensures.value ∙ filter_same _ _ _ (λ x b f' k. search rules) _ _ c.retain.ensures.filtered
    ∙ ap (filter (is_selected c.args.selector.now)) (c.in-Ok.ensures.value ∙ c.deref.ensures ∙ ap (λ (table : TableRows). table.rows) c.self.view_is))
