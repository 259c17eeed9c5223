use Rattle.std.proofs.Common.{◌<◌, length, sym, arith, ◌∙◌}
use Rattle.std.proofs.lemmas.Grind.{common_steps}
use Rattle.prt_rows.proofs.Formats.{is_format, others_free}
use Rattle.prt_rows.proofs.format.is_format_2.Goals as goal

pub returns : goal.returns
returns c =
    let schema = c.args.schema.now in
    let tables = c.as_slice-tables.result.now in
    let indexes = c.as_slice-indexes.result.now in
    let some : 0 < length indexes = grind (arith, common_steps) in
    let ours = c.are_first.ensures.0 c.if-not-are_first.false in (
      λ free.
          is_format schema tables indexes c.index-tables-0.result c.index-tables-1.result c.index-tables-2.result c.index-tables-3.result c.index-indexes-0.result c.as_slice-tables.ensures c.as_slice-indexes.ensures c.if-tables-lt4.false
          some (sym c.index-tables-0.is ∙ ours.0) (sym c.index-tables-1.is ∙ ours.1) (sym c.index-tables-2.is ∙ ours.2) (sym c.index-tables-3.is ∙ c.is_suppress_in_place.ensures.0 c.if-not-is_suppress_in_place.false)
          (sym c.index-indexes-0.is ∙ ours.3) (c.are_others.ensures.0 c.if-not-are_others.false) (c.are_not_of_routes.ensures.0 free),
      λ format. c.are_not_of_routes.ensures.1 (others_free schema indexes c.as_slice-indexes.ensures format),
    )
