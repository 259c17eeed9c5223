use Rattle.std.proofs.Common.{[], sym, ◌∙◌}
use Rattle.sqlite_schema.specs.declared.schema.Kind.TheVariants.{Integer}
use Rattle.prt_rows.proofs.Formats.{one_more_wanted}
use Rattle.prt_rows.specs.Tables.{strict_column}
use Rattle.prt_rows.proofs.format.are_columns.Goals as goal

pub loop-at-preserved : goal.loop-at-preserved
loop-at-preserved c =
    one_more_wanted (λ w. strict_column w.0.now w.1) c.args.columns.now c.args.wanted.now c.loop-at.at c.index-columns-at.result (record { ref_ptr = (0, 0); now = [] }, Integer)
    c.loop-at-test.true c.if-columns-wanted.false (sym c.index-columns-at.is ∙ c.is_column.ensures.0 c.if-not-is_column.false) c.loop-at.invariant
