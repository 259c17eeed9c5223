use Rattle.std.proofs.Common.{◌≡◌, false, rules}
use Rattle.std.proofs.lemmas.Bool.{iff_false}
use Rattle.sqlite_schema.specs.Rules.{guards}
use Rattle.prt_rows.specs.Tables.{route_table}
use Rattle.prt_rows.proofs.Formats.{each_more, each_of_all, is_not, is_so, not_of_all}
use Rattle.prt_rows.proofs.format.are_not_of_routes.Goals as goal

pub loop-index-preserved : goal.loop-index-preserved
loop-index-preserved c = each_more (λ index. guards index route_table ≡ false) c.args.indexes.now c.loop-index.index-index c.index-item.result c.loop-index-test.true c.index-item.is (c.is_not_of_routes.ensures.0 c.if-not-is_not_of_routes.false) c.loop-index.invariant

pub returns-then-not-is_not_of_routes : goal.returns-then-not-is_not_of_routes
returns-then-not-is_not_of_routes c = is_not (not_of_all (λ index. guards index route_table ≡ false) c.args.indexes.now c.loop-index.index-index c.index-item.result c.loop-index-test.true c.index-item.is (iff_false c.is_not_of_routes.ensures c.if-not-is_not_of_routes.true))

pub returns : goal.returns
returns c = is_so (each_of_all (λ index. guards index route_table ≡ false) c.args.indexes.now c.loop-index.index-index (search rules) c.loop-index.invariant)
