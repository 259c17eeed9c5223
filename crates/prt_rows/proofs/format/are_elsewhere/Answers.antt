use Rattle.std.proofs.Common.{rules}
use Rattle.std.proofs.lemmas.Bool.{iff_false}
use Rattle.prt_rows.specs.Others.{IsElsewhere}
use Rattle.prt_rows.proofs.Formats.{each_more, each_of_all, is_not, is_so, not_of_all}
use Rattle.prt_rows.proofs.format.are_elsewhere.Goals as goal

pub loop-reference-preserved : goal.loop-reference-preserved
loop-reference-preserved c = each_more IsElsewhere c.args.references.now c.loop-reference.reference-index c.reference-item.result c.loop-reference-test.true c.reference-item.is (c.is_elsewhere.ensures.0 c.if-not-is_elsewhere.false) c.loop-reference.invariant

pub returns-then-not-is_elsewhere : goal.returns-then-not-is_elsewhere
returns-then-not-is_elsewhere c = is_not (not_of_all IsElsewhere c.args.references.now c.loop-reference.reference-index c.reference-item.result c.loop-reference-test.true c.reference-item.is (iff_false c.is_elsewhere.ensures c.if-not-is_elsewhere.true))

pub returns : goal.returns
returns c = is_so (each_of_all IsElsewhere c.args.references.now c.loop-reference.reference-index (search rules) c.loop-reference.invariant)
