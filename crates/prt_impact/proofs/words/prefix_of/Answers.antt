use Rattle.std.proofs.Common.{◌∙◌, sym}
use Rattle.prt_impact.specs.Text.{prefix_of}
use Rattle.prt_impact.proofs.Prefixes.{none_left, opened, shut}
use Rattle.prt_impact.proofs.words.prefix_of.Goals as goal

pub loop-len-preserved : goal.loop-len-preserved
loop-len-preserved c =
    let range = c.args.range.now in
    shut c.loop-len.len range c.masked-prefix.result (prefix_of range) c.loop-len-test.true c.masked-prefix.ensures (sym c.is_all_of.ensures ∙ c.if-is_all_of.false) c.loop-len.invariant

pub returns-then-is_all_of : goal.returns-then-is_all_of
returns-then-is_all_of c =
    let range = c.args.range.now in
    opened c.loop-len.len range c.masked-prefix.result (prefix_of range) c.loop-len-test.true c.masked-prefix.ensures (sym c.is_all_of.ensures ∙ c.if-is_all_of.true) c.loop-len.invariant

pub returns : goal.returns
returns c = none_left c.loop-len.len c.args.range.now (prefix_of c.args.range.now) c.loop-len-test.false c.loop-len.invariant
