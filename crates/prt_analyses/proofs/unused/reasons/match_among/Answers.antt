use Rattle.std.proofs.Common.{Some, None, sym, ◌∙◌}
use Rattle.prt_rule.specs.Rule.{matches}
use Rattle.prt_analyses.proofs.Loops.{found_class}
use Rattle.prt_analyses.proofs.unused.reasons.match_among.Goals as goal

pub returns-in-Some : goal.returns-in-Some
returns-in-Some c =
    sym (found_class (matches c.args.rule.now) c.args.starts.now c.args.classes.now c.class-item.result c.loop-class.class-index (Some c.in-Some.packet) c.loop-class-test.true c.class-item.is c.in-Some.ensures)
    ∙ c.loop-class.invariant

pub loop-class-preserved : goal.loop-class-preserved
loop-class-preserved c =
    sym (found_class (matches c.args.rule.now) c.args.starts.now c.args.classes.now c.class-item.result c.loop-class.class-index None c.loop-class-test.true c.class-item.is (sym c.in_default.is ∙ c.match_in.ensures))
    ∙ c.loop-class.invariant
