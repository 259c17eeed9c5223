use Rattle.std.proofs.Common.{sym, ◌∙◌}
use Rattle.prt_analyses.proofs.WhyUnused.{is_reached, misses_other, one_more}
use Rattle.prt_analyses.proofs.unused.reasons.packet_under.Goals as goal
use Rattle.prt_analyses.proofs.unused.reasons.packet_under.Goals.{then-is_lookup_of+in_default, else-is_lookup_of}

pub returns-in-Some : goal.returns-in-Some
returns-in-Some c =
    is_reached c.args.route.now c.args.rules.now c.rule-item.result c.in-Some.packet c.loop-rule.rule-index c.loop-rule-test.true c.rule-item.is (sym c.is_lookup_of.ensures ∙ c.if-is_lookup_of.true) c.in-Some.ensures

pub loop-rule-preserved : goal.loop-rule-preserved
loop-rule-preserved c =
    one_more c.args.route.now c.args.rules.now c.rule-item.result c.loop-rule.rule-index c.loop-rule-test.true c.rule-item.is c.loop-rule.invariant
    (elim c.if-is_lookup_of.branch [
      | then-is_lookup_of+in_default w ↦ λ is. w.in_default.ensures
      | else-is_lookup_of w ↦ misses_other c.args.route.now c.rule-item.result (sym c.is_lookup_of.ensures ∙ w.if-is_lookup_of.false)
    ])
