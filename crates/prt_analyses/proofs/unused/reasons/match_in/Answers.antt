use Rattle.std.proofs.Common.{false, ap, sym, ◌∙◌}
use Rattle.prt_rule.specs.Rule.{matches}
use Rattle.prt_analyses.proofs.Loops.{found_start}
use Rattle.prt_analyses.proofs.unused.reasons.match_in.Goals as goal

pub loop-start-preserved : goal.loop-start-preserved
loop-start-preserved c =
    let rule = c.args.rule.now in
    sym (found_start (matches rule) c.args.starts.now c.args.class.now c.loop-start.start-index false c.loop-start-test.true (ap (matches rule) (sym c.to-packet.ensures.value) ∙ sym c.matches.ensures ∙ c.if-matches.false))
    ∙ c.loop-start.invariant
