use Rattle.std.proofs.Common.{◌≡◌, drop, find}
use Rattle.prt_rule.specs.Rule.{matches}
use Rattle.prt_analyses.specs.Unused.Steps.{packets_to}
use Rattle.prt_analyses.proofs.unused.reasons.match_in.Given as goal

abbrev pub invariant-loop-start : goal.invariant-loop-start
invariant-loop-start l = find (matches l.rule) (packets_to (drop l.start-index l.starts) l.class) ≡ find (matches l.rule) (packets_to l.starts l.class)
