use Rattle.std.proofs.Common.{◌≡◌, drop, find}
use Rattle.prt_rule.specs.Rule.{matches}
use Rattle.prt_analyses.specs.Unused.Steps.{all_packets}
use Rattle.prt_analyses.proofs.unused.reasons.match_among.Given as goal

abbrev pub invariant-loop-class : goal.invariant-loop-class
invariant-loop-class l = find (matches l.rule) (all_packets l.starts (drop l.class-index l.classes)) ≡ find (matches l.rule) (all_packets l.starts l.classes)
