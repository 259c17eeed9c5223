use Rattle.std.proofs.Common.{take}
use Rattle.std.specs.List.{AllByRecursion as Each}
use Rattle.prt_analyses.proofs.WhyUnused.{Misses}
use Rattle.prt_analyses.proofs.unused.reasons.packet_under.Given as goal

abbrev pub invariant-loop-rule : goal.invariant-loop-rule
invariant-loop-rule l = Each (Misses l.route) (take l.rule-index l.rules)
