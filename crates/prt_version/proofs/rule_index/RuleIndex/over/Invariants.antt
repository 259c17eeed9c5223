use Rattle.prt_version.specs.RuleIndex.{AreLinked}
use Rattle.prt_version.proofs.rule_index.RuleIndex.over.Given as goal

abbrev pub invariant-loop-place : goal.invariant-loop-place
invariant-loop-place l = AreLinked l.rules l.place l.first l.next.items

abbrev pub decreases-loop-place : goal.decreases-loop-place
decreases-loop-place l = l.place
