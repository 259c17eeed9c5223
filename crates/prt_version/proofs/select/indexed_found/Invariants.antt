use Rattle.prt_version.specs.Found.{verdict_in}
use Rattle.prt_version.proofs.RuleIndexes.{IsBest}
use Rattle.prt_version.proofs.select.indexed_found.Given as goal

abbrev pub invariant-loop-list : goal.invariant-loop-list
invariant-loop-list l = IsBest l.rules l.list-items l.list-index l.routes l.packet l.before (verdict_in l.found)
