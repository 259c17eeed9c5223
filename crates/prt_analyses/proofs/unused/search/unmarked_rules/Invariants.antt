use Rattle.std.proofs.Common.{◌≡◌, ◌++◌, drop}
use Rattle.prt_analyses.specs.Unused.Steps.{unmarked}
use Rattle.prt_analyses.proofs.unused.search.unmarked_rules.Given as goal

abbrev pub invariant-loop-place : goal.invariant-loop-place
invariant-loop-place l = l.left.items ++ unmarked (drop l.place l.rules) (drop l.place l.flags) ≡ unmarked l.rules l.flags
