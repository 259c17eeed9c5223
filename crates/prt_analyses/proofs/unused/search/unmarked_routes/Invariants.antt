use Rattle.std.proofs.Common.{◌≡◌, ◌++◌, drop}
use Rattle.prt_analyses.specs.Unused.Steps.{unmarked}
use Rattle.prt_analyses.proofs.unused.search.unmarked_routes.Given as goal

abbrev pub invariant-loop-place : goal.invariant-loop-place
invariant-loop-place l = l.left.items ++ unmarked (drop l.place l.routes) (drop l.place l.flags) ≡ unmarked l.routes l.flags
