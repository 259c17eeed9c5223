use Rattle.std.proofs.Common.{◌≡◌, length}
use Rattle.prt_diff.specs.Apply.Walk.{routes_from}
use Rattle.prt_diff.proofs.apply.routes.routes_from.Given as goal

abbrev pub invariant-loop-rest : goal.invariant-loop-rest
invariant-loop-rest l = routes_from l.route l.rest ≡ routes_from l.route l.routes

abbrev pub decreases-loop-rest : goal.decreases-loop-rest
decreases-loop-rest l = length l.rest
