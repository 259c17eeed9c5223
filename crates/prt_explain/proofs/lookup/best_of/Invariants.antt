use Rattle.std.specs.List.{IsFirstBest}
use Rattle.prt_route.specs.Route.{is_better}
use Rattle.prt_explain.proofs.lookup.best_of.Given as goal

abbrev pub invariant-loop-i : goal.invariant-loop-i
invariant-loop-i l = IsFirstBest is_better l.routes l.i l.best
