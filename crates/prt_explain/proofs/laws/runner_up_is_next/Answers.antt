use Rattle.prt_route.specs.Best.{candidates}
use Rattle.prt_route.specs.Route.{is_better}
use Rattle.prt_explain.proofs.RunnersUp.{next_is_after, next_is_one, none_between}
use Rattle.prt_explain.proofs.laws.runner_up_is_next.Goals as goal

pub returns : goal.returns
returns c = record {
  candidate = λ route routes table addr other is. next_is_one is_better route (candidates routes table addr) other is;
  worse = λ route routes table addr other is. next_is_after is_better route (candidates routes table addr) other is;
  none_between = λ route routes table addr other between is. none_between is_better route (candidates routes table addr) other is between;
}
