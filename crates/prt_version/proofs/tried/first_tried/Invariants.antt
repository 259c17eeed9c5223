use Rattle.std.proofs.Common.{◌<◌, ◌≤◌, ◌-◌, ℕ, get_or, length}
use Rattle.prt_rule.specs.declared.rule.Rule.{Rule}
use Rattle.prt_version.specs.Tried.{SaysNothing}
use Rattle.prt_version.proofs.tried.first_tried.Given as goal

abbrev pub invariant-loop-from : goal.invariant-loop-from
invariant-loop-from l = record {
  within : l.from ≤ length l.rules;
  silent : (k : ℕ) (d : Rule) → k < l.from → SaysNothing (get_or l.rules k d) l.routes;
}

abbrev pub decreases-loop-from : goal.decreases-loop-from
decreases-loop-from l = length l.rules - l.from
