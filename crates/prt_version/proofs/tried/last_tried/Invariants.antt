use Rattle.std.proofs.Common.{◌<◌, ◌≤◌, ℕ, get_or, length}
use Rattle.prt_rule.specs.declared.rule.Rule.{Rule}
use Rattle.prt_version.specs.Tried.{SaysNothing}
use Rattle.prt_version.proofs.tried.last_tried.Given as goal

abbrev pub invariant-loop-to : goal.invariant-loop-to
invariant-loop-to l = record {
  from : l.from ≤ l.to;
  within : l.to ≤ length l.rules;
  silent : (k : ℕ) (d : Rule) → l.to ≤ k → k < length l.rules → SaysNothing (get_or l.rules k d) l.routes;
}

abbrev pub decreases-loop-to : goal.decreases-loop-to
decreases-loop-to l = l.to
