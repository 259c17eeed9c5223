use Rattle.std.proofs.Common.{◌≡◌, ◌<◌, ◌≤◌, ◌-◌, get_or, length}
use Rattle.prt_rule.specs.declared.rule.Rule.{Rule}
use Rattle.prt_version.specs.RuleIndex.{list_of}
use Rattle.prt_version.specs.Steps.{IsSilent}
use Rattle.prt_version.proofs.select.first_in.Given as goal

abbrev pub invariant-loop-place : goal.invariant-loop-place
invariant-loop-place l = record {
  within : l.place ≤ length l.rules;
  is : (d : Rule) → l.place < length l.rules → list_of (get_or l.rules l.place d) ≡ l.list;
  silent : IsSilent l.rules l.list l.place l.routes l.packet;
}

abbrev pub decreases-loop-place : goal.decreases-loop-place
decreases-loop-place l = length l.rules - l.place
