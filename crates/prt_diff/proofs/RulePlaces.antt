-- The place of a new rule is within the list.
use Rattle.std.proofs.Common.{◌≤◌, List, length}
use Rattle.std.specs.Prelude.{unwrap_or}
use Rattle.std.specs.List.{position}
use Rattle.prt_addr.proofs.Orders.{place_within}
use Rattle.prt_rule.specs.declared.rule.Rule.{Rule}
use Rattle.prt_diff.specs.Rules.{has_lower_priority}

pub rule_within : (new : Rule) (rules : List Rule) → unwrap_or (position (λ rule. has_lower_priority new rule) rules) (length rules) ≤ length rules
rule_within new rules = place_within has_lower_priority new rules
