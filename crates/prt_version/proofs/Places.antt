-- The place of a new rule is within the list.
use Rattle.std.proofs.Common.{◌≤◌, List, length}
use Rattle.std.specs.Prelude.{unwrap_or}
use Rattle.std.specs.List.{position}
use Rattle.prt_addr.proofs.Orders.{place_within}
use Rattle.prt_rule.specs.Rule.{is_before}
use Rattle.prt_rule.specs.declared.rule.Rule.{Rule}

pub rule_within : (new : Rule) (rules : List Rule) → unwrap_or (position (λ rule. is_before new rule) rules) (length rules) ≤ length rules
rule_within new rules = place_within is_before new rules
