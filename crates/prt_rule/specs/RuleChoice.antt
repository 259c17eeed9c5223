-- Which rules a command names, by what it specifies: ip-rule(8).
use Rattle.std.specs.Prelude.{Bool, not, ◌&&◌, ◌||◌, ◌==◌, bytes_eq}
use Rattle.prt_addr.specs.Given.{agrees, agrees_there}
use Rattle.prt_addr.specs.Prefix.{is_same_prefix}
use Rattle.prt_rule.specs.Same.{is_same_action, is_same_mark}
use Rattle.prt_rule.specs.declared.choice.RuleChoice.{RuleChoice}
use Rattle.prt_rule.specs.declared.rule.Rule.{Rule}

-- the rule agrees with all that is given
abbrev pub is_named : RuleChoice → Rule → Bool
is_named choice rule =
    agrees (λ a b. a == b) choice.priority rule.priority
    && (not choice.inverted || rule.inverted)
    && agrees is_same_prefix choice.from rule.from
    && agrees is_same_prefix choice.to rule.to
    && agrees_there bytes_eq choice.iif rule.iif
    && agrees_there is_same_mark choice.mark rule.mark
    && agrees is_same_action choice.action rule.action
    && agrees_there (λ a b. a == b) choice.suppress rule.suppress
