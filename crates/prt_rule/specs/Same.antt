-- Two rules are equal in all but their ids.
use Rattle.std.specs.Prelude.{Bool, true, false, not, ◌&&◌, ◌==◌, if◌then◌else◌, bytes_eq}
use Rattle.std.specs.Option.{option_eq}
use Rattle.prt_addr.specs.Prefix.{is_same_prefix}
use Rattle.prt_rule.specs.declared.rule.Action.{Action}
use Rattle.prt_rule.specs.declared.rule.Action.TheVariants.{Lookup, Blackhole, Unreachable, Prohibit}
use Rattle.prt_rule.specs.declared.rule.Mark.{Mark}
use Rattle.prt_rule.specs.declared.rule.Rule.{Rule}

abbrev pub is_same_flag : Bool → Bool → Bool
is_same_flag a b = if a then b else not b

abbrev pub is_same_mark : Mark → Mark → Bool
is_same_mark a b = a.mark == b.mark && a.mask == b.mask

abbrev pub is_same_action : Action → Action → Bool
is_same_action (Lookup a) (Lookup b) = a == b
is_same_action Blackhole Blackhole = true
is_same_action Unreachable Unreachable = true
is_same_action Prohibit Prohibit = true
is_same_action _ _ = false

-- the same sources, destinations, interface and mark
abbrev pub is_same_selector : Rule → Rule → Bool
is_same_selector a b = is_same_prefix a.from b.from && is_same_prefix a.to b.to && option_eq bytes_eq a.iif b.iif && option_eq is_same_mark a.mark b.mark

-- all but the id
abbrev pub is_same_rule : Rule → Rule → Bool
is_same_rule a b = a.priority == b.priority && is_same_flag a.inverted b.inverted && is_same_selector a b
    && is_same_action a.action b.action && option_eq (λ m n. m == n) a.suppress b.suppress
