-- Rules in the order in which they are tried.
use Rattle.std.specs.Prelude.{List}
use Rattle.prt_addr.specs.Rising.{IsRising}
use Rattle.prt_rule.specs.Rule.{is_before}
use Rattle.prt_rule.specs.declared.rule.Rule.{Rule}

-- each rule is tried before those after it
abbrev pub IsInOrder : List Rule → Type 0
IsInOrder rules = IsRising is_before rules
