-- The text of a rule: ip-rule(8).
use Rattle.std.specs.Prelude.{ℕ, Bool, if◌then◌else◌, List, [], ◌∷◌, ◌++◌, Option, Some, None, option_map, codes, decimal}
use Rattle.prt_addr.specs.Block.{Block}
use Rattle.prt_addr.specs.Prefix.{prefix_text}
use Rattle.prt_rule.specs.declared.rule.Action.{Action}
use Rattle.prt_rule.specs.declared.rule.Action.TheVariants.{Lookup, Blackhole, Unreachable, Prohibit}
use Rattle.prt_rule.specs.declared.rule.Mark.{Mark}
use Rattle.prt_rule.specs.declared.rule.Rule.{Rule}
use Rattle.prt_listing.specs.Parts.{is_everything, mark_text, part, prefix_or, spaced, table_text}

-- the word of an inverted rule
abbrev pub not_part : Bool → Option (List ℕ)
not_part inverted = if inverted then Some (codes "not") else None

-- the destinations, except for 0.0.0.0/0
abbrev pub to_part : Block → Option (List ℕ)
to_part to = if is_everything to then None else part (codes "to") (Some (prefix_text to))

-- the mark, if one is given
abbrev pub mark_part : Option Mark → Option (List ℕ)
mark_part mark = part (codes "fwmark") (option_map mark_text mark)

-- `lookup TABLE`, or the word of a failure action
abbrev pub action_text : Action → List ℕ
action_text (Lookup table) = codes "lookup " ++ table_text table
action_text Blackhole = codes "blackhole"
action_text Unreachable = codes "unreachable"
action_text Prohibit = codes "prohibit"

-- those after the priority, in the order in which they are shown
abbrev pub rule_parts : Rule → List (Option (List ℕ))
rule_parts rule =
    not_part rule.inverted
    ∷ part (codes "from") (Some (prefix_or (codes "all") rule.from))
    ∷ to_part rule.to
    ∷ mark_part rule.mark
    ∷ part (codes "iif") rule.iif
    ∷ Some (action_text rule.action)
    ∷ part (codes "suppress_prefixlength") (option_map decimal rule.suppress)
    ∷ []

-- PRIORITY:, a tab, and [not] from PREFIX [to PREFIX] [fwmark MARK[/MASK]] [iif NAME] ACTION [suppress_prefixlength LEN]
abbrev pub rule_text : Rule → List ℕ
rule_text rule = decimal rule.priority ++ codes ":\t" ++ spaced (rule_parts rule)
