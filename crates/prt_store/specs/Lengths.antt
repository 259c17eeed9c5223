-- The lengths up to which rules suppress prefixes, as the table `suppress` has them.
use Rattle.std.specs.Prelude.{◌==◌, ℕ, List, [], ◌∷◌, Option, Some, None, if◌then◌else◌, option_map}
use Rattle.std.specs.List.{filter_map}
use Rattle.prt_rule.specs.declared.rule.Rule.{Rule}
use Rattle.prt_rows.specs.declared.suppress_row.RuleLength.{RuleLength}

-- the rule without the length, as its own row has it
abbrev pub plain : Rule → Rule
plain rule = record rule { suppress = None }

abbrev pub with_len : Rule → ℕ → Rule
with_len rule len = record rule { suppress = Some len }

abbrev pub length_at : ℕ → ℕ → RuleLength
length_at id len = record { rule = id; len = len }

-- the length of a rule, if it has one
abbrev pub length_of : Rule → Option RuleLength
length_of rule = option_map (length_at rule.id) rule.suppress

abbrev pub lengths_of : List Rule → List RuleLength
lengths_of = filter_map length_of

-- the rule with the first of these lengths, if that is its own, and the lengths that are left
abbrev pub merge_one : Rule → List RuleLength → Rule × List RuleLength
merge_one rule [] = (rule, [])
merge_one rule (length ∷ lengths) = if length.rule == rule.id then (with_len rule length.len, lengths) else (rule, length ∷ lengths)

-- each rule with its own of these lengths, if both rise by the ids of the rules
abbrev pub merged : List Rule → List RuleLength → List Rule
merged [] lengths = []
merged (rule ∷ rules) lengths = (merge_one rule lengths).0 ∷ merged rules (merge_one rule lengths).1

-- the lengths that are of none of the rules
abbrev pub left_over : List Rule → List RuleLength → List RuleLength
left_over [] lengths = lengths
left_over (rule ∷ rules) lengths = left_over rules (merge_one rule lengths).1
