-- Which rules differ, and which rule a deletion takes: ip-rule(8).
use Rattle.std.specs.Prelude.{ℕ, Bool, false, not, ◌&&◌, ◌||◌, ◌==◌, nat_lt, if◌then◌else◌, List, [], ◌∷◌, filter, Option, Some, None, bytes_eq}
use Rattle.std.specs.List.{list_any}
use Rattle.std.specs.Option.{option_eq}
use Rattle.prt_addr.specs.Block.{Block}
use Rattle.prt_addr.specs.Given.{agrees_there}
use Rattle.prt_addr.specs.Order.{insert_by}
use Rattle.prt_addr.specs.Prefix.{is_same_prefix}
use Rattle.prt_rule.specs.Same.{is_same_action, is_same_rule}
use Rattle.prt_rule.specs.declared.choice.RuleChoice.{RuleChoice}
use Rattle.prt_rule.specs.declared.rule.Mark.{Mark}
use Rattle.prt_rule.specs.declared.rule.Rule.{Rule}
use Rattle.prt_command.specs.declared.request.Command.{Command}
use Rattle.prt_command.specs.declared.request.Command.TheVariants.{RuleAdd, RuleDel}
use Rattle.prt_command.specs.declared.request.NewRule.{NewRule}
use Rattle.prt_version.specs.Change.{has_rule}
use Rattle.prt_diff.specs.Fence.{is_rule_within, rules_within}
use Rattle.prt_diff.specs.declared.fence.Fence.{Fence}

abbrev pub without_id : Rule → Rule
without_id rule = record rule { id = 0 }

-- the rules of one priority
abbrev pub rules_at : ℕ → List Rule → List Rule
rules_at priority rules = filter (λ rule. rule.priority == priority) rules

-- ---- the commands

abbrev pub new_rule : Rule → NewRule
new_rule rule = record {
  priority = Some rule.priority;
  inverted = rule.inverted;
  from = rule.from;
  to = rule.to;
  iif = rule.iif;
  mark =
      rule.mark;
  action = rule.action;
  suppress = rule.suppress;
}

abbrev pub add_rule : Rule → Command
add_rule rule = RuleAdd (new_rule rule)

-- all that the rule has
abbrev pub whole_choice : Rule → RuleChoice
whole_choice rule = record {
  priority = Some rule.priority;
  inverted = rule.inverted;
  from = Some rule.from;
  to = Some rule.to;
  iif =
      rule.iif;
  mark = rule.mark;
  action = Some rule.action;
  suppress = rule.suppress;
}

abbrev pub delete_rule : Rule → Command
delete_rule rule = RuleDel (whole_choice rule)

-- ---- which rule the kernel deletes

-- `from all` and `to all` name nothing
abbrev pub takes_prefix : Block → Block → Bool
takes_prefix given prefix = given.len == 0 || is_same_prefix given prefix

-- the mark and the mask of a rule, 0 if it has none
abbrev pub mark_bits : Option Mark → ℕ
mark_bits None = 0
mark_bits (Some m) = m.mark

abbrev pub mask_bits : Option Mark → ℕ
mask_bits None = 0
mask_bits (Some m) = m.mask

-- a mark or a mask of 0 names nothing
abbrev pub takes_number : ℕ → ℕ → Bool
takes_number given number = given == 0 || given == number

-- The other rule agrees with the words that name this one. The kernel compares no `not`.
abbrev pub takes : Rule → Rule → Bool
takes rule other =
    rule.priority == other.priority
    && takes_prefix rule.from other.from
    && takes_prefix rule.to other.to
    && agrees_there bytes_eq rule.iif other.iif
    && takes_number (mark_bits rule.mark) (mark_bits other.mark)
    && takes_number (mask_bits rule.mark) (mask_bits other.mark)
    && is_same_action rule.action other.action
    && agrees_there (λ a b. a == b) rule.suppress other.suppress

-- the kernel deletes the first rule that agrees: it is the one that is named
abbrev pub is_first_taken : Rule → List Rule → Bool
is_first_taken rule [] = false
is_first_taken rule (other ∷ others) = if takes rule other then is_same_rule other rule else is_first_taken rule others

-- ---- which rules the kernel refuses

-- The kernel refuses a new rule beside the other one. It compares no `not`, and no prefix if the new rule has `all`.
abbrev pub bars : Rule → Rule → Bool
bars new other =
    new.priority == other.priority
    && takes_prefix new.from other.from
    && takes_prefix new.to other.to
    && option_eq bytes_eq new.iif other.iif
    && mark_bits new.mark == mark_bits other.mark
    && mask_bits new.mark == mask_bits other.mark
    && is_same_action new.action other.action
    && option_eq (λ a b. a == b) new.suppress other.suppress

-- ---- what differs

-- Of the rules of one priority, this one stays: it is among the first ones wanted, which are found in that order.
abbrev pub stays : Rule → List Rule → List Rule → Bool
stays rule [] wanted = false
stays rule (other ∷ found) [] = false
stays rule (other ∷ found) (first ∷ wanted) =
    if is_same_rule other first then is_same_rule first rule || stays rule found wanted else stays rule found (first ∷ wanted)

-- the rule stays among those of its priority
abbrev pub is_kept_rule : List Rule → List Rule → Rule → Bool
is_kept_rule found wanted rule = stays rule (rules_at rule.priority found) (rules_at rule.priority wanted)

-- the wanted rules that are not found, or have to move
unfoldable pub new_rules : List Rule → List Rule → List Rule
new_rules found wanted = filter (λ rule. not (is_kept_rule found wanted rule)) wanted

-- the rules that come or move, in the order of their priorities
abbrev pub coming_rules : Fence → List Rule → List Rule → List Rule
coming_rules fence found wanted = new_rules (rules_within fence found) (rules_within fence wanted)

-- the rules that go, in the order in which they are found
abbrev pub going_rules : Fence → List Rule → List Rule → List Rule
going_rules fence found wanted = filter (λ rule. is_rule_within fence rule && not (has_rule rule wanted)) found

-- the kernel refuses one of the new rules beside this one
abbrev pub bars_one : List Rule → Rule → Bool
bars_one new rule = list_any (λ one. bars one rule) new

-- the rules that go and bar one that comes
abbrev pub barring_rules : Fence → List Rule → List Rule → List Rule
barring_rules fence found wanted = filter (bars_one (coming_rules fence found wanted)) (going_rules fence found wanted)

-- ---- what an addition and a deletion leave

abbrev pub has_lower_priority : Rule → Rule → Bool
has_lower_priority rule other = nat_lt rule.priority other.priority

-- the rules with one more, behind the others of its priority
abbrev pub with_rule : Rule → List Rule → List Rule
with_rule rule rules = insert_by has_lower_priority rule rules

abbrev pub without_rule : Rule → List Rule → List Rule
without_rule rule rules = filter (λ other. not (is_same_rule other rule)) rules
