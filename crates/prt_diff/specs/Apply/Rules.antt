-- Which rules differ, priority by priority: ip-rule(8).
use Rattle.std.specs.Prelude.{ℕ, zero, suc, Bool, true, false, ◌&&◌, if◌then◌else◌, List, [], ◌∷◌, ◌++◌, map, max, Some, None}
use Rattle.prt_rule.specs.Same.{is_same_rule}
use Rattle.prt_rule.specs.declared.choice.RuleChoice.{RuleChoice}
use Rattle.prt_rule.specs.declared.rule.Rule.{Rule}
use Rattle.prt_command.specs.declared.request.Command.{Command}
use Rattle.prt_command.specs.declared.request.Command.TheVariants.{RuleDel}
use Rattle.prt_diff.specs.Rules.{add_rule, rules_at}

-- the same rules in the same order, except for ids
abbrev pub are_same : List Rule → List Rule → Bool
are_same [] [] = true
are_same [] (other ∷ others) = false
are_same (rule ∷ rules) [] = false
are_same (rule ∷ rules) (other ∷ others) = is_same_rule rule other && are_same rules others

-- ---- the commands

-- a priority, and nothing else
abbrev pub choice_at : ℕ → RuleChoice
choice_at priority = record { priority = Some priority; inverted = false; from = None; to = None; iif = None; mark = None; action = None; suppress = None }

-- the first rule of this one's priority is deleted
abbrev pub delete_first : Rule → Command
delete_first rule = RuleDel (choice_at rule.priority)

-- ---- what differs

-- Of one priority: if the rules differ, all that are found are deleted, and all that are wanted are added.
abbrev pub replacing : List Rule → List Rule → List Command
replacing found wanted = if are_same found wanted then [] else map delete_first found ++ map add_rule wanted

-- of each priority below this one, in rising order
abbrev pub changes_below : ℕ → List Rule → List Rule → List Command
changes_below zero found wanted = []
changes_below (suc n) found wanted = changes_below n found wanted ++ replacing (rules_at n found) (rules_at n wanted)

-- a number above the priority of each of these rules
abbrev pub above_all : List Rule → ℕ
above_all [] = 0
above_all (rule ∷ rules) = max (suc rule.priority) (above_all rules)

-- of each priority, in rising order
abbrev pub rule_changes : List Rule → List Rule → List Command
rule_changes found wanted = changes_below (above_all (found ++ wanted)) found wanted
