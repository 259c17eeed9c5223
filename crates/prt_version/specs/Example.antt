-- Rules and databases for examples.
use Rattle.std.specs.Prelude.{ℕ, zero, suc, ◌+◌, false, List, [], ◌∷◌, Option, None}
use Rattle.prt_addr.specs.Prefix.{everything}
use Rattle.prt_rule.specs.declared.rule.Action.{Action}
use Rattle.prt_rule.specs.declared.rule.Rule.{Rule}
use Rattle.prt_command.specs.declared.request.NewRule.{NewRule}
use Rattle.prt_version.specs.State.{State, table_rule}

-- a new rule for every packet
abbrev pub rule_for_all : Option ℕ → Action → NewRule
rule_for_all priority action =
    record { priority = priority; inverted = false; from = everything; to = everything; iif = None; mark = None; action = action; suppress = None }

-- this many rules, of the priorities from this one on, before these
abbrev pub lookups : ℕ → ℕ → List Rule → List Rule
lookups priority zero rules = rules
lookups priority (suc n) rules = table_rule (priority + 3) priority 7 ∷ lookups (priority + 1) n rules

-- a database with a thousand rules
abbrev pub full_of_rules : State
full_of_rules = record { count = 997; rules = table_rule 1 0 255 ∷ lookups 1 997 (table_rule 2 32766 254 ∷ table_rule 3 32767 253 ∷ []); routes = [] }

-- one that has accepted this many commands
abbrev pub after_count : ℕ → State → State
after_count count state = record { count = count; rules = state.rules; routes = state.routes }
