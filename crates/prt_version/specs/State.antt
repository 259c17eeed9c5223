-- What a version of the policy database holds.
use Rattle.std.specs.Prelude.{ℕ, false, List, [], ◌∷◌, None}
use Rattle.prt_addr.specs.Prefix.{everything}
use Rattle.prt_route.specs.declared.route.Route.{Route}
use Rattle.prt_route.specs.Names.{default_table, local_table, main_table}
use Rattle.prt_rule.specs.declared.rule.Action.TheVariants.{Lookup}
use Rattle.prt_rule.specs.declared.rule.Rule.{Rule}

-- How many commands were ever accepted, the rules in the order in which they are tried, and the routes in the order of listings.
pub record State : Type 0 where
  pub count : ℕ
  pub rules : List Rule
  pub routes : List Route

-- look up this table for every packet
abbrev pub table_rule : ℕ → ℕ → ℕ → Rule
table_rule id priority table =
    record {
      id = id;
      priority = priority;
      inverted = false;
      from = everything;
      to = everything;
      iif = None;
      mark = None;
      action =
          Lookup table;
      suppress = None;
    }

-- local, main and default
abbrev pub opening_rules : List Rule
opening_rules = table_rule 1 0 local_table ∷ table_rule 2 32766 main_table ∷ table_rule 3 32767 default_table ∷ []

abbrev pub opening_state : State
opening_state = record { count = 0; rules = opening_rules; routes = [] }
