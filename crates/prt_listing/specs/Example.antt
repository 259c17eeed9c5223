-- Routes, rules and marks for examples.
use Rattle.std.specs.Prelude.{ℕ, ◌+◌, ◌*◌, ◌-◌, ◌^◌, false, Option, Some, None}
use Rattle.prt_addr.specs.Block.{Block}
use Rattle.prt_addr.specs.Prefix.{everything}
use Rattle.prt_addr.specs.declared.addr.Addr.{Addr}
use Rattle.prt_route.specs.declared.kind.Kind.{Kind}
use Rattle.prt_route.specs.declared.kind.Kind.TheVariants.{Unicast}
use Rattle.prt_route.specs.declared.route.Route.{Route}
use Rattle.prt_rule.specs.declared.rule.Action.{Action}
use Rattle.prt_rule.specs.declared.rule.Mark.{Mark}
use Rattle.prt_rule.specs.declared.rule.Rule.{Rule}

-- an address by its four parts
abbrev pub address : ℕ → ℕ → ℕ → ℕ → Addr
address a b c d = record { 0 = a * 2 ^ 24 + b * 2 ^ 16 + c * 2 ^ 8 + d }

abbrev pub prefix : Addr → ℕ → Block
prefix addr len = record { bits = addr.0; len = len }

-- a route of this table without a next hop
abbrev pub route_of : ℕ → Block → Kind → Route
route_of table block kind = record { table = table; prefix = block; metric = 0; kind = kind; via = None; dev = None; src = None; proto = 3; scope = 0 }

-- a route of this table through 192.0.2.x
abbrev pub through : ℕ → ℕ → Block → ℕ → Route
through x table block metric =
    record {
      table = table;
      prefix = block;
      metric = metric;
      kind = Unicast;
      via = Some (address 192 0 2 x);
      dev = None;
      src = None;
      proto =
          3;
      scope = 0;
    }

-- the prefix of one address
abbrev pub host : ℕ → ℕ → ℕ → ℕ → Block
host a b c d = prefix (address a b c d) 32

-- a mark of which every bit counts
abbrev pub whole : ℕ → Option Mark
whole mark = Some (record { mark = mark; mask = 2 ^ 32 - 1 })

-- the mark in the bits of this mask
abbrev pub masked : ℕ → ℕ → Option Mark
masked mark mask = Some (record { mark = mark; mask = mask })

-- a rule for every packet
abbrev pub rule_for_all : ℕ → Action → Rule
rule_for_all priority action =
    record {
      id = 4;
      priority = priority;
      inverted = false;
      from = everything;
      to = everything;
      iif = None;
      mark = None;
      action =
          action;
      suppress = None;
    }
