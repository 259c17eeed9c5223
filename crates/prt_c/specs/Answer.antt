-- What becomes of a packet, as C reads it.
use Rattle.std.specs.Prelude.{ℕ, ◌-◌, List, ◌++◌, length, take, replicate, Option, Some, None}
use Rattle.prt_addr.specs.declared.addr.Addr.{Addr}
use Rattle.prt_route.specs.declared.kind.Kind.{Kind}
use Rattle.prt_route.specs.declared.kind.Kind.TheVariants.{Unicast, Blackhole, Unreachable, Prohibit, Throw}
use Rattle.prt_route.specs.declared.route.Route.{Route}
use Rattle.prt_rule.specs.declared.rule.Action.{Action}
use Rattle.prt_rule.specs.declared.rule.Action.TheVariants as actions
use Rattle.prt_version.specs.declared.answer.Verdict.{Verdict}
use Rattle.prt_version.specs.declared.answer.Verdict.TheVariants as verdicts
use Rattle.prt_c.specs.declared.answer.AnswerC.{AnswerC}

-- No verdict has a throw route: a lookup goes on past one.
abbrev pub kind_number : Kind → ℕ
kind_number Unicast = 1
kind_number Blackhole = 2
kind_number Unreachable = 3
kind_number Prohibit = 4
kind_number Throw = 5

-- No verdict is a rule's lookup: it looks up the table.
abbrev pub action_number : Action → ℕ
action_number (actions.Lookup table) = 0
action_number actions.Blackhole = 2
action_number actions.Unreachable = 3
action_number actions.Prohibit = 4

-- whether there is an address, as a number, and its number
abbrev pub has : Option Addr → ℕ
has None = 0
has (Some addr) = 1

abbrev pub addr_number : Option Addr → ℕ
addr_number None = 0
addr_number (Some addr) = addr.0

-- a name in sixteen bytes, of which at least the last is zero
abbrev pub zero_ended : List ℕ → List ℕ
zero_ended name = take 15 name ++ replicate (16 - length (take 15 name)) 0

abbrev pub name_bytes : Option (List ℕ) → List ℕ
name_bytes None = replicate 16 0
name_bytes (Some name) = zero_ended name

-- no route decides
abbrev pub without_route : ℕ → ℕ → ℕ → AnswerC
without_route number kind priority = record {
  number = number;
  kind = kind;
  table = 0;
  priority = priority;
  destination = 0;
  prefix_length = 0;
  metric = 0;
  has_gateway = 0;
  gateway = 0;
  has_source = 0;
  source = 0;
  device = replicate 16 0;
}

-- this route decides
abbrev pub by_route : ℕ → ℕ → Route → AnswerC
by_route number priority route = record {
  number = number;
  kind = kind_number route.kind;
  table = route.table;
  priority = priority;
  destination = route.prefix.bits;
  prefix_length = route.prefix.len;
  metric = route.metric;
  has_gateway = has route.via;
  gateway = addr_number route.via;
  has_source = has route.src;
  source = addr_number route.src;
  device = name_bytes route.dev;
}

-- the answer after this many commands
abbrev pub answer_of : ℕ → Verdict → AnswerC
answer_of number (verdicts.Route priority route) = by_route number priority route
answer_of number (verdicts.RuleSays priority action) = without_route number (action_number action) priority
answer_of number verdicts.NoRoute = without_route number 0 0
