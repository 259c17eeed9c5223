-- A route, a packet and answers for examples.
use Rattle.std.specs.Prelude.{ℕ, Some, None, codes}
use Rattle.prt_route.specs.declared.kind.Kind.TheVariants.{Unicast}
use Rattle.prt_route.specs.declared.route.Route.{Route}
use Rattle.prt_rule.specs.declared.packet.Packet.{Packet}
use Rattle.prt_version.specs.declared.answer.Answer.{Answer}
use Rattle.prt_version.specs.declared.answer.Verdict.TheVariants as verdicts

-- default dev eth0
abbrev pub default_route : Route
default_route = record {
  table = 254;
  prefix = record { bits = 0; len = 0 };
  metric = 0;
  kind = Unicast;
  via = None;
  dev =
      Some (codes "eth0");
  src = None;
  proto = 3;
  scope = 253;
}

-- the packet of `route get` with this address alone
abbrev pub get : ℕ → Packet
get addr = record { dst = record { 0 = addr }; src = record { 0 = 0 }; iif = codes "lo"; mark = 0 }

-- no rule of version 0 decides
abbrev pub no_answer : Answer
no_answer = record { number = 0; verdict = verdicts.NoRoute }

-- the rule of table main finds the route in version 1
abbrev pub route_answer : Answer
route_answer = record { number = 1; verdict = verdicts.Route 32766 default_route }
