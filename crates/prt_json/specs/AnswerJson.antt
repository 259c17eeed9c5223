-- What becomes of a packet as `ip -j route get` shows it: ip-route(8).
use Rattle.std.specs.Prelude.{◌&&◌, ◌==◌, if◌then◌else◌, List, [], ◌∷◌, Option, Some, None, bytes_eq, codes}
use Rattle.prt_addr.specs.Addr.{addr_text}
use Rattle.prt_addr.specs.declared.addr.Addr.{Addr}
use Rattle.prt_route.specs.declared.route.Route.{Route}
use Rattle.prt_rule.specs.declared.rule.Action.{Action}
use Rattle.prt_rule.specs.declared.packet.Packet.{Packet}
use Rattle.prt_version.specs.declared.answer.Verdict.{Verdict}
use Rattle.prt_version.specs.declared.answer.Verdict.TheVariants as verdict
use Rattle.json.specs.Json.{Json}
use Rattle.prt_json.specs.Fields.{Member, dev_field, empty_field, number_field, object_of, text_field}
use Rattle.prt_json.specs.RouteJson.{gateway_field, prefsrc_field, route_dev_field, table_field, type_field}
use Rattle.prt_json.specs.RuleJson.{failure}

-- the destination that is asked for
abbrev pub target_field : Packet → Option Member
target_field packet = text_field (codes "dst") (Some (addr_text packet.dst))

-- the source, except for 0.0.0.0, which is none
abbrev pub from_field : Packet → Option Member
from_field packet = text_field (codes "from") (if packet.src.0 == 0 then None else Some (addr_text packet.src))

-- the source that the route prefers, if the packet has none and came in by `lo`
abbrev pub preferred : Packet → Option Addr → Option Addr
preferred packet src = if packet.src.0 == 0 && bytes_eq packet.iif (codes "lo") then src else None

-- the mark, except for 0
abbrev pub mark_field : Packet → Option Member
mark_field packet = number_field (codes "mark") (if packet.mark == 0 then None else Some packet.mark)

-- the interface that it came in by, except for `lo`
abbrev pub iif_field : Packet → Option Member
iif_field packet = dev_field (codes "iif") (if bytes_eq packet.iif (codes "lo") then None else Some packet.iif)

-- the packet goes by this route
abbrev pub route_answer : Packet → Route → List (Option Member)
route_answer packet route =
    type_field route.kind
    ∷ target_field packet
    ∷ from_field packet
    ∷ gateway_field route.via
    ∷ route_dev_field None route.dev
    ∷ table_field None route.table
    ∷ prefsrc_field (preferred packet route.src)
    ∷ empty_field (codes "flags")
    ∷ mark_field packet
    ∷ empty_field (codes "cache")
    ∷ iif_field packet
    ∷ []

-- a rule drops the packet, as a route of this type would
abbrev pub drop_answer : Packet → Action → List (Option Member)
drop_answer packet action =
    text_field (codes "type") (failure action)
    ∷ target_field packet
    ∷ from_field packet
    ∷ empty_field (codes "flags")
    ∷ mark_field packet
    ∷ empty_field (codes "cache")
    ∷ iif_field packet
    ∷ []

-- one object, or none if no rule decides
abbrev pub answers : Packet → Verdict → List Json
answers packet (verdict.Route priority route) = object_of (route_answer packet route) ∷ []
answers packet (verdict.RuleSays priority action) = object_of (drop_answer packet action) ∷ []
answers packet verdict.NoRoute = []
