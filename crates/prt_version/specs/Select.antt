-- What becomes of a packet: ip-rule(8), ip-route(8).
use Rattle.std.specs.Prelude.{ℕ, Bool, true, false, not, ◌&&◌, nat_le, if◌then◌else◌, List, filter, Option, Some, None, is_some, option_map}
use Rattle.std.specs.Prelude.{option_and_then, unwrap_or}
use Rattle.prt_addr.specs.Order.{first_by}
use Rattle.prt_addr.specs.Word.{keep}
use Rattle.prt_route.specs.Best.{best}
use Rattle.prt_route.specs.RouteChoice.{is_same_kind}
use Rattle.prt_route.specs.declared.kind.Kind.{Kind}
use Rattle.prt_route.specs.declared.kind.Kind.TheVariants.{Unicast, Throw}
use Rattle.prt_route.specs.declared.route.Route.{Route}
use Rattle.prt_rule.specs.Rule.{is_before, matches}
use Rattle.prt_rule.specs.declared.packet.Packet.{Packet}
use Rattle.prt_rule.specs.declared.rule.Action.{Action}
use Rattle.prt_rule.specs.declared.rule.Action.TheVariants.{Lookup}
use Rattle.prt_rule.specs.declared.rule.Rule.{Rule}
use Rattle.prt_version.specs.State.{State}
use Rattle.prt_version.specs.declared.answer.Verdict.{Verdict}
use Rattle.prt_version.specs.declared.answer.Verdict.TheVariants as verdict

abbrev pub is_throw : Kind → Bool
is_throw Throw = true
is_throw kind = false

-- what a lookup in a table returns: its best route for the packet, if that is no throw route
abbrev pub table_lookup : ℕ → List Route → Packet → Option Route
table_lookup table routes packet = keep (λ route. not (is_throw route.kind)) (best routes table packet.dst)

-- a rule of this length says nothing if it finds a unicast route whose prefix is of that length or less
abbrev pub suppresses : Option ℕ → Route → Bool
suppresses None route = false
suppresses (Some len) route = is_same_kind Unicast route.kind && nat_le route.prefix.len len

-- a lookup returns the route that it finds, if it finds one and does not suppress it, and any other action is itself the verdict
abbrev pub verdict_by : Action → Option ℕ → ℕ → List Route → Packet → Option Verdict
verdict_by (Lookup table) suppress priority routes packet =
    option_map (λ route. verdict.Route priority route) (keep (λ route. not (suppresses suppress route)) (table_lookup table routes packet))
verdict_by action suppress priority routes packet = Some (verdict.RuleSays priority action)

-- what one rule says of a packet, if it decides
abbrev pub decision : Rule → List Route → Packet → Option Verdict
decision rule routes packet = if matches rule packet then verdict_by rule.action rule.suppress rule.priority routes packet else None

-- the first by priority, then by id, of the rules that decide
abbrev pub decider : List Rule → List Route → Packet → Option Rule
decider rules routes packet = first_by is_before (filter (λ rule. is_some (decision rule routes packet)) rules)

-- what that rule says
abbrev pub verdict_of : List Rule → List Route → Packet → Verdict
verdict_of rules routes packet = unwrap_or (option_and_then (λ rule. decision rule routes packet) (decider rules routes packet)) verdict.NoRoute

abbrev pub select : State → Packet → Verdict
select state packet = verdict_of state.rules state.routes packet
