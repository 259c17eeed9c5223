-- What differs between two versions, and which packets that can send another way.
use Rattle.std.specs.Prelude.{ℕ, ◌≡◌, ◌^◌, ◌<◌, Bool, false, if◌then◌else◌, List, ◌++◌, filter, flat_map, map}
use Rattle.std.specs.List.{list_any}
use Rattle.prt_addr.specs.Block.{Block}
use Rattle.prt_addr.specs.Prefix.{contains, everything}
use Rattle.prt_addr.specs.declared.addr.Addr.{Addr}
use Rattle.prt_route.specs.declared.route.Route.{Route}
use Rattle.prt_rule.specs.Rule.{matches}
use Rattle.prt_rule.specs.declared.packet.Packet.{Packet}
use Rattle.prt_rule.specs.declared.rule.Rule.{Rule}
use Rattle.prt_version.specs.Select.{select}
use Rattle.prt_version.specs.State.{State}
use Rattle.prt_partition.specs.Cuts.{AreStarts, cuts_of}
use Rattle.prt_partition.specs.declared.differing.Differing.{Differing}

-- ---- rules and routes that differ

abbrev pub without_id : Rule → Rule
without_id rule = record rule { id = 0 }

-- the rules that match the packet, without their ids
abbrev pub matching : Packet → List Rule → List Rule
matching packet rules = map without_id (filter (λ (rule : Rule). matches rule packet) rules)

-- the routes whose prefixes have the address
abbrev pub holding : Addr → List Route → List Route
holding addr routes = filter (λ (route : Route). contains route.prefix addr) routes

-- a packet that none of these rules matches is matched by the same rules before and after
abbrev pub HoldRuleChanges : List Rule → List Rule → List Rule → Type 0
HoldRuleChanges before after rules = (packet : Packet) → list_any (λ (rule : Rule). matches rule packet) rules ≡ false →
    matching packet before ≡ matching packet after

-- an address that no prefix of these routes has is in the prefixes of the same routes before and after
abbrev pub HoldRouteChanges : List Route → List Route → List Route → Type 0
HoldRouteChanges before after routes = (addr : Addr) → list_any (λ (route : Route). contains route.prefix addr) routes ≡ false →
    holding addr before ≡ holding addr after

-- none of the rules matches the packet, and no route has its destination
pub record IsUntouched (by_rules : List Rule) (by_routes : List Route) (packet : Packet) : Type 0 where
  pub rules : list_any (λ (rule : Rule). matches rule packet) by_rules ≡ false
  pub routes : list_any (λ (route : Route). contains route.prefix packet.dst) by_routes ≡ false

-- ---- the destinations that they can reach

abbrev pub has_any : List Block → ℕ → Bool
has_any blocks addr = list_any (λ (block : Block). contains block (record { 0 = addr })) blocks

-- the destinations of packets that a rule can match: an inverted one also matches those that its selector doesn't name
abbrev pub reach_of : Rule → Block
reach_of rule = if rule.inverted then everything else rule.to

-- a packet to none of these blocks is untouched
abbrev pub Confine : List Block → List Rule → List Route → Type 0
Confine blocks rules routes = (packet : Packet) → packet.dst.0 < 2 ^ 32 → has_any blocks packet.dst.0 ≡ false → IsUntouched rules routes packet

-- the cuts of a prefix that are in the blocks
abbrev pub cuts_within : List Block → Block → List ℕ
cuts_within blocks block = filter (has_any blocks) (cuts_of block)

abbrev pub rule_cuts_within : List Block → List Rule → List ℕ
rule_cuts_within blocks rules = flat_map (λ (rule : Rule). cuts_within blocks rule.to) rules

abbrev pub route_cuts_within : List Block → List Route → List ℕ
route_cuts_within blocks routes = flat_map (λ (route : Route). cuts_within blocks route.prefix) routes

-- The cuts of the blocks themselves, and those in the blocks at which an answer of one of two versions can change.
abbrev pub near_cuts : List Block → List Rule → List Rule → List Route → List Route → List ℕ
near_cuts blocks before_rules after_rules before_routes after_routes =
    flat_map cuts_of blocks
    ++ rule_cuts_within blocks before_rules ++ rule_cuts_within blocks after_rules
    ++ route_cuts_within blocks before_routes ++ route_cuts_within blocks after_routes

-- ---- what is found

pub record IsDiffering (before after : State) (differing : Differing) : Type 0 where
  -- every other packet goes the same way
  pub quiet : (packet : Packet) → IsUntouched differing.rules.items differing.routes.items packet → select before packet ≡ select after packet
  -- a packet to none of the blocks is such a packet
  pub confine : Confine differing.blocks.items differing.rules.items differing.routes.items
  -- within the blocks answers change only at these starts
  pub starts : AreStarts (near_cuts differing.blocks.items before.rules after.rules before.routes after.routes) differing.starts.items
