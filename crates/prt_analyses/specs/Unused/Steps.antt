-- What the parts of the program compute.
use Rattle.std.specs.Prelude.{ℕ, ◌≡◌, ◌+◌, ◌-◌, ◌^◌, Bool, true, false, not, ◌&&◌, ◌==◌, List, [], ◌∷◌, find, flat_map, map, Option, Some, None}
use Rattle.std.specs.Prelude.{option_map, unwrap_or, bit_xor, codes, slice_set}
use Rattle.std.specs.List.{Contains, AllByRecursion as Each, position}
use Rattle.prt_addr.specs.Block.{Block}
use Rattle.prt_addr.specs.Prefix.{contains}
use Rattle.prt_addr.specs.Word.{Word}
use Rattle.prt_route.specs.declared.route.Route.{Route}
use Rattle.prt_rule.specs.Rule.{matches}
use Rattle.prt_rule.specs.Same.{is_same_action}
use Rattle.prt_rule.specs.declared.packet.Packet.{Packet}
use Rattle.prt_rule.specs.declared.rule.Action.TheVariants.{Lookup}
use Rattle.prt_rule.specs.declared.rule.Mark.{Mark}
use Rattle.prt_rule.specs.declared.rule.Rule.{Rule}
use Rattle.prt_trie.specs.Table.{has_same_key}
use Rattle.prt_version.specs.Select.{select, suppresses}
use Rattle.prt_version.specs.State.{State}
use Rattle.prt_version.specs.declared.answer.Verdict.{Verdict}
use Rattle.prt_version.specs.declared.answer.Verdict.TheVariants as verdict
use Rattle.prt_partition.specs.Classes.{IsPacket}
use Rattle.prt_partition.specs.Cuts.{AreAlike, from, to}
use Rattle.prt_analyses.specs.declared.unused.report.Example.{Example}
use Rattle.prt_analyses.specs.declared.unused.report.RuleReason.{RuleReason}
use Rattle.prt_analyses.specs.declared.unused.report.RuleReason.TheVariants.{MatchesNothing, Matches}
use Rattle.prt_analyses.specs.declared.unused.report.UnusedRoute.{UnusedRoute}
use Rattle.prt_analyses.specs.declared.unused.report.UnusedRule.{UnusedRule}
use Rattle.prt_analyses.specs.declared.unused.used.Used.{Used}
use Rattle.prt_analyses.specs.Unused.{IsRouteReason, routes_of}

-- ---- the place of the rule that decides a packet, and of the route that it gets

-- the rule looks up the table
abbrev pub is_lookup_of : ℕ → Rule → Bool
is_lookup_of table rule = is_same_action rule.action (Lookup table)

-- the rule matches the packet and does what the verdict says: the first such rule decides the packet that gets the verdict
abbrev pub agrees : Packet → Verdict → Rule → Bool
agrees packet (verdict.Route priority route) rule =
    rule.priority == priority && matches rule packet && is_lookup_of route.table rule && not (suppresses rule.suppress route)
agrees packet (verdict.RuleSays priority action) rule = rule.priority == priority && matches rule packet && is_same_action rule.action action
agrees packet verdict.NoRoute rule = false

abbrev pub rule_place : State → Packet → Option ℕ
rule_place state packet = position (agrees packet (select state packet)) state.rules

abbrev pub place_of_key : List Route → Route → Option ℕ
place_of_key routes route = position (λ other. has_same_key other route) routes

abbrev pub place_by : List Route → Verdict → Option ℕ
place_by routes (verdict.Route priority route) = place_of_key routes route
place_by routes _ = None

abbrev pub route_place : State → Packet → Option ℕ
route_place state packet = place_by state.routes (select state packet)

-- ---- marks

-- the flag at the place is set, if there is a place
abbrev pub mark_at : List Bool → Option ℕ → List Bool
mark_at flags None = flags
mark_at flags (Some place) = slice_set flags place true

-- the places of all these packets are marked
abbrev pub marked : (Packet → Option ℕ) → List Bool → List Packet → List Bool
marked place flags [] = flags
marked place flags (packet ∷ packets) = marked place (mark_at flags (place packet)) packets

abbrev pub packet_by : ℕ → ℕ → Word → ℕ → Packet
packet_by dst src iif mark = record { dst = record { 0 = dst }; src = record { 0 = src }; iif = iif; mark = mark }

-- the packet at each of these destinations
abbrev pub packets_to : List ℕ → Packet → List Packet
packets_to starts class = map (to class) starts

abbrev pub all_packets : List ℕ → List Packet → List Packet
all_packets starts classes = flat_map (packets_to starts) classes

-- those that aren't marked
abbrev pub unmarked : {X : Type 0} → List X → List Bool → List X
unmarked [] flags = []
unmarked (x ∷ xs) [] = x ∷ unmarked xs []
unmarked (x ∷ xs) (true ∷ flags) = unmarked xs flags
unmarked (x ∷ xs) (false ∷ flags) = x ∷ unmarked xs flags

-- ---- packets that represent all

-- for each packet there is one of these that every rule and every route takes alike
abbrev pub AreSamples : State → List Packet → Type 0
AreSamples state samples = (packet : Packet) → IsPacket packet → (sample : Packet) × Contains samples sample × AreAlike state packet sample

-- samples, and which rules decide one of them and which routes one of them gets
pub record IsUse (state : State) (all : List Packet) (used : Used) : Type 0 where
  pub packets : Each IsPacket all
  pub samples : AreSamples state all
  pub rules : used.rules.items ≡ marked (rule_place state) (map (λ rule. false) state.rules) all
  pub routes : used.routes.items ≡ marked (route_place state) (map (λ route. false) state.routes) all

abbrev pub HasUse : State → Used → Type 0
HasUse state used = (samples : List Packet) × IsUse state samples used

-- ---- reasons

-- a packet to this address that has what the selector of the rule names, comes in by lo if it names no interface, and has
-- the mark 0 if it names no mark
abbrev pub named_packet : Rule → ℕ → Packet
named_packet rule addr = record {
  dst = record { 0 = addr };
  src = record { 0 = rule.from.bits };
  iif = unwrap_or rule.iif (codes "lo");
  mark = unwrap_or (option_map (λ (mark : Mark). mark.mark) rule.mark) 0;
}

abbrev pub example_of : State → Packet → Example
example_of state packet = record { packet = packet; verdict = select state packet }

-- the packet that the selector names, or the first of these, that the rule matches
abbrev pub matched_packet : List Packet → Rule → Option Packet
matched_packet packets rule = find (matches rule) (named_packet rule rule.to.bits ∷ packets)

abbrev pub rule_reason_by : State → Option Packet → RuleReason
rule_reason_by state None = MatchesNothing
rule_reason_by state (Some packet) = Matches (example_of state packet)

abbrev pub unused_rule : State → List Packet → Rule → UnusedRule
unused_rule state packets rule = record { rule = rule; reason = rule_reason_by state (matched_packet packets rule) }

-- these routes, each with a reason that is so
abbrev pub AreExplained : State → List Route → List UnusedRoute → Type 0
AreExplained state routes unused = (routes_of unused ≡ routes) × Each (λ (one : UnusedRoute). IsRouteReason state one.route one.reason) unused

-- ---- packets to a prefix

-- a packet to this address from 0.0.0.0 that comes in by lo and has the mark 0
abbrev pub plain_packet : ℕ → Packet
plain_packet addr = packet_by addr 0 (codes "lo") 0

-- the last address of the prefix
abbrev pub last_of : Block → ℕ
last_of prefix = prefix.bits + (2 ^ (32 - prefix.len) - 1)

-- differs from the mark in each bit that is compared
abbrev pub other_mark : Option Mark → ℕ
other_mark None = 0
other_mark (Some mark) = bit_xor mark.mark mark.mask

-- the named packet, a plain one, and some that differ from the named packet in one part
abbrev pub variants : Packet → Rule → Block → List Packet
variants named rule prefix =
    named
    ∷ to named rule.to.bits
    ∷ plain_packet prefix.bits
    ∷ from named 4294967295
    ∷ record named { iif = codes "eth0" }
    ∷ record named { mark = other_mark rule.mark }
    ∷ to named (last_of prefix)
    ∷ []

abbrev pub candidates : Rule → Block → List Packet
candidates rule prefix = variants (named_packet rule prefix.bits) rule prefix

-- the packet is to the prefix, and the rule matches it
abbrev pub is_hit : Rule → Block → Packet → Bool
is_hit rule prefix packet = contains prefix packet.dst && matches rule packet
