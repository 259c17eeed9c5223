-- What a claim says of the packets that it takes, and when it holds.
pub mod Reading
pub mod BreachText
pub mod Checking
pub mod Example
use Rattle.std.specs.Prelude.{◌≡◌, ℕ, ◌^◌, ◌<◌, Bool, true, false, not, ◌&&◌, ◌==◌, if◌then◌else◌, List, ◌∷◌, map, Option, Some, None, unwrap_or, bytes_eq}
use Rattle.std.specs.List.{list_any, AllByRecursion as Each}
use Rattle.std.specs.Option.{option_eq, option_to_list}
use Rattle.prt_addr.specs.Block.{Block}
use Rattle.prt_addr.specs.Prefix.{contains, everything}
use Rattle.prt_partition.specs.Classes.{IsPacket}
use Rattle.prt_partition.specs.Cuts.{to}
use Rattle.prt_partition.specs.Sameness.{outcome_of}
use Rattle.prt_partition.specs.declared.destinations.Span.{Span}
use Rattle.prt_route.specs.RouteChoice.{is_same_addr, is_same_kind}
use Rattle.prt_rule.specs.Rule.{takes_interface, takes_mark}
use Rattle.prt_rule.specs.declared.packet.Packet.{Packet}
use Rattle.prt_rule.specs.declared.rule.Action.TheVariants.{Blackhole}
use Rattle.prt_rule.specs.declared.rule.Mark.{Mark}
use Rattle.prt_rule.specs.declared.rule.Rule.{Rule}
use Rattle.prt_version.specs.Select.{select}
use Rattle.prt_version.specs.State.{State}
use Rattle.prt_version.specs.declared.answer.Verdict.{Verdict}
use Rattle.prt_version.specs.declared.answer.Verdict.TheVariants as verdict
use Rattle.prt_analyses.specs.declared.claims.claim.Claim.{Claim}
use Rattle.prt_analyses.specs.declared.claims.claim.Expected.{Expected}
use Rattle.prt_analyses.specs.declared.claims.claim.Expected.TheVariants as expected
use Rattle.prt_analyses.specs.declared.claims.selector.PacketSelector.{PacketSelector}

-- ---- which packets it takes

-- the prefix, or 0.0.0.0/0
abbrev pub block_of : Option Block → Block
block_of prefix = unwrap_or prefix everything

-- the mark doesn't agree with the one that is given, if one is
abbrev pub avoids_mark : Option Mark → ℕ → Bool
avoids_mark None mark = true
avoids_mark (Some given) mark = not (takes_mark (Some given) mark)

-- all that the selector names holds of the packet
abbrev pub selects : PacketSelector → Packet → Bool
selects selector packet =
    contains (block_of selector.from) packet.src
    && contains (block_of selector.to) packet.dst
    && takes_interface selector.iif packet.iif
    && takes_mark selector.mark packet.mark
    && avoids_mark selector.not_mark packet.mark

abbrev pub takes : Claim → Packet → Bool
takes claim packet = selects claim.selector packet

-- ---- what meets it

abbrev pub is_of_table : Verdict → ℕ → Bool
is_of_table (verdict.Route priority route) table = route.table == table
is_of_table other table = false

abbrev pub is_none : Verdict → Bool
is_none verdict.NoRoute = true
is_none other = false

abbrev pub is_outcome : Verdict → Expected → Bool
is_outcome v (expected.Dev name) = option_eq bytes_eq (outcome_of v).dev (Some name)
is_outcome v (expected.Via addr) = option_eq is_same_addr (outcome_of v).via (Some addr)
is_outcome v (expected.Table table) = is_of_table v table
is_outcome v (expected.Kind kind) = option_eq is_same_kind (outcome_of v).kind (Some kind)
is_outcome v expected.NoRoute = is_none v

-- the verdict has one of the outcomes; after `not` it has none of them
abbrev pub is_met : Claim → Verdict → Bool
is_met claim v = if claim.is_negated then not (list_any (is_outcome v) claim.outcomes.items) else list_any (is_outcome v) claim.outcomes.items

-- ---- whether it holds

-- a packet that the claim takes and that doesn't meet it; if there is none, all packets that it takes meet it
abbrev pub IsBreach : State → Claim → Option Packet → Type 0
IsBreach state claim None = (packet : Packet) → IsPacket packet → takes claim packet ≡ true → is_met claim (select state packet) ≡ true
IsBreach state claim (Some packet) = IsPacket packet × (takes claim packet ≡ true) × (is_met claim (select state packet) ≡ false)

-- ---- how it is found

-- a rule that matches what the selector names, with this mark in place of its own
abbrev pub rule_of : PacketSelector → Option Mark → Rule
rule_of selector mark = record {
  id = 0;
  priority = 0;
  inverted = false;
  from = block_of selector.from;
  to = block_of selector.to;
  iif =
      selector.iif;
  mark = mark;
  action = Blackhole;
  suppress = None;
}

-- Packets that each of these rules takes alike are selected alike, so packets are divided by them too.
abbrev pub rules_of : PacketSelector → List Rule
rules_of selector = rule_of selector selector.mark ∷ map (λ mark. rule_of selector (Some mark)) (option_to_list selector.not_mark)

-- the claim takes the packet, which doesn't meet it
abbrev pub is_breach : State → Claim → Packet → Bool
is_breach state claim packet = takes claim packet && not (is_met claim (select state packet))

-- the same for the packets of this source, interface and mark, to all destinations
abbrev pub IsBreachOf : State → Claim → Packet → Option Packet → Type 0
IsBreachOf state claim class None = (addr : ℕ) → addr < 2 ^ 32 → takes claim (to class addr) ≡ true → is_met claim (select state (to class addr)) ≡ true
IsBreachOf state claim class (Some packet) = IsPacket packet × (takes claim packet ≡ true) × (is_met claim (select state packet) ≡ false)

-- the same for the first destinations of these spans alone
abbrev pub IsBreachAmong : State → Claim → Packet → List Span → Option Packet → Type 0
IsBreachAmong state claim class spans None = Each (λ (span : Span). is_breach state claim (to class span.first.0) ≡ false) spans
IsBreachAmong state claim class spans (Some packet) = IsPacket packet × (takes claim packet ≡ true) × (is_met claim (select state packet) ≡ false)
