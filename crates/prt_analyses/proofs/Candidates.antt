-- If none of the candidates is a hit, that is to the prefix and matched by the rule, no packet is one.
use Rattle.std.proofs.Common.{◌≡◌, ◌⊎◌, inl, inr, ℕ, ◌+◌, ◌-◌, ◌^◌, ◌<◌, ◌≤◌, Bool, true, false, not, ◌&&◌, cond, Option, Some, None, refl, sym, ap, ◌∙◌, arith, find}
use Rattle.std.specs.List.{AllByRecursion as Each}
use Rattle.std.specs.Option.{MatchOption}
use Rattle.std.proofs.lemmas.Bool.Decides.{nat_tests}
use Rattle.prt_addr.specs.Block.{Block}
use Rattle.prt_addr.specs.Prefix.{contains}
use Rattle.prt_addr.specs.Sound.{IsPrefix}
use Rattle.prt_addr.proofs.Ranges.{contains_from, contains_tells}
use Rattle.std.proofs.lemmas.Nat.{pow_pos}
use Rattle.prt_rule.specs.Rule.{matches, selects}
use Rattle.prt_rule.specs.declared.packet.Packet.{Packet}
use Rattle.prt_rule.specs.declared.rule.Rule.{Rule}
use Rattle.prt_partition.specs.Classes.{IsPacket}
use Rattle.prt_analyses.specs.Unused.Steps.{candidates, is_hit, last_of, named_packet}
use Rattle.prt_analyses.specs.Unused.{MatchesNone}
use Rattle.prt_analyses.proofs.Finds.{both_true, found, none_found}
use Rattle.prt_analyses.proofs.Prefixes.{has_between, has_its_bits, has_longer}
use Rattle.prt_analyses.proofs.Selectors.{Selects, parts_of_selects, selects_by_parts, takes_all_interfaces, takes_all_marks, takes_named_interface, takes_named_mark}

-- a packet to the prefix is a hit if the rule matches it
unmatched : (rule : Rule) (prefix : Block) (packet : Packet) → contains prefix packet.dst ≡ true → is_hit rule prefix packet ≡ false → matches rule packet ≡ false
unmatched rule prefix packet here miss = ap (λ b. b && matches rule packet) (sym here) ∙ miss

abbrev NoneHit : Rule → Block → Type 0
NoneHit rule prefix = Each (λ packet. is_hit rule prefix packet ≡ false) (candidates rule prefix)

-- ---- rules that aren't inverted

matches_selected : (rule : Rule) (packet : Packet) → rule.inverted ≡ false → matches rule packet ≡ selects rule packet
matches_selected rule packet plain = ap (λ b. cond b (not (selects rule packet)) (selects rule packet)) plain

-- the selector takes the packet that it names, to each of its destinations
selects_named : (rule : Rule) (addr : ℕ) → contains rule.to (record { 0 = addr }) ≡ true → selects rule (named_packet rule addr) ≡ true
selects_named rule addr here = selects_by_parts rule (named_packet rule addr) (record {
  src = has_its_bits rule.from;
  dst = here;
  iif = takes_named_interface rule.iif _;
  mark = takes_named_mark rule.mark;
})

-- so it takes none to the prefix, if the one to this address of the prefix is no hit
not_here : (rule : Rule) (prefix : Block) (addr : ℕ) → rule.inverted ≡ false → contains prefix (record { 0 = addr }) ≡ true → contains rule.to (record { 0 = addr }) ≡ true → is_hit rule prefix (named_packet rule addr) ≡ false → ⊥
not_here rule prefix addr plain here there miss =
    let e : false ≡ true = sym (unmatched rule prefix (named_packet rule addr) here miss) ∙ matches_selected rule (named_packet rule addr) plain ∙ selects_named rule addr there in
    absurd cc

-- a destination in both prefixes
no_meeting : (rule : Rule) (prefix : Block) (addr : ℕ) → rule.inverted ≡ false → NoneHit rule prefix → contains prefix (record { 0 = addr }) ≡ true → contains rule.to (record { 0 = addr }) ≡ true → ⊥
no_meeting rule prefix addr plain none here there = by (ordered rule.to.len prefix.len)
  where
    ordered : (m n : ℕ) → (m ≤ n) ⊎ (n ≤ m)
    ordered m n = grind (arith, nat_tests)

    by : (rule.to.len ≤ prefix.len) ⊎ (prefix.len ≤ rule.to.len) → ⊥
    by (inl wider) = not_here rule prefix prefix.bits plain (has_its_bits prefix) (has_longer rule.to prefix addr wider there here) none.0
    by (inr longer) = not_here rule prefix rule.to.bits plain (has_longer prefix rule.to addr longer here there) (has_its_bits rule.to) none.1.0

none_selected : (rule : Rule) (prefix : Block) → rule.inverted ≡ false → NoneHit rule prefix → (packet : Packet) → contains prefix packet.dst ≡ true → (b : Bool) → selects rule packet ≡ b → b ≡ false
none_selected rule prefix plain none packet here false is = refl
none_selected rule prefix plain none packet here true is = absurd (no_meeting rule prefix packet.dst.0 plain none here (parts_of_selects rule packet is).dst)

-- ---- rules that are inverted

matches_others : (rule : Rule) (packet : Packet) → rule.inverted ≡ true → matches rule packet ≡ not (selects rule packet)
matches_others rule packet inverted = ap (λ b. cond b (not (selects rule packet)) (selects rule packet)) inverted

taken : (b : Bool) → not b ≡ false → b ≡ true
taken true e = refl
taken false e = absurd cc

-- the selector takes each packet to the prefix that is no hit
selected : (rule : Rule) (prefix : Block) (packet : Packet) → rule.inverted ≡ true → contains prefix packet.dst ≡ true → is_hit rule prefix packet ≡ false → Selects rule packet
selected rule prefix packet inverted here miss =
    parts_of_selects rule packet (taken (selects rule packet) (sym (matches_others rule packet inverted) ∙ unmatched rule prefix packet here miss))

-- the last address of the prefix is one of it, and the others are before it
last_is_in : (prefix : Block) → IsPrefix prefix → contains prefix (record { 0 = last_of prefix }) ≡ true
last_is_in prefix is =
    let some : 0 < 2 ^ (32 - prefix.len) = pow_pos (32 - prefix.len) in
    contains_from prefix (last_of prefix) is (omega arith) (omega arith)

upto_last : (prefix : Block) (addr : ℕ) → IsPrefix prefix → contains prefix (record { 0 = addr }) ≡ true → (prefix.bits ≤ addr) × (addr ≤ last_of prefix)
upto_last prefix addr is here =
    let bounds : (prefix.bits ≤ addr) × (addr < prefix.bits + 2 ^ (32 - prefix.len)) = contains_tells prefix addr is here in
    (omega arith, omega arith)

-- if no candidate is a hit, it takes every packet to the prefix
all_selected : (rule : Rule) (prefix : Block) → IsPrefix prefix → rule.inverted ≡ true → NoneHit rule prefix → (packet : Packet) → IsPacket packet → contains prefix packet.dst ≡ true → selects rule packet ≡ true
all_selected rule prefix is inverted none packet one here =
    let first : contains prefix (record { 0 = prefix.bits }) ≡ true = has_its_bits prefix in
    let plain = selected rule prefix _ inverted first none.1.1.0 in
    let from_last = selected rule prefix _ inverted first none.1.1.1.0 in
    let by_other = selected rule prefix _ inverted first none.1.1.1.1.0 in
    let marked = selected rule prefix _ inverted first none.1.1.1.1.1.0 in
    let to_last = selected rule prefix _ inverted (last_is_in prefix is) none.1.1.1.1.1.1.0 in
    let bounds = upto_last prefix packet.dst.0 is here in
    let fits : packet.src.0 < 2 ^ 32 = one.src in
    selects_by_parts rule packet (record {
      src = has_between rule.from 0 packet.src.0 4294967295 (omega arith) (omega arith) plain.src from_last.src;
      dst = has_between rule.to prefix.bits packet.dst.0 (last_of prefix) bounds.0 bounds.1 plain.dst to_last.dst;
      iif = takes_all_interfaces rule.iif plain.iif by_other.iif packet.iif;
      mark = takes_all_marks rule.mark marked.mark packet.mark;
    })

-- ---- both

by_kind : (rule : Rule) (prefix : Block) (b : Bool) → rule.inverted ≡ b → IsPrefix prefix → NoneHit rule prefix → MatchesNone prefix rule
by_kind rule prefix true inverted is none packet one here = matches_others rule packet inverted ∙ ap not (all_selected rule prefix is inverted none packet one here)
by_kind rule prefix false plain is none packet one here = matches_selected rule packet plain ∙ none_selected rule prefix plain none packet here (selects rule packet) refl

-- the first hit among the candidates, or no packet is one
pub hit_or_none : (rule : Rule) (prefix : Block) (o : Option Packet) → IsPrefix prefix → o ≡ find (is_hit rule prefix) (candidates rule prefix) → MatchOption o (MatchesNone prefix rule) (λ packet. (contains prefix packet.dst ≡ true) × (matches rule packet ≡ true))
hit_or_none rule prefix None is e = by_kind rule prefix rule.inverted refl is (none_found (is_hit rule prefix) (candidates rule prefix) (sym e))
hit_or_none rule prefix (Some packet) is e = both_true (contains prefix packet.dst) (matches rule packet) (found (is_hit rule prefix) (candidates rule prefix) packet (sym e)).0
