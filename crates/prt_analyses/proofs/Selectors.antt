-- What the parts of a selector take.
use Rattle.std.proofs.Common.{◌≡◌, ℕ, Bool, true, false, ◌&&◌, Option, Some, None, refl, sym, ap, ◌∙◌, eq-eqb}
use Rattle.std.specs.Prelude.{bit_and, bit_xor, codes, option_map, unwrap_or}
use Rattle.std.specs.Int.Bits.{and_self, and_zero_l, and_zero_r, xor_assoc, xor_self, xor_zero_l}
use Rattle.std.proofs.lemmas.Bool.{eqb-true}
use Rattle.std.proofs.lemmas.Slice.Eq.{bytes_eq-Decides}
use Rattle.prt_addr.specs.Prefix.{contains}
use Rattle.prt_addr.specs.Word.{Word}
use Rattle.prt_rule.specs.Rule.{selects, takes_interface, takes_mark}
use Rattle.prt_rule.specs.declared.packet.Packet.{Packet}
use Rattle.prt_rule.specs.declared.rule.Mark.{Mark}
use Rattle.prt_rule.specs.declared.rule.Rule.{Rule}
use Rattle.prt_analyses.specs.Unused.Steps.{other_mark}
use Rattle.prt_analyses.proofs.Finds.{both_true}

-- ---- interfaces

-- the one that is named is taken
pub takes_named_interface : (iif : Option Word) (otherwise : Word) → takes_interface iif (unwrap_or iif otherwise) ≡ true
takes_named_interface None otherwise = refl
takes_named_interface (Some name) otherwise = (bytes_eq-Decides name name).1 refl

-- if two are taken, all are
pub takes_all_interfaces : (iif : Option Word) → takes_interface iif (codes "lo") ≡ true → takes_interface iif (codes "eth0") ≡ true → (w : Word) → takes_interface iif w ≡ true
takes_all_interfaces None one other w = refl
takes_all_interfaces (Some name) one other w =
    let same : codes "lo" ≡ codes "eth0" = sym ((bytes_eq-Decides name (codes "lo")).0 one) ∙ (bytes_eq-Decides name (codes "eth0")).0 other in
    absurd (let e : true ≡ false = sym ((bytes_eq-Decides (codes "lo") (codes "eth0")).1 same) in cc)

-- ---- marks

-- the one that is named is taken
pub takes_named_mark : (mark : Option Mark) → takes_mark mark (unwrap_or (option_map (λ (m : Mark). m.mark) mark) 0) ≡ true
takes_named_mark None = refl
takes_named_mark (Some m) = eq-eqb _ 0 (ap (λ n. bit_and n m.mask) (xor_self m.mark) ∙ and_zero_l m.mask)

no_mask : (mark mask : ℕ) → bit_and (bit_xor mark (bit_xor mark mask)) mask ≡ 0 → mask ≡ 0
no_mask mark mask none =
    sym (and_self mask)
    ∙ ap (λ n. bit_and n mask) (sym (xor_zero_l mask) ∙ ap (λ n. bit_xor n mask) (sym (xor_self mark)) ∙ xor_assoc mark mark mask)
    ∙ none

-- if one that differs in each bit that is compared is taken, all are
pub takes_all_marks : (mark : Option Mark) → takes_mark mark (other_mark mark) ≡ true → (n : ℕ) → takes_mark mark n ≡ true
takes_all_marks None other n = refl
takes_all_marks (Some m) other n =
    let none : m.mask ≡ 0 = no_mask m.mark m.mask (eqb-true (bit_and (bit_xor m.mark (bit_xor m.mark m.mask)) m.mask) 0 other) in
    eq-eqb (bit_and (bit_xor m.mark n) m.mask) 0 (ap (bit_and (bit_xor m.mark n)) none ∙ and_zero_r (bit_xor m.mark n))

-- ---- the whole selector

pub record Selects (rule : Rule) (packet : Packet) : Type 0 where
  pub src : contains rule.from packet.src ≡ true
  pub dst : contains rule.to packet.dst ≡ true
  pub iif : takes_interface rule.iif packet.iif ≡ true
  pub mark : takes_mark rule.mark packet.mark ≡ true

pub parts_of_selects : (rule : Rule) (packet : Packet) → selects rule packet ≡ true → Selects rule packet
parts_of_selects rule packet is =
    let three = both_true (contains rule.from packet.src && contains rule.to packet.dst && takes_interface rule.iif packet.iif) (takes_mark rule.mark packet.mark) is in
    let two = both_true (contains rule.from packet.src && contains rule.to packet.dst) (takes_interface rule.iif packet.iif) three.0 in
    let one = both_true (contains rule.from packet.src) (contains rule.to packet.dst) two.0 in
    record { src = one.0; dst = one.1; iif = two.1; mark = three.1 }

all_true : (a b c d : Bool) → a ≡ true → b ≡ true → c ≡ true → d ≡ true → (a && b && c && d) ≡ true
all_true true true true d ha hb hc hd = hd
all_true true true false d ha hb hc hd = absurd cc
all_true true false c d ha hb hc hd = absurd cc
all_true false b c d ha hb hc hd = absurd cc

pub selects_by_parts : (rule : Rule) (packet : Packet) → Selects rule packet → selects rule packet ≡ true
selects_by_parts rule packet h = all_true (contains rule.from packet.src) (contains rule.to packet.dst) (takes_interface rule.iif packet.iif) (takes_mark rule.mark packet.mark) h.src h.dst h.iif h.mark
