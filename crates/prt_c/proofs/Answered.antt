-- One packet more that is looked up.
use Rattle.std.proofs.Common.{◌≡◌, ◌⊎◌, ℕ, ◌+◌, ◌<◌, ◌≤◌, List, length, Result, Ok, sym, ap, ◌∙◌, arith, inl, inr}
use Rattle.std.proofs.lemmas.Bool.Decides.{eqb_tells}
use Rattle.std.proofs.lemmas.List.{get_or_default, get_or-set_same, get_or-set_other, length-set}
use Rattle.std.specs.Prelude.{slice_index_or, slice_set}
use Rattle.prt_refusals.specs.declared.refusal.Refusal.{Refusal}
use Rattle.prt_c.specs.Many.{AreAnswers}
use Rattle.prt_c.specs.declared.packet.PacketC.{PacketC}

less_or_same : (j k : ℕ) → j < k + 1 → (j < k) ⊎ (j ≡ k)
less_or_same j k below = grind arith

too_low : (j k : ℕ) → k + 1 ≤ j → j ≡ k → ⊥
too_low j k above same = omega (arith, above, same)

pub one_more : {A : Type 0} (told : PacketC → Result A Refusal) (packets : List PacketC) (before after : List A) (k : ℕ) (packet : PacketC) (answer : A)
    → k < length packets → k < length before → AreAnswers told packets before after k → told (slice_index_or packets k packet) ≡ Ok answer
    → AreAnswers told packets before (slice_set after k answer) (k + 1)
one_more told packets before after k packet answer in_packets in_before done found =
    let in_after : k < length after = let size = done.size in omega (arith, size, in_before) in
    record {
      size = length-set after k answer ∙ done.size;
      answers = λ j q b below. elim (eqb_tells j k) [
        | inl same ↦
            ap (λ n. told (slice_index_or packets n q)) same.1
            ∙ ap told (get_or_default packets k q packet in_packets)
            ∙ found
            ∙ ap (λ r. Ok r) (sym (ap (λ n. slice_index_or (slice_set after k answer) n b) same.1 ∙ get_or-set_same after k answer b in_after))
        | inr other ↦
            let ne = other.1 in
            done.answers j q b (elim (less_or_same j k below) [ inl less ↦ less | inr same ↦ absurd (ne same) ])
            ∙ ap (λ r. Ok r) (sym (get_or-set_other after k j answer b ne))
      ];
      others = λ j b above. get_or-set_other after k j answer b (λ same. absurd (too_low j k above same)) ∙ done.others j b (omega (arith, above));
    }
