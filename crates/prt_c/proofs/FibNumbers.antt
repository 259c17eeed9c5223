-- One destination more that has its number.
use Rattle.std.proofs.Common.{◌≡◌, ℕ, ◌+◌, ◌<◌, ◌≤◌, List, length, sym, ◌∙◌, subst, arith, ⊎_elim, slice_index}
use Rattle.std.proofs.lemmas.Bool.{cases_lt}
use Rattle.std.proofs.lemmas.List.{get_or-set_same, get_or-set_other, length-set}
use Rattle.std.specs.Prelude.{slice_set}
use Rattle.prt_fib.specs.Fib.{Table}
use Rattle.prt_c.specs.Fibs.{AreNumbersIn, IsNumberOf}

pub one_number : (table : Table) (destinations before after : List ℕ) (k number : ℕ) → k < length destinations → k < length before → AreNumbersIn table destinations before after k → IsNumberOf table (slice_index destinations k) number →
    AreNumbersIn table destinations before (slice_set after k number) (k + 1)
one_number table destinations before after k number inside room done is =
    let in_after : k < length after = let size = done.size in omega (arith, size, room) in
    record {
      size = length-set after k number ∙ done.size;
      within = omega arith;
      numbers = λ j below.
          ⊎_elim
          (λ (less : j < k). subst (IsNumberOf table (slice_index destinations j)) (sym (get_or-set_other after k j number 0 (λ same. absurd (omega arith)))) (done.numbers j less))
          (λ (more : k ≤ j).
          let same : k ≡ j = omega arith in
          subst (λ i. IsNumberOf table (slice_index destinations i) (slice_index (slice_set after k number) i)) same
          (subst (IsNumberOf table (slice_index destinations k)) (sym (get_or-set_same after k number 0 in_after)) is))
          (cases_lt j k);
      others = λ j above. get_or-set_other after k j number 0 (λ same. absurd (omega arith)) ∙ done.others j (omega arith);
    }
