-- The numbers of starts, one after the other.
use Rattle.std.proofs.Common.{◌≡◌, ◌⊎◌, inl, inr, ℕ, ◌+◌, ◌^◌, ◌<◌, ◌≤◌, List, [], ◌∷◌, ◌++◌, length, take, Some, refl, sym, ap, ◌∙◌, subst, arith, ⊎_elim, slice_index, length-append}
use Rattle.std.specs.List.{slice_get}
use Rattle.std.proofs.Math.Seq.{get_or-append_seam}
use Rattle.std.proofs.lemmas.List.{get_or_append_left, take_more}
use Rattle.std.proofs.lemmas.Bool.{cases_lt}
use Rattle.std.proofs.lemmas.Option.{slice_get_within}
use Rattle.prt_refusals.specs.declared.refusal.Refusal.{Refusal}
use Rattle.prt_refusals.specs.declared.refusal.Refusal.TheVariants.{Full, NoMemory}
use Rattle.prt_rule.specs.declared.packet.Packet.{Packet}
use Rattle.prt_version.specs.State.{State}
use Rattle.prt_partition.specs.declared.sameness.Outcome.{Outcome}
use Rattle.prt_fib.specs.Fib.{HasTooMany, outcome_to}
use Rattle.prt_fib.specs.Numbers.{AreNumbered, IsLeftOut, IsNumber}
use Rattle.prt_fib.proofs.Linked.{distinct_more, slice_get_left, slice_get_seam}

pub number_same : (outcomes : List Outcome) (outcome : Outcome) (number : ℕ) → slice_get outcomes number ≡ Some outcome → IsNumber outcomes outcome number outcomes
number_same outcomes outcome number at = record { longer = omega arith; keeps = λ k lt. refl; told = at; origin = λ k from to. absurd (omega arith) }

pub number_new : (outcomes made : List Outcome) (outcome : Outcome) (number : ℕ) → made ≡ outcomes ++ outcome ∷ [] → number ≡ length outcomes → IsNumber outcomes outcome number made
number_new outcomes made outcome number is last =
    let more : length (outcomes ++ outcome ∷ []) ≡ length outcomes + 1 = length-append outcomes (outcome ∷ []) in
    let all : length made ≡ length outcomes + 1 = ap length is ∙ more in
    record {
      longer = omega arith;
      keeps = λ k lt. ap (λ os. slice_get os k) is ∙ slice_get_left outcomes (outcome ∷ []) k lt;
      told = ap (slice_get made) last ∙ ap (λ os. slice_get os (length outcomes)) is ∙ slice_get_seam outcomes outcome;
      origin = λ k from to. let same : k ≡ length outcomes = omega arith in ap (slice_get made) same ∙ ap (λ os. slice_get os (length outcomes)) is ∙ slice_get_seam outcomes outcome;
    }

module _ (state : State) (packet : Packet) where
  pub numbered_none : AreNumbered state packet [] [] []
  numbered_none = record { same = refl; told = λ k lt. absurd (omega arith); occur = λ k lt. absurd (omega arith) }

  module _ (starts numbers : List ℕ) (old : List Outcome) (is : AreNumbered state packet starts numbers old) (start : ℕ) (fits : start < 2 ^ 32) where
    one_more : (number : ℕ) (new : List Outcome) → IsNumber old (outcome_to state packet start) number new → AreNumbered state packet (starts ++ start ∷ []) (numbers ++ number ∷ []) new
    one_more number new its =
        let same = is.same in
        let more_starts : length (starts ++ start ∷ []) ≡ length starts + 1 = length-append starts (start ∷ []) in
        let more_numbers : length (numbers ++ number ∷ []) ≡ length numbers + 1 = length-append numbers (number ∷ []) in
        record {
          same = omega arith;
          told = λ k lt.
              ⊎_elim
              (λ (before : k < length starts).
              let known = is.told k before in
              ap (slice_get new) (get_or_append_left numbers (number ∷ []) 0 k (omega arith))
              ∙ its.keeps (slice_index numbers k) (slice_get_within old (slice_index numbers k) (outcome_to state packet (slice_index starts k)) known)
              ∙ known
              ∙ ap (λ n. Some (outcome_to state packet n)) (sym (get_or_append_left starts (start ∷ []) 0 k before)))
              (λ (after : length starts ≤ k).
              let e : k ≡ length starts = omega arith in
              let f : k ≡ length numbers = omega arith in
              ap (slice_get new) (ap (slice_index (numbers ++ number ∷ [])) f ∙ get_or-append_seam numbers number [] 0)
              ∙ its.told
              ∙ ap (λ n. Some (outcome_to state packet n)) (sym (ap (slice_index (starts ++ start ∷ [])) e ∙ get_or-append_seam starts start [] 0)))
              (cases_lt k (length starts));
          occur = λ k lt.
              ⊎_elim
              (λ (known : k < length old). let at = is.occur k known in (at.0, at.1, its.keeps k known ∙ at.2))
              (λ (unknown : length old ≤ k). (start, fits, its.origin k unknown lt))
              (cases_lt k (length old));
        }

    too_many : IsLeftOut old (outcome_to state packet start) → HasTooMany state packet
    too_many left =
        let outcome : Outcome = outcome_to state packet start in
        let all : length (old ++ outcome ∷ []) ≡ length old + 1 = length-append old (outcome ∷ []) in
        let many = left.many in (
          old ++ outcome ∷ [],
          record {
            many = omega arith;
            distinct = distinct_more old outcome left.distinct left.absent;
            occur = (one_more (length old) (old ++ outcome ∷ []) (number_new old (old ++ outcome ∷ []) outcome (length old) refl refl)).occur;
          },
        )

  -- the start at a place is numbered after those before it
  pub numbered_next : (starts numbers : List ℕ) (i number : ℕ) (old new : List Outcome) → i < length starts → AreNumbered state packet (take i starts) numbers old → slice_index starts i < 2 ^ 32 →
      IsNumber old (outcome_to state packet (slice_index starts i)) number new → AreNumbered state packet (take (i + 1) starts) (numbers ++ number ∷ []) new
  numbered_next starts numbers i number old new lt is fits its =
      subst (λ s. AreNumbered state packet s (numbers ++ number ∷ []) new) (sym (take_more starts i 0 lt)) (one_more (take i starts) numbers old is (slice_index starts i) fits number new its)

  -- why a start has no number
  pub reason_by : (starts numbers : List ℕ) (start : ℕ) (old : List Outcome) (reason : Refusal) → AreNumbered state packet starts numbers old → start < 2 ^ 32 →
      ((reason ≡ Full) × IsLeftOut old (outcome_to state packet start)) ⊎ (reason ≡ NoMemory) → ((reason ≡ Full) × HasTooMany state packet) ⊎ (reason ≡ NoMemory)
  reason_by starts numbers start old reason is fits (inl full) = inl (full.0, too_many starts numbers old is start fits full.1)
  reason_by starts numbers start old reason is fits (inr none) = inr none
