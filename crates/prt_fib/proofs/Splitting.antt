-- One start more, with the outcome that it had.
use Rattle.std.proofs.Common.{◌≡◌, inl, inr, ℕ, ◌+◌, ◌-◌, ◌<◌, ◌≤◌, List, length, sym, ap, ◌∙◌, subst, arith, ⊎_elim, slice_index}
use Rattle.std.specs.List.{slice_get}
use Rattle.std.specs.List.Sorted.{IsStrictlyIncreasing}
use Rattle.std.proofs.lemmas.Bool.{cases_lt}
use Rattle.std.proofs.lemmas.List.Edits.{get_or-insert_above, get_or-insert_at, get_or-insert_below, length-insert}
use Rattle.prt_rule.specs.declared.packet.Packet.{Packet}
use Rattle.prt_version.specs.State.{State}
use Rattle.prt_partition.specs.declared.sameness.Outcome.{Outcome}
use Rattle.prt_fib.specs.Following.{IsDivided, IsInserted, IsSplit}
use Rattle.prt_fib.specs.Pieces.{AreTold}
use Rattle.prt_fib.specs.Places.{AreStartsFrom, IsPlace, IsStart}
use Rattle.prt_fib.proofs.Finding.{own_place}
use Rattle.prt_fib.proofs.Steady.{told_at}

-- the place of the same number without the start
pub record IsPlaceOf (starts numbers : List ℕ) (addr from number place : ℕ) : Type 0 where
  pub at : IsPlace starts addr place
  pub before : slice_index starts place ≤ from
  pub same : slice_index numbers place ≡ number

module _ (base : ℕ) (starts numbers : List ℕ) (n : ℕ) (new_starts new_numbers : List ℕ) (is : IsInserted base starts numbers n new_starts new_numbers) (same : length numbers ≡ length starts) where
  abbrev place : ℕ
  place = is.place

  within : place < length starts
  within = is.at.within

  pub longer : length new_starts ≡ length starts + 1
  longer = ap length is.starts_are ∙ length-insert starts (place + 1) n (let lt = within in omega arith)

  pub longer_numbers : length new_numbers ≡ length numbers + 1
  longer_numbers = ap length is.numbers_are ∙ length-insert numbers (place + 1) (slice_index numbers place) (let lt = within in omega arith)

  low : (k : ℕ) → k ≤ place → slice_index new_starts k ≡ slice_index starts k
  low k le = ap (λ xs. slice_index xs k) is.starts_are ∙ get_or-insert_below starts (place + 1) n 0 k (omega arith) (let lt = within in omega arith)

  here : slice_index new_starts (place + 1) ≡ n
  here = ap (λ xs. slice_index xs (place + 1)) is.starts_are ∙ get_or-insert_at starts (place + 1) n 0 (let lt = within in omega arith)

  high : (k : ℕ) → place + 1 ≤ k → slice_index new_starts (k + 1) ≡ slice_index starts k
  high k le = ap (λ xs. slice_index xs (k + 1)) is.starts_are ∙ get_or-insert_above starts (place + 1) n 0 k le (let lt = within in omega arith)

  low_number : (k : ℕ) → k ≤ place → slice_index new_numbers k ≡ slice_index numbers k
  low_number k le = ap (λ xs. slice_index xs k) is.numbers_are ∙ get_or-insert_below numbers (place + 1) (slice_index numbers place) 0 k (omega arith) (let lt = within in omega arith)

  here_number : slice_index new_numbers (place + 1) ≡ slice_index numbers place
  here_number = ap (λ xs. slice_index xs (place + 1)) is.numbers_are ∙ get_or-insert_at numbers (place + 1) (slice_index numbers place) 0 (let lt = within in omega arith)

  high_number : (k : ℕ) → place + 1 ≤ k → slice_index new_numbers (k + 1) ≡ slice_index numbers k
  high_number k le = ap (λ xs. slice_index xs (k + 1)) is.numbers_are ∙ get_or-insert_above numbers (place + 1) (slice_index numbers place) 0 k le (let lt = within in omega arith)

  -- at or before the place, just after it, or later
  by_place : (P : ℕ → Type 0) → ((k : ℕ) → k ≤ place → P k) → P (place + 1) → ((k : ℕ) → place + 1 ≤ k → P (k + 1)) → (k : ℕ) → P k
  by_place P early new late k =
      ⊎_elim
      (λ (after : place < k).
      ⊎_elim
      (λ (later : place + 1 < k). let e : k - 1 + 1 ≡ k = omega arith in subst P e (late (k - 1) (omega arith)))
      (λ (le : k ≤ place + 1). let e : place + 1 ≡ k = omega arith in subst P e new)
      (cases_lt (place + 1) k))
      (λ (le : k ≤ place). early k le)
      (cases_lt place k)

  module _ (from : AreStartsFrom base starts) where
    next_up : place + 1 < length starts → n < slice_index starts (place + 1)
    next_up lt = is.at.to lt

    rise : IsStrictlyIncreasing new_starts
    rise =
        by_place (λ k. k + 1 < length new_starts → slice_index new_starts k < slice_index new_starts (k + 1))
        (λ k le lt.
        ⊎_elim
        (λ (below : k < place).
        let a = low k le in let b = low (k + 1) (omega arith) in let w = within in
        let up : slice_index starts k < slice_index starts (k + 1) = from.rise k (omega arith) in omega arith)
        (λ (ge : place ≤ k).
        let e : place ≡ k = omega arith in
        subst (λ j. slice_index new_starts j < slice_index new_starts (j + 1)) e
        (let a = low place (omega arith) in let b = here in let before = is.before in omega arith))
        (cases_lt k place))
        (λ lt.
        let a = here in let b = high (place + 1) (omega arith) in let l = longer in
        let up : n < slice_index starts (place + 1) = next_up (omega arith) in omega arith)
        (λ k le lt.
        let a = high k le in let b = high (k + 1) (omega arith) in let l = longer in
        let up : slice_index starts k < slice_index starts (k + 1) = from.rise k (omega arith) in omega arith)

    below : (k : ℕ) → k < length new_starts → slice_index new_starts k < base + 16777216
    below =
        by_place (λ k. k < length new_starts → slice_index new_starts k < base + 16777216)
        (λ k le lt. let a = low k le in let w = within in let b : slice_index starts k < base + 16777216 = from.below k (omega arith) in omega arith)
        (λ lt. let a = here in let b = is.within in omega arith)
        (λ k le lt. let a = high k le in let l = longer in let b : slice_index starts k < base + 16777216 = from.below k (omega arith) in omega arith)

    pub inserted_from : AreStartsFrom base new_starts
    inserted_from = record {
      rise = rise;
      some = let l = longer in omega arith;
      begin = low 0 (omega arith) ∙ from.begin;
      below = below;
    }

    -- where an address of a range was
    old_place : (addr k : ℕ) → IsPlace new_starts addr k → (p : ℕ) × IsPlaceOf starts numbers addr (slice_index new_starts k) (slice_index new_numbers k) p
    old_place addr =
        by_place (λ k. IsPlace new_starts addr k → (p : ℕ) × IsPlaceOf starts numbers addr (slice_index new_starts k) (slice_index new_numbers k) p)
        (λ k le at.
        let a : slice_index new_starts k ≡ slice_index starts k = low k le in
        let w = within in let l = longer in
        let at_from = at.from in (
          k,
          record {
            at = record {
              within = omega arith;
              from = omega arith;
              to = λ more.
                  ⊎_elim
                  (λ (lt : k < place). let b = low (k + 1) (omega arith) in let up : addr < slice_index new_starts (k + 1) = at.to (omega arith) in omega arith)
                  (λ (ge : place ≤ k).
                  let e : k ≡ place = omega arith in
                  let b = here in
                  let up : addr < slice_index new_starts (k + 1) = at.to (omega arith) in
                  let c : slice_index new_starts (k + 1) ≡ slice_index new_starts (place + 1) = ap (λ j. slice_index new_starts (j + 1)) e in
                  let d : n < slice_index starts (place + 1) = next_up (omega arith) in
                  let f : slice_index starts (k + 1) ≡ slice_index starts (place + 1) = ap (λ j. slice_index starts (j + 1)) e in
                  omega arith)
                  (cases_lt k place);
            };
            before = omega arith;
            same = sym (low_number k le);
          },
        ))
        (λ at.
        let a = here in let w = within in let l = longer in let before = is.before in
        let at_from = at.from in (
          place,
          record {
            at = record {
              within = w;
              from = omega arith;
              to = λ more. let b = high (place + 1) (omega arith) in let up : addr < slice_index new_starts (place + 1 + 1) = at.to (omega arith) in omega arith;
            };
            before = omega arith;
            same = sym here_number;
          },
        ))
        (λ k le at.
        let a : slice_index new_starts (k + 1) ≡ slice_index starts k = high k le in
        let l = longer in
        let at_from = at.from in let at_within = at.within in (
          k,
          record {
            at = record {
              within = omega arith;
              from = omega arith;
              to = λ more. let b = high (k + 1) (omega arith) in let up : addr < slice_index new_starts (k + 1 + 1) = at.to (omega arith) in omega arith;
            };
            before = omega arith;
            same = sym (high_number k le);
          },
        ))

    pub inserted_keeps : (cut : ℕ) → IsStart starts cut → IsStart new_starts cut
    inserted_keeps cut at =
        let k : ℕ = at.0 in
        let lt : k < length starts = at.1 in
        let l = longer in
        ⊎_elim
        (λ (after : place < k). (k + 1, omega arith, high k (omega arith) ∙ at.2))
        (λ (le : k ≤ place). (k, omega arith, low k le ∙ at.2))
        (cases_lt place k)

    pub inserted_is : IsStart new_starts n
    inserted_is = (place + 1, (let l = longer in let w = within in omega arith), here)

    pub inserted_told : (state : State) (packet : Packet) (outcomes : List Outcome) → base ≤ 4278190080 → AreTold state packet outcomes base starts numbers → AreTold state packet outcomes base new_starts new_numbers
    inserted_told state packet outcomes small told = record {
      cuts = λ cut is_cut low_cut high_cut. inserted_keeps cut (told.cuts cut is_cut low_cut high_cut);
      told = λ k lt.
          let old = old_place (slice_index new_starts k) k (own_place new_starts k rise lt) in
          let fits : slice_index new_starts k < base + 16777216 = below k lt in
          ap (slice_get outcomes) (sym old.1.same)
          ∙ told_at state packet outcomes base starts numbers from told (slice_index new_starts k) old.0 old.1.at fits (omega arith);
    }

-- ---- whether or not there is one more

pub split_from : (base : ℕ) (starts numbers : List ℕ) (n : ℕ) (new_starts new_numbers : List ℕ) → length numbers ≡ length starts → AreStartsFrom base starts → IsSplit base starts numbers n new_starts new_numbers → AreStartsFrom base new_starts
split_from base starts numbers n new_starts new_numbers same from (inl kept) = subst (AreStartsFrom base) (sym kept.1) from
split_from base starts numbers n new_starts new_numbers same from (inr more) = inserted_from base starts numbers n new_starts new_numbers more same from

pub split_same : (base : ℕ) (starts numbers : List ℕ) (n : ℕ) (new_starts new_numbers : List ℕ) → length numbers ≡ length starts → IsSplit base starts numbers n new_starts new_numbers → length new_numbers ≡ length new_starts
split_same base starts numbers n new_starts new_numbers same (inl kept) = ap length kept.2 ∙ same ∙ sym (ap length kept.1)
split_same base starts numbers n new_starts new_numbers same (inr more) =
    let a = longer base starts numbers n new_starts new_numbers more same in
    let b = longer_numbers base starts numbers n new_starts new_numbers more same in
    omega arith

pub split_divides : (base : ℕ) (starts numbers : List ℕ) (n : ℕ) (new_starts new_numbers : List ℕ) → length numbers ≡ length starts → AreStartsFrom base starts → IsSplit base starts numbers n new_starts new_numbers → IsDivided base new_starts n
split_divides base starts numbers n new_starts new_numbers same from (inl kept) = subst (λ s. IsDivided base s n) (sym kept.1) kept.0
split_divides base starts numbers n new_starts new_numbers same from (inr more) = inl (inserted_is base starts numbers n new_starts new_numbers more same from)

pub split_keeps : (base : ℕ) (starts numbers : List ℕ) (n : ℕ) (new_starts new_numbers : List ℕ) → length numbers ≡ length starts → AreStartsFrom base starts → IsSplit base starts numbers n new_starts new_numbers → (cut : ℕ) → IsDivided base starts cut → IsDivided base new_starts cut
split_keeps base starts numbers n new_starts new_numbers same from (inl kept) cut at = subst (λ s. IsDivided base s cut) (sym kept.1) at
split_keeps base starts numbers n new_starts new_numbers same from (inr more) cut (inl at) = inl (inserted_keeps base starts numbers n new_starts new_numbers more same from cut at)
split_keeps base starts numbers n new_starts new_numbers same from (inr more) cut (inr past) = inr past

pub split_told : (state : State) (packet : Packet) (outcomes : List Outcome) (base : ℕ) (starts numbers : List ℕ) (n : ℕ) (new_starts new_numbers : List ℕ) → length numbers ≡ length starts → AreStartsFrom base starts → base ≤ 4278190080 →
    IsSplit base starts numbers n new_starts new_numbers → AreTold state packet outcomes base starts numbers → AreTold state packet outcomes base new_starts new_numbers
split_told state packet outcomes base starts numbers n new_starts new_numbers same from small (inl kept) told =
    subst (λ s. AreTold state packet outcomes base s new_numbers) (sym kept.1) (subst (AreTold state packet outcomes base starts) (sym kept.2) told)
split_told state packet outcomes base starts numbers n new_starts new_numbers same from small (inr more) told =
    inserted_told base starts numbers n new_starts new_numbers more same from state packet outcomes small told
