-- All starts cut into pieces.
use Rattle.std.proofs.Common.{◌≡◌, ℕ, ◌+◌, ◌-◌, ◌*◌, ◌<◌, ◌≤◌, List, [], ◌∷◌, ◌++◌, length, Some, sym, ap, ◌∙◌, subst, arith, ⊎_elim, slice_index, length-append}
use Rattle.std.specs.Prelude.{slice_range}
use Rattle.std.specs.List.{slice_get}
use Rattle.std.specs.List.Sorted.{IsStrictlyIncreasing}
use Rattle.std.proofs.lemmas.Bool.{cases_lt}
use Rattle.std.proofs.lemmas.List.Edits.{get_or-between, length-between}
use Rattle.std.proofs.lemmas.Option.{slice_get_within}
use Rattle.prt_rule.specs.declared.packet.Packet.{Packet}
use Rattle.prt_version.specs.State.{State}
use Rattle.prt_partition.specs.declared.sameness.Outcome.{Outcome}
use Rattle.prt_fib.specs.Fib.{outcome_to}
use Rattle.prt_fib.specs.Numbers.{AreNumbered}
use Rattle.prt_fib.specs.Pieces.{AreAllStarts, AreFiled, ArePartsOf, IsPartOf, Tells}
use Rattle.prt_fib.specs.Places.{AreStartsFrom, IsCount, IsStart}
use Rattle.prt_fib.specs.declared.piece.Piece.{Piece}
use Rattle.prt_fib.proofs.Finding.{counted, start_of}
use Rattle.prt_fib.proofs.Linked.{slice_get_left, slice_get_seam}

-- the starts of a piece among all
pub part_starts : (starts : List ℕ) (base low high : ℕ) → IsStrictlyIncreasing starts → IsStart starts base → IsCount starts base low → IsCount starts (base + 16777216) high →
    (low < high) × AreStartsFrom base (slice_range starts low high)
part_starts starts base low high rise at is_low is_high =
    let first = counted starts base low rise is_low at in
    let within : high ≤ length starts = is_high.within in
    let begin : slice_index starts low ≡ base = first.1 in
    let lt_all : low < length starts = first.0 in
    let lt : low < high =
    ⊎_elim
    (λ (lt : low < high). lt)
    (λ (ge : high ≤ low). let above : base + 16777216 ≤ slice_index starts low = is_high.above low ge lt_all in absurd (let f : ⊥ = omega arith in f))
    (cases_lt low high) in
    let long : length (slice_range starts low high) ≡ high - low = length-between starts low high within in (
      lt,
      record {
        rise = λ k more.
            let a : slice_index (slice_range starts low high) k ≡ slice_index starts (low + k) = get_or-between starts low high k 0 (omega arith) in
            let b : slice_index (slice_range starts low high) (k + 1) ≡ slice_index starts (low + (k + 1)) = get_or-between starts low high (k + 1) 0 (omega arith) in
            let up : slice_index starts (low + k) < slice_index starts (low + k + 1) = rise (low + k) (omega arith) in
            let e : low + k + 1 ≡ low + (k + 1) = omega arith in
            let c : slice_index starts (low + k + 1) ≡ slice_index starts (low + (k + 1)) = ap (slice_index starts) e in
            omega arith;
        some = omega arith;
        begin =
            let e : low + 0 ≡ low = omega arith in
            get_or-between starts low high 0 0 (omega arith) ∙ ap (slice_index starts) e ∙ begin;
        below = λ k inside.
            let a : slice_index (slice_range starts low high) k ≡ slice_index starts (low + k) = get_or-between starts low high k 0 (omega arith) in
            let b : slice_index starts (low + k) < base + 16777216 = is_high.below (low + k) (omega arith) in
            omega arith;
      },
    )

module _ (state : State) (packet : Packet) (starts numbers : List ℕ) (outcomes : List Outcome) (all : AreAllStarts state starts) (numbered : AreNumbered state packet starts numbers outcomes) where
  tells : (base : ℕ) (piece : Piece) → IsPartOf starts numbers base piece → Tells state packet outcomes base piece
  tells base piece part =
      let low : ℕ = part.low in
      let high : ℕ = part.high in
      let within : high ≤ length starts = part.high_is.within in
      let same = numbered.same in
      let long : length piece.starts.items ≡ high - low = ap length part.starts_are ∙ length-between starts low high within in
      let start_at : (k : ℕ) → low + k < high → slice_index piece.starts.items k ≡ slice_index starts (low + k) =
      λ k lt. ap (λ xs. slice_index xs k) part.starts_are ∙ get_or-between starts low high k 0 lt in
      record {
        cuts = λ cut is from below.
            let at = start_of cut starts (all.cuts cut is) in
            let k : ℕ = at.0 in
            let lt : k < length starts = at.1 in
            let here : slice_index starts k ≡ cut = at.2 in
            ⊎_elim
            (λ (early : k < low). let b : slice_index starts k < base = part.low_is.below k early in absurd (let f : ⊥ = omega arith in f))
            (λ (le : low ≤ k).
            ⊎_elim
            (λ (inside : k < high). let e : low + (k - low) ≡ k = omega arith in (k - low, omega arith, start_at (k - low) (omega arith) ∙ ap (slice_index starts) e ∙ here))
            (λ (past : high ≤ k). let b : base + 16777216 ≤ slice_index starts k = part.high_is.above k past lt in absurd (let f : ⊥ = omega arith in f))
            (cases_lt k high))
            (cases_lt k low);
        told = λ k lt.
            ap (slice_get outcomes) (ap (λ xs. slice_index xs k) part.numbers_are ∙ get_or-between numbers low high k 0 (omega arith))
            ∙ numbered.told (low + k) (omega arith)
            ∙ ap (λ n. Some (outcome_to state packet n)) (sym (start_at k (omega arith)));
      }

  pub filed_new : (pieces : List Piece) → ArePartsOf starts numbers pieces → AreFiled state packet outcomes pieces
  filed_new pieces parts = record {
    size = parts.size;
    each = λ k piece at. let part = parts.each k piece at in (part.fits, tells (k * 16777216) piece part);
  }

-- one part more
pub parts_more : (starts numbers : List ℕ) (octet : ℕ) (pieces : List Piece) (piece : Piece) → length pieces ≡ octet → ((k : ℕ) (one : Piece) → slice_get pieces k ≡ Some one → IsPartOf starts numbers (k * 16777216) one) → IsPartOf starts numbers (octet * 16777216) piece →
    (k : ℕ) (one : Piece) → slice_get (pieces ++ piece ∷ []) k ≡ Some one → IsPartOf starts numbers (k * 16777216) one
parts_more starts numbers octet pieces piece size parts part k one at =
    ⊎_elim
    (λ (before : k < length pieces). parts k one (sym (slice_get_left pieces (piece ∷ []) k before) ∙ at))
    (λ (from : length pieces ≤ k).
    let more : length (pieces ++ piece ∷ []) ≡ length pieces + 1 = length-append pieces (piece ∷ []) in
    let within : k < length (pieces ++ piece ∷ []) = slice_get_within (pieces ++ piece ∷ []) k one at in
    let here : length pieces ≡ k = omega arith in
    let same : Some piece ≡ Some one = sym (slice_get_seam pieces piece) ∙ ap (slice_get (pieces ++ piece ∷ [])) here ∙ at in
    let own : piece ≡ one = cc in
    subst (λ p. IsPartOf starts numbers (k * 16777216) p) own (subst (λ n. IsPartOf starts numbers (n * 16777216) piece) (sym size ∙ here) part))
    (cases_lt k (length pieces))
