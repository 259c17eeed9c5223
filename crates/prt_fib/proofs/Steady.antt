-- What becomes of a packet doesn't change from a start up to the next one.
use Rattle.std.proofs.Common.{◌≡◌, ◌⊎◌, inl, inr, ℕ, ◌+◌, ◌*◌, ◌/◌, ◌^◌, ◌<◌, ◌≤◌, List, length, get_or, Some, refl, ap, ◌∙◌, sym, arith, ⊎_elim, slice_index}
use Rattle.std.specs.Prelude.{map, option_map}
use Rattle.std.specs.List.{slice_get, Contains}
use Rattle.std.proofs.lemmas.Bool.{cases_lt}
use Rattle.std.proofs.lemmas.List.{length-map}
use Rattle.std.proofs.lemmas.Option.{slice_get-map, slice_get_read}
use Rattle.std.proofs.lemmas.List.Elements.{All-contains_itself, recursion_from_All}
use Rattle.prt_addr.proofs.Each.{each_implies}
use Rattle.prt_rule.specs.declared.packet.Packet.{Packet}
use Rattle.prt_version.specs.State.{State}
use Rattle.prt_partition.specs.Cuts.{HasNoCut, destination_cuts}
use Rattle.prt_partition.specs.Sameness.{outcome_of}
use Rattle.prt_partition.specs.declared.sameness.Outcome.{Outcome}
use Rattle.prt_partition.proofs.Between.{same_by_destination}
use Rattle.prt_fib.specs.Fib.{outcome_to}
use Rattle.prt_fib.specs.Pieces.{AreFiled, AreTold}
use Rattle.prt_fib.specs.Places.{AreStartsFrom, IsNumberAt, IsPlace}
use Rattle.prt_fib.specs.declared.piece.Piece.{Piece}
use Rattle.prt_fib.proofs.Finding.{from_base, rising_at}

module _ (state : State) (packet : Packet) (outcomes : List Outcome) (base : ℕ) (starts numbers : List ℕ)
    (from : AreStartsFrom base starts) (told : AreTold state packet outcomes base starts numbers) where
  -- a cut isn't above a start and up to an address of its range
  uncut_by : (addr place cut : ℕ) → IsPlace starts addr place → addr < base + 16777216 → Contains (destination_cuts state) cut → (cut ≤ slice_index starts place) ⊎ (addr < cut)
  uncut_by addr place cut at below is =
      let within = at.within in
      let low : base ≤ slice_index starts place = from_base base starts place from within in
      ⊎_elim
      (λ (early : cut < base). inl (omega arith))
      (λ (late : base ≤ cut).
      ⊎_elim
      (λ (inside : cut < base + 16777216).
      let start = told.cuts cut is late inside in
      let here : slice_index starts start.0 ≡ cut = start.2 in
      let lt : start.0 < length starts = start.1 in
      ⊎_elim
      (λ (after : place < start.0).
      let next : addr < slice_index starts (place + 1) = at.to (omega arith) in
      let up : slice_index starts (place + 1) ≤ slice_index starts start.0 = rising_at starts (place + 1) start.0 from.rise (omega arith) lt in
      inr (omega arith))
      (λ (before : start.0 ≤ place). let up : slice_index starts start.0 ≤ slice_index starts place = rising_at starts start.0 place from.rise before within in inl (omega arith))
      (cases_lt place start.0))
      (λ (past : base + 16777216 ≤ cut). inr (omega arith))
      (cases_lt cut (base + 16777216)))
      (cases_lt cut base)

  uncut : (addr place : ℕ) → IsPlace starts addr place → addr < base + 16777216 → HasNoCut (destination_cuts state) (slice_index starts place) addr
  uncut addr place at below =
      each_implies (Contains (destination_cuts state)) (λ cut. (cut ≤ slice_index starts place) ⊎ (addr < cut)) (λ cut is. uncut_by addr place cut at below is) (destination_cuts state)
      (recursion_from_All (Contains (destination_cuts state)) (destination_cuts state) (All-contains_itself (destination_cuts state)))

  -- the number at the place of an address is that of the outcome there
  pub told_at : (addr place : ℕ) → IsPlace starts addr place → addr < base + 16777216 → addr < 2 ^ 32 → slice_get outcomes (slice_index numbers place) ≡ Some (outcome_to state packet addr)
  told_at addr place at below fits =
      told.told place at.within
      ∙ ap (λ v. Some (outcome_of v)) (same_by_destination state packet (slice_index starts place) addr at.from fits (uncut addr place at below))

-- a number of a table that is right
pub number_told : (state : State) (packet : Packet) (outcomes : List Outcome) (pieces : List Piece) (piece : Piece) (addr number : ℕ) → AreFiled state packet outcomes pieces → addr < 2 ^ 32 →
    slice_get pieces (addr / 16777216) ≡ Some piece → IsNumberAt piece.starts.items piece.numbers.items addr number → slice_get outcomes number ≡ Some (outcome_to state packet addr)
number_told state packet outcomes pieces piece addr number filed fits at is =
    let own = filed.each (addr / 16777216) piece at in
    ap (slice_get outcomes) (sym is.2)
    ∙ told_at state packet outcomes (addr / 16777216 * 16777216) piece.starts.items piece.numbers.items own.0.starts own.1 addr is.0 is.1 (omega arith) fits

-- the piece at a place among those that are owned
pub piece_at : {X : Type 0} (value : X → Piece) (items : List X) (k : ℕ) (owner : X) (piece : Piece) → length (map value items) ≡ 256 → k < 256 → owner ≡ get_or items k owner → piece ≡ value owner → slice_get (map value items) k ≡ Some piece
piece_at value items k owner piece size lt at is =
    let all : length (map value items) ≡ length items = length-map items value in
    slice_get-map value items k ∙ ap (option_map value) (slice_get_read items (length items) k owner refl (omega arith) at) ∙ ap (λ p. Some p) (sym is)
