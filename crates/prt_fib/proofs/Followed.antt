-- Pieces of a table after a change of one route.
use Rattle.std.proofs.Common.{◌≡◌, ◌≢◌, ◌⊎◌, inl, inr, ℕ, zero, suc, ◌+◌, ◌-◌, ◌*◌, ◌^◌, ◌<◌, ◌≤◌, Bool, true, false, cond, List, [], ◌∷◌, length, set, Some, None, refl, sym, ap, ◌∙◌, subst, arith, ⊎_elim, slice_index, length-set}
use Rattle.std.specs.Prelude.{nat_lt}
use Rattle.std.specs.List.{slice_get, Contains}
use Rattle.std.specs.Option.{option_to_list}
use Rattle.std.proofs.lemmas.Bool.{cases_Bool, cases_eq, cases_lt}
use Rattle.std.proofs.lemmas.List.{get_or-set_other, get_or-set_same}
use Rattle.std.proofs.lemmas.Nat.{pow_pos}
use Rattle.std.proofs.lemmas.Option.{slice_get_within}
use Rattle.prt_addr.specs.Block.{Block}
use Rattle.prt_addr.specs.Prefix.{contains, masked}
use Rattle.prt_addr.specs.Sound.{IsPrefix}
use Rattle.prt_rule.specs.declared.packet.Packet.{Packet}
use Rattle.prt_version.specs.State.{State}
use Rattle.prt_partition.specs.Cuts.{cuts_of, destination_cuts, end, to}
use Rattle.prt_partition.specs.Sameness.{outcome_of}
use Rattle.prt_partition.specs.declared.sameness.Outcome.{Outcome}
use Rattle.prt_partition.proofs.Between.{within_cuts}
use Rattle.prt_partition.proofs.Starts.{IsIn, contains_in}
use Rattle.prt_fib.specs.Fib.{outcome_to}
use Rattle.prt_fib.specs.Following.{AreRenumbered, IsDivided}
use Rattle.prt_fib.specs.Numbers.{IsNumber}
use Rattle.prt_fib.specs.Pieces.{AreFiled, AreTold, IsChangedAt, IsPiece, Keeps, Tells}
use Rattle.prt_fib.specs.Places.{AreStartsFrom, IsCount, IsStart}
use Rattle.prt_fib.specs.declared.piece.Piece.{Piece}
use Rattle.prt_fib.proofs.Finding.{from_base}

pub unmasked : (prefix : Block) → IsPrefix prefix → (masked prefix).bits ≡ prefix.bits
unmasked prefix is = let clear = is.clear in omega arith

-- an address before the prefix or after it isn't in it
outside : (prefix : Block) (n : ℕ) → (n < (masked prefix).bits) ⊎ (end prefix ≤ n) → contains prefix (record { 0 = n }) ≡ false
outside prefix n apart =
    ⊎_elim
    (λ (inside : contains prefix (record { 0 = n }) ≡ true).
    let w = within_cuts prefix n inside in
    absurd (⊎_elim (λ (lt : n < (masked prefix).bits). let a = w.0 in let f : ⊥ = omega arith in f) (λ (le : end prefix ≤ n). let a = w.1 in let f : ⊥ = omega arith in f) apart))
    (λ (out : contains prefix (record { 0 = n }) ≡ false). out)
    (cases_Bool (contains prefix (record { 0 = n })))

end_by : (prefix : Block) (cut : ℕ) (b : Bool) → IsIn cut (option_to_list (cond b (Some (end prefix)) None)) → cut ≡ end prefix
end_by prefix cut true (inl is) = is
end_by prefix cut true (inr none) = absurd none
end_by prefix cut false none = absurd none

-- the cuts of a prefix
cut_by : (prefix : Block) (cut : ℕ) → Contains (cuts_of prefix) cut → (cut ≡ (masked prefix).bits) ⊎ (cut ≡ end prefix)
cut_by prefix cut h = split (contains_in cut (cuts_of prefix) h)
  where
    split : IsIn cut (cuts_of prefix) → (cut ≡ (masked prefix).bits) ⊎ (cut ≡ end prefix)
    split (inl is) = inl is
    split (inr later) = inr (end_by prefix cut (nat_lt (end prefix) 4294967296) later)

module _ (state next : State) (packet : Packet) (prefix : Block) (changed : IsChangedAt state next prefix) (old new : List Outcome) (keeps : Keeps old new) where
  -- what a number says of an address out of the prefix
  kept : (number n : ℕ) → (n < (masked prefix).bits) ⊎ (end prefix ≤ n) → slice_get old number ≡ Some (outcome_to state packet n) → slice_get new number ≡ Some (outcome_to next packet n)
  kept number n apart told =
      keeps.1 number (slice_get_within old number (outcome_to state packet n) told)
      ∙ told
      ∙ ap (λ v. Some (outcome_of v)) (sym (changed.quiet (to packet n) (outside prefix n apart)))

  -- a piece in which the starts in the prefix have new numbers
  pub renumbered : (base : ℕ) (starts numbers new_numbers : List ℕ) (first last : ℕ) → AreTold state packet old base starts numbers →
      IsDivided base starts (masked prefix).bits → IsDivided base starts (end prefix) → IsCount starts (masked prefix).bits first → IsCount starts (end prefix) last →
      AreRenumbered next packet starts first last numbers new_numbers old new → AreTold next packet new base starts new_numbers
  renumbered base starts numbers new_numbers first last told at_first at_end is_first is_last is = record {
    cuts = λ cut h low high.
        ⊎_elim
        (λ (of : Contains (destination_cuts state) cut). told.cuts cut of low high)
        (λ (of : Contains (cuts_of prefix) cut).
        ⊎_elim
        (λ (e : cut ≡ (masked prefix).bits). start_by cut (masked prefix).bits e at_first low high)
        (λ (e : cut ≡ end prefix). start_by cut (end prefix) e at_end low high)
        (cut_by prefix cut of))
        (changed.cuts cut h);
    told = λ k lt.
        ⊎_elim
        (λ (early : k < first). ap (slice_get new) (is.outside k (inl early)) ∙ kept (slice_index numbers k) (slice_index starts k) (inl (is_first.below k early)) (told.told k lt))
        (λ (from : first ≤ k).
        ⊎_elim
        (λ (inside : k < last). is.inside k from inside)
        (λ (late : last ≤ k). ap (slice_get new) (is.outside k (inr late)) ∙ kept (slice_index numbers k) (slice_index starts k) (inr (is_last.above k late lt)) (told.told k lt))
        (cases_lt k last))
        (cases_lt k first);
  }
    where
      start_by : (cut n : ℕ) → cut ≡ n → IsDivided base starts n → base ≤ cut → cut < base + 16777216 → IsStart starts cut
      start_by cut n e (inl at) low high = (at.0, at.1, at.2 ∙ sym e)
      start_by cut n e (inr past) low high = absurd (omega arith)

  -- a piece that the prefix isn't in
  pub untouched : (base other : ℕ) (starts numbers : List ℕ) → AreStartsFrom base starts → AreTold state packet old base starts numbers →
      other ≤ (masked prefix).bits → end prefix ≤ other + 16777216 → (base + 16777216 ≤ other) ⊎ (other + 16777216 ≤ base) → AreTold next packet new base starts numbers
  untouched base other starts numbers from told low_prefix high_prefix apart = record {
    cuts = λ cut h low high.
        ⊎_elim
        (λ (of : Contains (destination_cuts state) cut). told.cuts cut of low high)
        (λ (of : Contains (cuts_of prefix) cut).
        let some : 0 < 2 ^ (32 - prefix.len) = pow_pos (32 - prefix.len) in
        ⊎_elim
        (λ (e : cut ≡ (masked prefix).bits). absurd (⊎_elim (λ (lt : base + 16777216 ≤ other). let f : ⊥ = omega arith in f) (λ (gt : other + 16777216 ≤ base). let f : ⊥ = omega arith in f) apart))
        (λ (e : cut ≡ end prefix).
        ⊎_elim
        (λ (lt : base + 16777216 ≤ other). absurd (let f : ⊥ = omega arith in f))
        (λ (gt : other + 16777216 ≤ base). let same : base ≡ cut = omega arith in (0, from.some, from.begin ∙ same))
        apart)
        (cut_by prefix cut of))
        (changed.cuts cut h);
    told = λ k lt.
        let low : base ≤ slice_index starts k = from_base base starts k from lt in
        let high : slice_index starts k < base + 16777216 = from.below k lt in
        kept (slice_index numbers k) (slice_index starts k)
        (⊎_elim (λ (before : base + 16777216 ≤ other). inl (omega arith)) (λ (after : other + 16777216 ≤ base). inr (omega arith)) apart)
        (told.told k lt);
  }

  -- ---- all pieces

  pub filed_after : (pieces after : List Piece) (octet : ℕ) (piece : Piece) → AreFiled state packet old pieces → octet < 256 → octet * 16777216 ≤ (masked prefix).bits → end prefix ≤ octet * 16777216 + 16777216 →
      IsPiece (octet * 16777216) piece → Tells next packet new (octet * 16777216) piece → after ≡ set pieces octet piece → AreFiled next packet new after
  filed_after pieces after octet piece filed few low high is tells made = record {
    size = ap length made ∙ length-set pieces octet piece ∙ filed.size;
    each = λ k one at.
        let there : slice_get (set pieces octet piece) k ≡ Some one = ap (λ ps. slice_get ps k) (sym made) ∙ at in
        ⊎_elim
        (λ (e : k ≡ octet).
        let size = filed.size in
        let here : slice_get (set pieces octet piece) octet ≡ Some piece = set_here pieces octet piece (omega arith) in
        let same : Some piece ≡ Some one = sym here ∙ ap (slice_get (set pieces octet piece)) (sym e) ∙ there in
        let own : piece ≡ one = cc in
        subst (λ n. IsPiece (n * 16777216) one × Tells next packet new (n * 16777216) one) (sym e)
        (subst (λ p. IsPiece (octet * 16777216) p × Tells next packet new (octet * 16777216) p) own (is, tells)))
        (λ (other : k ≢ octet).
        let before = filed.each k one (sym (set_other pieces octet k piece other) ∙ there) in (
          before.0,
          untouched (k * 16777216) (octet * 16777216) one.starts.items one.numbers.items before.0.starts before.1 low high
              (⊎_elim (λ (lt : k < octet). inl (omega arith)) (λ (ge : octet ≤ k). inr (omega arith)) (cases_lt k octet)),
        ))
        (cases_eq k octet);
  }
    where
      set_here : {X : Type 0} (xs : List X) (i : ℕ) (x : X) → i < length xs → slice_get (set xs i x) i ≡ Some x
      set_here [] i x lt = absurd (omega arith)
      set_here (y ∷ ys) zero x lt = refl
      set_here (y ∷ ys) (suc i) x lt = set_here ys i x (omega arith)

      set_other : {X : Type 0} (xs : List X) (i k : ℕ) (x : X) → k ≢ i → slice_get (set xs i x) k ≡ slice_get xs k
      set_other [] i k x other = refl
      set_other (y ∷ ys) zero zero x other = absurd (other refl)
      set_other (y ∷ ys) zero (suc k) x other = refl
      set_other (y ∷ ys) (suc i) zero x other = refl
      set_other (y ∷ ys) (suc i) (suc k) x other = set_other ys i k x (λ e. other (ap suc e))

-- ---- one start after the other

pub renumbered_more : (state : State) (packet : Packet) (starts : List ℕ) (first place : ℕ) (old_numbers numbers : List ℕ) (old between new : List Outcome) (number : ℕ) → AreRenumbered state packet starts first place old_numbers numbers old between → first ≤ place → place < length numbers →
    IsNumber between (outcome_to state packet (slice_index starts place)) number new → AreRenumbered state packet starts first (place + 1) old_numbers (set numbers place number) old new
renumbered_more state packet starts first place old_numbers numbers old between new number is order lt its =
    let longer : length between ≤ length new = its.longer in
    let long : length old ≤ length between = is.keeps.0 in
    let other : (k : ℕ) → k ≢ place → slice_index (set numbers place number) k ≡ slice_index numbers k = λ k ne. get_or-set_other numbers place k number 0 ne in
    record {
      size = length-set numbers place number ∙ is.size;
      keeps = (omega arith, λ k within. its.keeps k (omega arith) ∙ is.keeps.1 k within);
      inside = λ k from to.
          ⊎_elim
          (λ (before : k < place).
          let told = is.inside k from before in
          ap (slice_get new) (other k (λ e. absurd (omega arith)))
          ∙ its.keeps (slice_index numbers k) (slice_get_within between (slice_index numbers k) (outcome_to state packet (slice_index starts k)) told)
          ∙ told)
          (λ (ge : place ≤ k).
          let e : place ≡ k = omega arith in
          subst (λ j. slice_get new (slice_index (set numbers place number) j) ≡ Some (outcome_to state packet (slice_index starts j))) e
          (ap (slice_get new) (get_or-set_same numbers place number 0 lt) ∙ its.told))
          (cases_lt k place);
      outside = λ k out.
          ⊎_elim
          (λ (early : k < first). other k (λ e. absurd (omega arith)) ∙ is.outside k (inl early))
          (λ (late : place + 1 ≤ k). other k (λ e. absurd (omega arith)) ∙ is.outside k (inr (omega arith)))
          out;
    }

-- nothing is renumbered yet
pub renumbered_none : (state : State) (packet : Packet) (starts : List ℕ) (first : ℕ) (numbers : List ℕ) (outcomes : List Outcome) → AreRenumbered state packet starts first first numbers numbers outcomes outcomes
renumbered_none state packet starts first numbers outcomes = record {
  size = refl;
  keeps = (omega arith, λ k lt. refl);
  inside = λ k from to. absurd (omega arith);
  outside = λ k out. refl;
}

-- no fewer starts are below a greater number
pub counts_rise : (starts : List ℕ) (a b m n : ℕ) → a ≤ b → IsCount starts a m → IsCount starts b n → m ≤ n
counts_rise starts a b m n le at_a at_b =
    ⊎_elim
    (λ (lt : n < m).
    let within : m ≤ length starts = at_a.within in
    let low : slice_index starts n < a = at_a.below n lt in
    let high : b ≤ slice_index starts n = at_b.above n (omega arith) (omega arith) in
    absurd (let f : ⊥ = omega arith in f))
    (λ (ge : m ≤ n). ge)
    (cases_lt n m)
