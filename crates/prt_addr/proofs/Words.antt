-- The first part of a word, and the parts after it.
use Rattle.std.proofs.Common.{◌≡◌, ℕ, ◌+◌, ◌-◌, ◌≤◌, Bool, true, false, [], ◌∷◌, Some, None, refl, sym, ap, ◌∙◌, arith, length, take, drop, cond, position, nat_lt, ◌==◌}
use Rattle.std.specs.List.{position_or_len}
use Rattle.std.proofs.lemmas.Bool.{ltb-false}
use Rattle.std.proofs.lemmas.List.{take_all, length-drop}
use Rattle.std.proofs.lemmas.List.Splits.{slice_split_none, slice_split_first}
use Rattle.std.proofs.lemmas.List.Sums.{fails_before_first}
use Rattle.std.proofs.lemmas.Option.{cond_some}
use borrow.Author.Tests.{ltb-true}
use Rattle.prt_addr.specs.Word.{Word, parts_at}

-- a word with a separator at n
pub parts_around : (s : ℕ) (w : Word) (n : ℕ) → position (λ b. b == s) w ≡ Some n → parts_at s w ≡ take n w ∷ parts_at s (take (length w - (n + 1)) (drop (n + 1) w))
parts_around s w n e =
    let p : ℕ → Bool = λ b. b == s in
    let found = cond_some (nat_lt (position_or_len p w) (length w)) (position_or_len p w) n e in
    let whole : take (length w - (n + 1)) (drop (n + 1) w) ≡ drop (n + 1) w = take_all (length w - (n + 1)) (drop (n + 1) w) (omega (arith, length-drop (n + 1) w)) in
    slice_split_first p w 0 (ltb-true _ _ found.0) ∙ ap (λ k. take k w ∷ parts_at s (drop (k + 1) w)) found.1 ∙ ap (λ rest. take n w ∷ parts_at s rest) (sym whole)

-- a place is not no place
some_none : (n : ℕ) → Some n ≡ None → ⊥
some_none n e = cc

-- if no place is given, the test failed
no_place : (b : Bool) (n : ℕ) → cond b (Some n) None ≡ None → b ≡ false
no_place true n e = absurd (some_none n e)
no_place false n e = refl

-- a word with no separator is its only part
pub one_part : (s : ℕ) (w : Word) → position (λ b. b == s) w ≡ None → parts_at s w ≡ w ∷ []
one_part s w e =
    let p : ℕ → Bool = λ b. b == s in
    let past : length w ≤ position_or_len p w = ltb-false _ _ (no_place (nat_lt (position_or_len p w) (length w)) (position_or_len p w) e) in
    slice_split_none p w (λ k d m. fails_before_first p w k d (omega (arith, m, past)))
