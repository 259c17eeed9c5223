-- Whole lines at hand.
use Rattle.std.proofs.Common.{◌≡◌, ◌≢◌, ℕ, ◌==◌, ◌<◌, ◌⊎◌, inl, inr, List, [], ◌∷◌, ◌++◌, Bool, true, false, Some, refl, sym, ap, subst, arith}
use Rattle.std.specs.List.{list_any, slice_get}
use Rattle.prt_serve.specs.Blocks.{BeginsWithLine}
use Rattle.prt_session.specs.Steps.{HasNoNewline}
use Rattle.prt_serve.proofs.Words.{asks_on, black_above}

sides : (b : Bool) → (b ≡ true) ⊎ (b ≡ false)
sides true = inl refl
sides false = inr refl

-- a block, up to its first newline and after it
record Cut (block : List ℕ) : Type 0 where
  line : List ℕ
  rest : List ℕ
  is : block ≡ line ++ 10 ∷ rest
  bare : HasNoNewline line

is_newline : (b : ℕ) → b == 10 ≡ true → b ≡ 10
is_newline b h = grind arith

is_other : (b : ℕ) → b == 10 ≡ false → b ≢ 10
is_other b h = grind arith

cut : (block : List ℕ) → list_any (λ b. b == 10) block ≡ true → Cut block
cut [] h = absurd cc
cut (b ∷ bs) h = elim (sides (b == 10)) [
  | inl newline ↦ record { line = []; rest = bs; is = ap (λ c. c ∷ bs) (is_newline b newline); bare = tt }
  | inr other ↦ let more : Cut bs = cut bs (simp other at h) in record { line = b ∷ more.line; rest = more.rest; is = ap (λ cs. b ∷ cs) more.is; bare = (is_other b other, more.bare) }
]

above_newline : (b : ℕ) → 32 < b → b == 10 ≡ false
above_newline b above = grind arith

begins_at : (b : ℕ) (bs : List ℕ) → 32 < b → b == 35 ≡ false → list_any (λ c. c == 10) (b ∷ bs) ≡ true → BeginsWithLine (b ∷ bs)
begins_at b bs above plain h =
    let other : b == 10 ≡ false = above_newline b above in
    let more : Cut bs = cut bs (simp other at h) in
    record { line = b ∷ more.line; rest = more.rest; is = ap (λ cs. b ∷ cs) more.is; bare = (is_other b other, more.bare); asks = asks_on b more.line (black_above b above) plain }

pub begins_with_line : (block : List ℕ) (b : ℕ) → slice_get block 0 ≡ Some b → 32 < b → b == 35 ≡ false → list_any (λ c. c == 10) block ≡ true → BeginsWithLine block
begins_with_line [] b is above plain h = absurd cc
begins_with_line (c ∷ cs) b is above plain h =
    let same : c ≡ b = cc in
    begins_at c cs (subst (λ (n : ℕ). 32 < n) (sym same) above) (subst (λ (n : ℕ). n == 35 ≡ false) (sym same) plain) h
