-- The numbers of followers.
use Rattle.std.proofs.Common.{ℕ, ◌+◌, ◌<◌, Bool, true, false, List, [], ◌∷◌, ◌++◌, arith}
use Rattle.std.proofs.lemmas.List.Elements.{All-cons, All-contains, All-head, All-nil, All-push, All-tail, All-weaker}
use Rattle.std.specs.List.{items_where_true}
use Rattle.std.specs.Prelude.{All, Contains}

-- each of these numbers is smaller
abbrev pub IsBelow : ℕ → ℕ → Type 0
IsBelow next number = number < next

-- so is each of those that stay
pub kept_below : (next : ℕ) (stay : List Bool) (numbers : List ℕ) → All (IsBelow next) numbers → All (IsBelow next) (items_where_true stay numbers)
kept_below next [] numbers below = All-nil (IsBelow next)
kept_below next (one ∷ stay) [] below = All-nil (IsBelow next)
kept_below next (true ∷ stay) (number ∷ numbers) below =
    All-cons (IsBelow next) number (items_where_true stay numbers) (All-head (IsBelow next) number numbers below) (kept_below next stay numbers (All-tail (IsBelow next) number numbers below))
kept_below next (false ∷ stay) (number ∷ numbers) below = kept_below next stay numbers (All-tail (IsBelow next) number numbers below)

-- with the next number, all are below the one after it
pub grown_below : (next : ℕ) (numbers : List ℕ) → All (IsBelow next) numbers → All (IsBelow (next + 1)) (numbers ++ next ∷ [])
grown_below next numbers below = All-push (IsBelow (next + 1)) numbers next (All-weaker (IsBelow next) (IsBelow (next + 1)) (λ number less. omega (arith, less)) numbers below) (omega arith)

-- the next number is new
pub next_is_new : (next : ℕ) (numbers : List ℕ) → All (IsBelow next) numbers → Contains numbers next → ⊥
next_is_new next numbers below there = omega (arith, All-contains (IsBelow next) numbers next below there)
