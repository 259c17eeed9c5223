-- What a push that failed leaves.
use Rattle.std.specs.Prelude.{◌≡◌, ℕ, List, ◌++◌}

-- what was there is there, and something may follow it
pub record Keeps (old new : List ℕ) : Type 0 where
  pub added : List ℕ
  pub whole : new ≡ old ++ added
