-- Counts that stay at their greatest value.
use Rattle.std.specs.Prelude.{ℕ, ◌+◌, ◌-◌, ◌^◌, min}

abbrev pub counted_more : ℕ → ℕ → ℕ
counted_more count more = min (count + more) (2 ^ 64 - 1)
