-- What a contract sees of a prefix.
use Rattle.std.specs.Prelude.{ℕ, ◌-◌, ◌%◌, ◌^◌}

-- the block of addresses that begin with the first len bits of these bits
pub record Block : Type 0 where
  pub bits : ℕ
  pub len : ℕ

-- what the bits after the length are worth
abbrev pub host_bits : Block → ℕ
host_bits block = block.bits % 2 ^ (32 - block.len)
