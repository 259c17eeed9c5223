-- What holds of every prefix.
use Rattle.std.specs.Prelude.{◌≡◌, ◌≤◌, ◌<◌, ◌^◌}
use Rattle.prt_addr.specs.Block.{Block, host_bits}

-- a length of at most 32, bits of an address, and none of them after the length
pub record IsPrefix (block : Block) : Type 0 where
  pub short : block.len ≤ 32
  pub fits : block.bits < 2 ^ 32
  pub clear : host_bits block ≡ 0
