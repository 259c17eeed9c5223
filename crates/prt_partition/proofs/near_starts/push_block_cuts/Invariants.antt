use Rattle.std.proofs.Common.{◌≡◌, ◌++◌, drop}
use Rattle.std.specs.Prelude.{flat_map}
use Rattle.prt_partition.specs.Cuts.{cuts_of}
use Rattle.prt_partition.proofs.near_starts.push_block_cuts.Given as goal

abbrev pub invariant-loop-block : goal.invariant-loop-block
invariant-loop-block l = l.cuts.items ++ flat_map cuts_of (drop l.block-index l.blocks) ≡ l.fn.cuts.items ++ flat_map cuts_of l.blocks
