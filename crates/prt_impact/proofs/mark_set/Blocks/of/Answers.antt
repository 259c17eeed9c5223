use Rattle.std.proofs.Common.{◌++◌, ap, drop, length}
use Rattle.std.specs.Prelude.{replicate}
use Rattle.prt_impact.specs.Padded.{no_mark}
use Rattle.prt_impact.proofs.Padding.{padded}
use Rattle.prt_impact.proofs.mark_set.Blocks.of.Goals as goal

pub invariant_of-result : goal.invariant_of-result
invariant_of-result c =
    padded c.args.blocks.now _ c.requires (ap (λ xs. xs ++ drop (length c.args.blocks.now) (replicate 16 no_mark)) c.copy_from_slice.ensures.after)
