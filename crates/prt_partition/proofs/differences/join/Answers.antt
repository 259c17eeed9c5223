use Rattle.std.proofs.Common.{sym, ◌∙◌}
use Rattle.std.proofs.RetainMut.{IsDeduped-is_dedup}
use Rattle.prt_partition.specs.Steps.{have_same}
use Rattle.prt_partition.proofs.differences.join.Goals as goal

pub returns : goal.returns
returns c = IsDeduped-is_dedup _ _ _ _ c.dedup_by.ensures.filtered have_same (λ s x k b t x' k' h. let met = h.called.met.0 in (met.0 ∙ (λ i. have_same (h.shows.0 i) (h.shows.1 i)), (sym h.leaves.0 ∙ met.1.0 ∙ h.shows.0, sym h.leaves.1 ∙ met.1.1 ∙ h.shows.1)))
