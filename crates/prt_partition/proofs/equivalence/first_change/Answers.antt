use Rattle.std.proofs.Common.{◌≡◌, false, Option, Some, None, refl, ap, below_more, slice_index, sym, ◌∙◌}
use Rattle.std.specs.Prelude.{is_some}
use Rattle.prt_partition.specs.Comparison.{after_of, before_of}
use Rattle.prt_partition.specs.Cuts.{to}
use Rattle.prt_partition.proofs.Verdicts.{some_transition}
use Rattle.prt_partition.proofs.equivalence.first_change.Goals as goal

is_none : {X : Type 0} (o : Option X) → is_some o ≡ false → o ≡ None
is_none None e = refl
is_none (Some x) e = absurd cc

pub returns-then-is_some : goal.returns-then-is_some
returns-then-is_some c =
    some_transition c.args.sameness (before_of c.args.comparison.now) (after_of c.args.comparison.now) (to c.args.packet.now (slice_index c.args.starts.now c.loop-start.start-index))
    (ap is_some (sym c.transition_at.ensures) ∙ sym c.is_some.ensures ∙ c.if-is_some.true)

pub loop-start-preserved : goal.loop-start-preserved
loop-start-preserved c =
    below_more _ _ c.loop-start.invariant (sym c.transition_at.ensures ∙ is_none c.transition_at.result (sym c.is_some.ensures ∙ c.if-is_some.false))
