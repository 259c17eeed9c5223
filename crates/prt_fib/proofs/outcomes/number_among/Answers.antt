use Rattle.std.proofs.Common.{◌≡◌, [], ◌∷◌, ◌++◌, length, ap, ◌∙◌}
use Rattle.std.specs.Arc.{arc_value}
use Rattle.prt_fib.proofs.Numbered.{number_new}
use Rattle.prt_fib.proofs.outcomes.number_among.Goals as goal

pub returns-clause-value : goal.returns-clause-value
returns-clause-value c =
    let old = arc_value c.args.outcomes.now in
    let more : c.in_ok-more.more ≡ old ++ c.args.outcome.now ∷ [] = c.in_ok-more.ensures ∙ ap (λ os. os ++ c.args.outcome.now ∷ []) c.deref-3.ensures in
    number_new old (arc_value c.in_ok-outcomes.field-0) c.args.outcome.now (length c.as_slice-place.result.now)
    (c.in_ok-outcomes.ensures.ok ∙ more)
    (ap length (c.as_slice-place.ensures.value ∙ c.deref-2.ensures))
