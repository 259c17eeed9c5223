use Rattle.std.proofs.Common.{◌∙◌, inl, inr, subst}
use Rattle.prt_questions.specs.Asking.{IsWithImpactOf}
use Rattle.prt_questions.proofs.impact_of_diff.write_difference.Goals as goal

pub returns-in-Ok-with_impact-clause-whole : goal.returns-in-Ok-with_impact-clause-whole
returns-in-Ok-with_impact-clause-whole g c = λ done. (
  c.in-Ok-with_impact.text.items,
  subst (λ lines. IsWithImpactOf c.args.comparison.now.found.now lines c.in-Ok-with_impact.text.items) (c.deref.ensures.value ∙ c.in-Ok.ensures.text) c.in-Ok-with_impact.ensures,
  c.write_made.ensures.whole (inl done),
  (c.in-Ok.made.notes, c.in-Ok.ensures.notes, c.write_made.ensures.change done),
)

pub returns-in-Ok-with_impact-clause-part : goal.returns-in-Ok-with_impact-clause-part
returns-in-Ok-with_impact-clause-part g c = inr (
  c.in-Ok-with_impact.text.items,
  subst (λ lines. IsWithImpactOf c.args.comparison.now.found.now lines c.in-Ok-with_impact.text.items) (c.deref.ensures.value ∙ c.in-Ok.ensures.text) c.in-Ok-with_impact.ensures,
  inr c.write_made.ensures.part,
)
