use Rattle.std.proofs.Common.{◌∙◌, ap, arith, subst}
use Rattle.prt_diff.specs.Apply.Plan.{plan}
use Rattle.prt_questions.specs.Applying.{AreStoredTogether}
use Rattle.prt_questions.proofs.Applied.{brought}
use Rattle.prt_questions.proofs.applying.apply_to_publisher.Goals.{then-not-manner+in_default, else-not-manner}
use Rattle.prt_questions.proofs.applying.apply_to_publisher.Goals as goal

pub returns-clause-made : goal.returns-clause-made
returns-clause-made g c = λ done wet. elim c.if-not-manner.branch [
  | then-not-manner+in_default w ↦
      let made = w.in_default.ensures.made in
      rw w.publisher-is (made.0, brought _ _ _ _ _ _ c.published-found.ensures c.plan_changes.ensures.sound.0 c.plan_changes.ensures.sound.1 c.in-Ok.ensures.commands w.as_slice.ensures.value made.1 made.2)
  | else-not-manner w ↦ grind (arith, w.if-not-manner.false, wet)
]

pub returns-clause-together : goal.returns-clause-together
returns-clause-together g c = λ done wet. elim c.if-not-manner.branch [
  | then-not-manner+in_default w ↦
      rw w.publisher-is (subst (λ commands. AreStoredTogether g.H.Store.Store c.args.publisher.now commands w.submit.new.publisher)
      (w.as_slice.ensures.value ∙ c.in-Ok.ensures.commands ∙ ap (λ found. plan found c.args.wanted.now) c.published-found.ensures) w.in_default.ensures.together)
  | else-not-manner w ↦ grind (arith, w.if-not-manner.false, wet)
]
