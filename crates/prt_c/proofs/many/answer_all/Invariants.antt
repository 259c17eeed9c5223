use Rattle.prt_c.specs.Lookup.{answer_to}
use Rattle.prt_c.specs.Many.{AreAnswers}
use Rattle.prt_c.proofs.many.answer_all.Given as goal

abbrev pub invariant-loop-place : goal.invariant-loop-place
invariant-loop-place l = AreAnswers (answer_to l.version) l.packets l.initial.answers l.answers l.place
