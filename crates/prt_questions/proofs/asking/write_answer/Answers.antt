use Rattle.prt_questions.proofs.asking.write_answer.Goals as goal

pub returns-in-Ok-clause-change : goal.returns-in-Ok-clause-change
returns-in-Ok-clause-change g c = λ done. (c.in-Ok.made, c.in-Ok.is, c.write_made.ensures.change done)
