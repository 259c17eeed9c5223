use Rattle.prt_questions.proofs.questions.answer_question.Goals as goal

pub returns-in-Diff-clause-whole : goal.returns-in-Diff-clause-whole
returns-in-Diff-clause-whole g c = rw c.in-Diff.is c.diff.ensures.whole
