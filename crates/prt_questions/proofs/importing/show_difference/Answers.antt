use Rattle.prt_questions.proofs.importing.show_difference.Goals as goal

pub returns-in-Lines-clause-whole : goal.returns-in-Lines-clause-whole
returns-in-Lines-clause-whole g c = rw c.in-Lines.is c.ask_source.ensures.whole

pub returns-in-Lines-clause-at_most : goal.returns-in-Lines-clause-at_most
returns-in-Lines-clause-at_most g c = rw c.in-Lines.is c.ask_source.ensures.at_most

pub returns-in-Impact-clause-whole : goal.returns-in-Impact-clause-whole
returns-in-Impact-clause-whole g c = rw c.in-Impact.is c.diff_with_impact.ensures.whole

pub returns-in-Impact-clause-at_most : goal.returns-in-Impact-clause-at_most
returns-in-Impact-clause-at_most g c = rw c.in-Impact.is c.diff_with_impact.ensures.at_most
