use Rattle.prt_questions.proofs.importing.print_or_make.Goals as goal

pub returns-in-Some-clause-whole : goal.returns-in-Some-clause-whole
returns-in-Some-clause-whole g c = rw c.in-Some.is c.apply_to_database.ensures.whole

pub returns-in-Some-clause-at_most : goal.returns-in-Some-clause-at_most
returns-in-Some-clause-at_most g c = rw c.in-Some.is c.apply_to_database.ensures.at_most
