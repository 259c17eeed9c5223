use Rattle.std.proofs.Common.{inr, rules}
use Rattle.prt_import.specs.TableNames.{names_of}
use Rattle.prt_questions.proofs.asking.ask.Goals as goal

pub returns-clause-whole : goal.returns-clause-whole
returns-clause-whole g c = λ done. (c.in-Ok.question, search (rules, c.in-Ok.ensures), names_of c.in-Ok-names_for.names, c.ask_tables.ensures.whole done)

pub returns-clause-at_most : goal.returns-clause-at_most
returns-clause-at_most g c = inr (c.in-Ok.question, search (rules, c.in-Ok.ensures), names_of c.in-Ok-names_for.names, c.ask_tables.ensures.at_most)
