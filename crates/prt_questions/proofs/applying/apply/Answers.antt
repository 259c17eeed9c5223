use Rattle.std.proofs.Common.{inr, refl, sym}
use Rattle.prt_questions.proofs.applying.apply.Goals as goal

pub returns-in-Database-clause-whole : goal.returns-in-Database-clause-whole
returns-in-Database-clause-whole g c = λ done. (c.in-Ok.made, c.in-Ok.ensures.script, rw (c.in-Database.is, sym c.in-Ok.ensures.unwritten) (c.apply_to_database.ensures.whole done))

pub returns-in-Database-clause-at_most : goal.returns-in-Database-clause-at_most
returns-in-Database-clause-at_most g c = inr (c.in-Ok.made, c.in-Ok.ensures.script, rw (c.in-Database.is, sym c.in-Ok.ensures.unwritten) c.apply_to_database.ensures.at_most)

pub returns-clause-whole : goal.returns-clause-whole
returns-clause-whole g c = λ done. (c.in-Ok.made, c.in-Ok.ensures.script, rw (c.in-Server.is, sym c.in-Ok.ensures.unwritten) (refl, c.apply_to_server.ensures.whole done))

pub returns-clause-at_most : goal.returns-clause-at_most
returns-clause-at_most g c = inr (c.in-Ok.made, c.in-Ok.ensures.script, rw (c.in-Server.is, sym c.in-Ok.ensures.unwritten) (refl, c.apply_to_server.ensures.part))
