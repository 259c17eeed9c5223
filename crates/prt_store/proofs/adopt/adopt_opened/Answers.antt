use Rattle.prt_store.proofs.adopt.adopt_opened.Goals as goal

pub returns-in-Ok-adopt-clause-ok : goal.returns-in-Ok-adopt-clause-ok
returns-in-Ok-adopt-clause-ok g c = record {
  was = c.in-Ok.conn;
  found = c.in-Ok.is;
  adopted = λ clean tables. (c.in-Ok-adopt.ensures.ok clean tables, c.in-Ok-adopt.ensures.settled clean tables);
  columns = c.in-Ok-adopt.ensures.columns;
  rest = c.in-Ok-adopt.ensures.at_rest;
  survives = c.in-Ok-adopt.ensures.survives_ok;
}
