use Rattle.prt_store.proofs.statements.insert_length.Goals as goal

pub returns-clause-runs : goal.returns-clause-runs
returns-clause-runs g c = rw c.length_values.ensures at c.execute.ensures.runs
