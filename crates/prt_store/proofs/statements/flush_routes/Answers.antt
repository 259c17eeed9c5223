use Rattle.prt_store.proofs.statements.flush_routes.Goals as goal

pub returns-clause-runs : goal.returns-clause-runs
returns-clause-runs g c = rw c.selector_values.ensures.value at c.execute.ensures.runs
