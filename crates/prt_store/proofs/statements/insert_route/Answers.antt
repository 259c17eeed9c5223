use Rattle.prt_store.proofs.statements.insert_route.Goals as goal

pub returns-clause-runs : goal.returns-clause-runs
returns-clause-runs g c = rw c.route_values.ensures.value at c.execute.ensures.runs
