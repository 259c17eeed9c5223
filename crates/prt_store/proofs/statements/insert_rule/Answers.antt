use Rattle.prt_store.proofs.statements.insert_rule.Goals as goal

pub returns-clause-runs : goal.returns-clause-runs
returns-clause-runs g c = rw c.rule_values.ensures.value at c.execute.ensures.runs
