use Rattle.prt_addr.proofs.Orders.{inserted_at}
use Rattle.prt_diff.specs.Rules.{has_lower_priority}
use Rattle.prt_diff.proofs.rules.rule_place.Goals as goal

pub returns-clause-place : goal.returns-clause-place
returns-clause-place c = inserted_at has_lower_priority _ _ _ _ c.rule_after.ensures c.unwrap_or.ensures
