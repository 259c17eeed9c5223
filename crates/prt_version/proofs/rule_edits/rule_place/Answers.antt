use Rattle.prt_addr.proofs.Orders.{inserted_at}
use Rattle.prt_rule.specs.Rule.{is_before}
use Rattle.prt_version.proofs.rule_edits.rule_place.Goals as goal

pub returns-clause-place : goal.returns-clause-place
returns-clause-place c = inserted_at is_before _ _ _ _ c.rule_after.ensures c.unwrap_or.ensures
