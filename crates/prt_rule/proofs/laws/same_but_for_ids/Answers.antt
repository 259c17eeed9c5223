use Rattle.prt_rule.proofs.SameRules.{rules_same}
use Rattle.prt_rule.proofs.laws.same_but_for_ids.Goals as goal

pub returns : goal.returns
returns c = rules_same
