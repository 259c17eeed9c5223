use Rattle.prt_listing.proofs.Kept.{keeps_before_one}
use Rattle.prt_listing.proofs.query.push_rule_line.Goals as goal

pub returns-clause-err : goal.returns-clause-err
returns-clause-err c = keeps_before_one c.push_text.result _ _ _ _ c.in_ok-push_rule.ensures.ok c.push_text.ensures.err
