use Rattle.prt_listing.proofs.Kept.{keeps_before_two}
use Rattle.prt_listing.proofs.rule.push_rule.Goals as goal

pub returns-clause-err : goal.returns-clause-err
returns-clause-err c = keeps_before_two _ _ _ _ _ _ _ c.in_ok-push_number.ensures.ok c.in_ok-push_text.ensures.ok c.push_parts.ensures.err
