use Rattle.prt_listing.specs.RuleText.{rule_text}
use Rattle.prt_listing.proofs.Kept.{anyhow, keeps_before}
use Rattle.prt_listing.proofs.ListingLines.{listed_more}
use Rattle.prt_listing.proofs.query.push_rules.Goals as goal

pub loop-rule-preserved : goal.loop-rule-preserved
loop-rule-preserved c = listed_more rule_text c.args.rules.now c.loop-rule.rule-index c.rule-item.result _ _ _ c.loop-rule-test.true c.rule-item.is c.loop-rule.invariant c.in_ok-push_rule_line.ensures.ok

pub returns-in_err-push_rule_line-clause-err : goal.returns-in_err-push_rule_line-clause-err
returns-in_err-push_rule_line-clause-err c = anyhow c.from_residual.result _ (keeps_before _ _ _ _ c.loop-rule.invariant c.in_err-push_rule_line.ensures.err)
