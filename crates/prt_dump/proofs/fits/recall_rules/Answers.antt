use Rattle.std.proofs.Common.{rules}
use Rattle.std.proofs.lemmas.List.Elements.{AllWithin-more, at_read}
use Rattle.prt_spelling.specs.Fits.{CommandFits}
use Rattle.prt_dump.specs.Dump.{add_rule}
use Rattle.prt_dump.proofs.fits.recall_rules.Goals as goal

pub loop-rule-preserved : goal.loop-rule-preserved
loop-rule-preserved c = AllWithin-more (λ rule. CommandFits (add_rule rule)) c.args.rules.now 0 c.loop-rule.rule-index c.loop-rule.invariant (at_read c.args.rules.now (λ rule. CommandFits (add_rule rule)) c.loop-rule.rule-index c.rule-item.result (search rules) c.rule-item.is c.recall_rule.ensures)
