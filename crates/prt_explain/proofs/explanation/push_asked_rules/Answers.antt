use Rattle.std.proofs.Common.{[], ◌+◌, ◌++◌, ◌∙◌, ap, cond, drop, sym}
use Rattle.std.proofs.lemmas.List.{append-nil}
use Rattle.prt_explain.specs.Steps.{asked_text}
use Rattle.prt_explain.proofs.Texts.{asked_more}
use Rattle.prt_explain.proofs.explanation.push_asked_rules.Goals as goal

pub loop-rule-preserved : goal.loop-rule-preserved
loop-rule-preserved c =
    let routes = c.args.version.now.routes in
    let rest = asked_text (drop (c.loop-rule.rule-index + 1) c.rules-rule-items.result.now) routes c.args.packet.now in
    sym (ap (λ b. c.push_rule.new.out.items ++ cond b [] rest) c.if-branch.false)
    ∙ asked_more c.rules-rule-items.result.now c.loop-rule.rule-index c.rule-item.result routes c.args.packet.now _ _ _ c.in_ok-push_rule.field-0 c.loop-rule-test.true c.rule-item.is c.loop-rule.invariant c.in_ok-push_rule.ensures.text c.in_ok-push_rule.ensures.decides

pub returns-then-branch : goal.returns-then-branch
returns-then-branch c =
    let routes = c.args.version.now.routes in
    let rest = asked_text (drop (c.loop-rule.rule-index + 1) c.rules-rule-items.result.now) routes c.args.packet.now in
    sym (append-nil c.push_rule.new.out.items)
    ∙ sym (ap (λ b. c.push_rule.new.out.items ++ cond b [] rest) c.if-branch.true)
    ∙ asked_more c.rules-rule-items.result.now c.loop-rule.rule-index c.rule-item.result routes c.args.packet.now _ _ _ c.in_ok-push_rule.field-0 c.loop-rule-test.true c.rule-item.is c.loop-rule.invariant c.in_ok-push_rule.ensures.text c.in_ok-push_rule.ensures.decides
    ∙ ap (λ rules. c.args.out.now.items ++ asked_text rules routes c.args.packet.now) c.rules-rule-items.ensures.value
