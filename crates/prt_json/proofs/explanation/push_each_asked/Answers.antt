use Rattle.std.proofs.Common.{[], ◌+◌, ◌++◌, ◌∙◌, ap, cond, drop, sym}
use Rattle.std.proofs.lemmas.List.{append-nil}
use Rattle.prt_json.specs.Steps.{asked_tokens}
use Rattle.prt_json.proofs.Asked.{asked_more}
use Rattle.prt_json.proofs.explanation.push_each_asked.Goals as goal

pub loop-rule-preserved : goal.loop-rule-preserved
loop-rule-preserved c =
    let routes = c.args.version.now.routes in
    let rest = asked_tokens (drop (c.loop-rule.rule-index + 1) c.rules-rule-items.result.now) routes c.args.packet.now in
    record {
      tokens =
          sym (ap (λ b. c.push_asked.new.out.tokens ++ cond b [] rest) c.if-branch.false)
          ∙ asked_more c.rules-rule-items.result.now c.loop-rule.rule-index c.rule-item.result routes c.args.packet.now _ _ _ c.in_ok-push_asked.field-0 c.loop-rule-test.true c.rule-item.is c.loop-rule.invariant.tokens c.in_ok-push_asked.ensures.ok c.in_ok-push_asked.ensures.decides;
      before = c.in_ok-push_asked.ensures.before ∙ c.loop-rule.invariant.before;
    }

pub returns-then-branch-clause-ok : goal.returns-then-branch-clause-ok
returns-then-branch-clause-ok c =
    let routes = c.args.version.now.routes in
    let rest = asked_tokens (drop (c.loop-rule.rule-index + 1) c.rules-rule-items.result.now) routes c.args.packet.now in
    sym (append-nil c.push_asked.new.out.tokens)
    ∙ sym (ap (λ b. c.push_asked.new.out.tokens ++ cond b [] rest) c.if-branch.true)
    ∙ asked_more c.rules-rule-items.result.now c.loop-rule.rule-index c.rule-item.result routes c.args.packet.now _ _ _ c.in_ok-push_asked.field-0 c.loop-rule-test.true c.rule-item.is c.loop-rule.invariant.tokens c.in_ok-push_asked.ensures.ok c.in_ok-push_asked.ensures.decides
    ∙ ap (λ rules. c.args.out.now.tokens ++ asked_tokens rules routes c.args.packet.now) c.rules-rule-items.ensures.value
