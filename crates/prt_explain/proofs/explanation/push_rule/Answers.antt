use Rattle.std.proofs.Common.{[], ◌∙◌, ◌++◌, ap, cond}
use Rattle.prt_rule.specs.Rule.{matches}
use Rattle.prt_listing.specs.RuleText.{rule_text}
use Rattle.prt_explain.specs.Explanation.{action_notes, first_mismatch, match_notes}
use Rattle.prt_explain.specs.Steps.{notes_text}
use Rattle.prt_explain.proofs.Texts.{rule_pushed, then_ok}
use Rattle.prt_explain.proofs.explanation.push_rule.Goals as goal

pub returns-clause-text : goal.returns-clause-text
returns-clause-text c =
    let rule = c.args.rule.now in
    let packet = c.args.packet.now in
    let notes = action_notes rule.action rule.suppress c.args.version.now.routes packet.dst in
    then_ok c.push_action_notes.result
    (λ pushed. rule_pushed c.args.out.now.items _ _ _ (rule_text rule) (match_notes rule.inverted (first_mismatch rule packet)) (cond (matches rule packet) notes [])
    c.in_ok-push_rule_line.ensures
    (c.in_ok-push_match_notes.ensures ∙ ap (λ mismatch. c.push_rule_line.new.out.items ++ notes_text (match_notes rule.inverted mismatch)) c.first_mismatch.ensures)
    (pushed ∙ ap (λ b. c.push_match_notes.new.out.items ++ notes_text (cond b notes [])) c.if-not-matches.ensures))
    c.push_action_notes.ensures.text
