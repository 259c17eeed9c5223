use Rattle.std.specs.List.{flat_map}
use Rattle.prt_listing.specs.AnswerText.{answer_text}
use Rattle.prt_version.specs.Select.{select}
use Rattle.prt_explain.specs.Explanation.{asked_rules, packet_text, rule_lines}
use Rattle.prt_explain.proofs.Texts.{whole_pushed}
use Rattle.prt_explain.proofs.explanation.explanation_text.Goals as goal

pub returns-clause-ok : goal.returns-clause-ok
returns-clause-ok c =
    let state = c.args.version.now in
    let packet = c.args.packet.now in
    whole_pushed c.args.out.now.items c.new-text.result.items _ _ _ _ _ (packet_text packet) (answer_text (record { number = state.count; verdict = select state packet }))
    (flat_map (λ rule. rule_lines rule state.routes packet) (asked_rules state.rules state.routes packet))
    c.new-text.ensures.items c.in_ok-push_packet.ensures c.in_ok-push_asked_rules.ensures c.in_ok-query_text.ensures.ok c.deref.ensures.value c.in_ok-extend_from_slice.ensures.items
