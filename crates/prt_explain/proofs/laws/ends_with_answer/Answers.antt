use Rattle.std.specs.List.{flat_map}
use Rattle.prt_listing.specs.AnswerText.{answer_text}
use Rattle.prt_version.specs.Select.{select}
use Rattle.prt_explain.specs.Explanation.{asked_rules, packet_text, rule_lines}
use Rattle.prt_explain.proofs.Texts.{whole_text}
use Rattle.prt_explain.proofs.laws.ends_with_answer.Goals as goal

pub returns : goal.returns
returns c = λ state packet.
    whole_text (packet_text packet) (answer_text (record { number = state.count; verdict = select state packet }))
    (flat_map (λ rule. rule_lines rule state.routes packet) (asked_rules state.rules state.routes packet))
