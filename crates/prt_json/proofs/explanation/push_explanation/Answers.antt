use Rattle.std.proofs.Common.{[], ◌∷◌, Some, codes}
use Rattle.std.proofs.lemmas.Result.{on_ok_weaker}
use Rattle.prt_json.specs.ExplanationJson.{asked_rules_json, packet_fields}
use Rattle.prt_json.specs.Fields.{object_of}
use Rattle.prt_json.specs.Json.{answer_json}
use Rattle.prt_json.proofs.Tokens.{one_pushed, then_fields, whole_object}
use Rattle.prt_json.proofs.explanation.push_explanation.Goals as goal

pub returns-clause-ok : goal.returns-clause-ok
returns-clause-ok c =
    let state = c.args.version.now in
    let packet = c.args.packet.now in
    let asked = object_of (packet_fields packet) in
    let rules = asked_rules_json state packet in
    let answer = answer_json state packet in
    let first = one_pushed (codes "packet") asked _ _ _ c.in_ok-key.ensures.ok (rw c.packet_fields.ensures at c.in_ok-push_object.ensures.ok) in
    let second = one_pushed (codes "rules") rules _ _ _ c.in_ok-key-2.ensures.ok c.in_ok-push_asked_rules.ensures.ok in
    let third = one_pushed (codes "answer") answer _ _ _ c.in_ok-key-3.ensures.ok c.in_ok-push_answer.ensures.ok in
    let two = then_fields (Some (codes "packet", asked) ∷ []) (Some (codes "rules", rules) ∷ []) _ _ _ first second in
    let three = then_fields (Some (codes "packet", asked) ∷ Some (codes "rules", rules) ∷ []) (Some (codes "answer", answer) ∷ []) _ _ _ two third in
    on_ok_weaker c.end_object.result
    (whole_object (Some (codes "packet", asked) ∷ Some (codes "rules", rules) ∷ Some (codes "answer", answer) ∷ []) _ _ _ _ c.in_ok-begin_object.ensures.ok three)
    c.end_object.ensures.ok
