use Rattle.std.proofs.Common.{[], ◌∷◌, ◌++◌, codes, cond}
use Rattle.prt_rule.specs.Rule.{matches}
use Rattle.prt_json.specs.ExplanationJson.{asked_fields, decides, lookup_fields, match_fields, truth_field}
use Rattle.prt_json.specs.RuleJson.{rule_fields}
use Rattle.prt_json.proofs.Tokens.{then_fields, whole_object}
use Rattle.prt_json.proofs.explanation.push_asked.Goals as goal

pub returns-clause-ok : goal.returns-clause-ok
returns-clause-ok c =
    let rule = c.args.rule.now in
    let packet = c.args.packet.now in
    let routes = c.args.version.now.routes in
    let looked = cond (matches rule packet) (lookup_fields rule.action rule.suppress routes packet.dst) [] in
    let last = truth_field (codes "decides") (decides routes packet rule) ∷ [] in
    let ends = then_fields looked last _ _ _ c.in_ok-decides.ensures.ok (rw (c.truth_field.ensures, c.in_ok-decides.ensures.decides) at c.in_ok-push_fields-3.ensures.ok) in
    let more = then_fields (match_fields rule packet) (looked ++ last) _ _ _ (rw c.match_fields.ensures at c.in_ok-push_fields-2.ensures.ok) ends in
    let all = then_fields (rule_fields rule) (match_fields rule packet ++ (looked ++ last)) _ _ _ (rw c.rule_fields.ensures at c.in_ok-push_fields.ensures.ok) more in
    whole_object (asked_fields routes packet rule) _ _ _ _ c.in_ok-begin_object.ensures.ok all c.in_ok-end_object.ensures.ok
