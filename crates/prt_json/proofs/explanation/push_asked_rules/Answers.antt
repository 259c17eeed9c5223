use Rattle.std.proofs.Common.{map}
use Rattle.std.proofs.lemmas.Result.{on_ok_weaker}
use Rattle.prt_explain.specs.Explanation.{asked_rules}
use Rattle.prt_json.specs.ExplanationJson.{asked_json}
use Rattle.prt_json.proofs.Tokens.{whole_array}
use Rattle.prt_json.proofs.explanation.push_asked_rules.Goals as goal

pub returns-clause-ok : goal.returns-clause-ok
returns-clause-ok c =
    let state = c.args.version.now in
    let packet = c.args.packet.now in
    on_ok_weaker c.end_array.result
    (whole_array (map (asked_json state.routes packet) (asked_rules state.rules state.routes packet)) _ _ _ _ c.in_ok-begin_array.ensures.ok c.in_ok-push_each_asked.ensures.ok)
    c.end_array.ensures.ok
