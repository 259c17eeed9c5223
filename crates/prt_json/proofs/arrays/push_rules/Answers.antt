use Rattle.std.proofs.lemmas.Result.{on_ok_weaker}
use Rattle.prt_json.proofs.Tokens.{whole_array}
use Rattle.prt_json.proofs.arrays.push_rules.Goals as goal

pub returns-clause-ok : goal.returns-clause-ok
returns-clause-ok c =
    on_ok_weaker c.end_array.result (whole_array _ _ _ _ _ c.in_ok-begin_array.ensures.ok (rw c.rules.ensures.value at c.in_ok-push_each_rule.ensures.ok)) c.end_array.ensures.ok
