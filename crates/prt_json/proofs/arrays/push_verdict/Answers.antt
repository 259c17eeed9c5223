use Rattle.std.proofs.lemmas.Result.{on_ok_weaker}
use Rattle.prt_json.specs.AnswerJson.{route_answer}
use Rattle.prt_json.specs.Fields.{object_of}
use Rattle.prt_json.proofs.Tokens.{one_value}
use Rattle.prt_json.proofs.arrays.push_verdict.Goals as goal

pub returns-in-Route-clause-ok : goal.returns-in-Route-clause-ok
returns-in-Route-clause-ok c =
    let one = one_value (object_of (route_answer c.args.packet.now c.in-Route.route)) c.args.out.now.tokens c.push_object.new.out.tokens in
    rw c.in-Route.is (on_ok_weaker c.push_object.result one (rw c.route_answer.ensures at c.push_object.ensures.ok))
