use Rattle.std.proofs.Common.{Some, refl}
use Rattle.prt_session.specs.Desk.{no_memory}
use Rattle.prt_session.proofs.script.AtDeskExecutor.execute.Goals as goal

-- what befalls the query is that memory was refused
pub returns-in-Err-answer-clause-turn : goal.returns-in-Err-answer-clause-turn
returns-in-Err-answer-clause-turn g c = λ after stands.
    let before = c.answer.ensures.turn after stands in
    let refused = c.in-Err-answer.ensures.err in
    (before.0, before.1, (Some no_memory, refused.1, rw (c.in-Query.is, refused.0) refl, rw c.in-Query.is before.2.0))
