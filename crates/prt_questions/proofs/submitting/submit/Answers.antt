use Rattle.std.proofs.Common.{◌≡◌, ◌≤◌, ap, length, arith}
use Rattle.std.proofs.lemmas.Bool.Decides.{nat_tests}
use Rattle.prt_session.proofs.AtomicRuns.{no_fault_there}
use Rattle.prt_questions.proofs.submitting.submit.Goals as goal

pub send_commands-requires-clause-quiet : goal.send_commands-requires-clause-quiet
send_commands-requires-clause-quiet g c = (c.if-end.false, no_fault_there c.args.read.now.end.fault c.is_some.result c.is_some.ensures c.if-is_some.false)

pub send_commands-requires-clause-some : goal.send_commands-requires-clause-some
send_commands-requires-clause-some g c =
    let commands = c.args.read.now.commands.items in
    let many : 1 ≤ length commands = grind (arith, nat_tests) in
    λ none. let zero : length commands ≡ 0 = ap length none in absurd (omega (arith, many, zero))
