use Rattle.std.proofs.Common.{inr, rules}
use Rattle.prt_args.specs.Invocation.{invocation, arguments}
use Rattle.prt_program.proofs.Reports.{reported}
use Rattle.prt_program.proofs.prt.program.Goals as goal

pub returns-clause-run : goal.returns-clause-run
returns-clause-run g c =
    let contents = g.T.Output.Write.contents in
    inr (reported g.B.Databases.refuses c.args.databases.now c.databases-1.given.0 (invocation (arguments c.args.words.now)) c.in-Err.fault c.report-status.result
    (contents c.args.output.now) (contents c.run_words.new.around.output.now) (contents c.report-status.new.output)
    c.in-Err.ensures.fault c.report-status.ensures.status c.in-Err.ensures.unwritten (search (rules, c.report-status.ensures.unwritten)) (search (rules, c.in-Err.ensures.untouched)))
