use Rattle.std.proofs.Common.{refl}
use Rattle.prt_args.specs.Invocation.{invocation, arguments}
use Rattle.prt_program.proofs.Reports.{at_fault, unread, untouched}
use Rattle.prt_program.specs.Faults.{database_of}
use Rattle.prt_program.proofs.prt.run_words.Goals as goal

pub returns-in_err-batch-clause-unread : goal.returns-in_err-batch-clause-unread
returns-in_err-batch-clause-unread g c = unread (invocation (arguments c.args.words.now)) (g.R.Read.remaining c.args.input.now)

pub returns-in_err-batch-clause-untouched : goal.returns-in_err-batch-clause-untouched
returns-in_err-batch-clause-untouched g c =
    let databases = c.args.around.now.databases.now in
    at_fault c.from_residual.result (untouched g.H.Databases.Databases.refuses databases databases (database_of (invocation (arguments c.args.words.now))) refl)
