use Rattle.std.proofs.Common.{◌∙◌}
use Rattle.prt_host.proofs.Served.{not_served_status}
use Rattle.prt_host.proofs.server.serve.Goals as goal

pub returns-clause-fault : goal.returns-clause-fault
returns-clause-fault g c not_done =
    c.report.ensures
    ∙ not_served_status g.H.Store.Store g.H-Opener-DatabaseOpener c.args.databases.now.opener c.open_and_serve-served.new.databases.opener c.args.asked.now.database.now c.in-Err.failure.fault c.in-Err.ensures.err

pub returns-clause-why : goal.returns-clause-why
returns-clause-why g c not_done = (c.in-Err.failure.fault, c.in-Err.ensures.err)
