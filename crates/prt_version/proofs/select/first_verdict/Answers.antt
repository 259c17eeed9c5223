use Rattle.prt_version.proofs.select.first_verdict.Goals as goal

pub first_found-requires : goal.first_found-requires
first_found-requires c = c.all.ensures c.args.routes.now
