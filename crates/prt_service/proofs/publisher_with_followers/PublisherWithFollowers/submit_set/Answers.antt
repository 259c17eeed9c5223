use Rattle.prt_service.proofs.Refusals.{acknowledged_fine}
use Rattle.prt_service.proofs.publisher_with_followers.PublisherWithFollowers.submit_set.Goals as goal

pub returns-in-Err-clause-reason : goal.returns-in-Err-clause-reason
returns-in-Err-clause-reason g c = acknowledged_fine g.S.Store _ c.args.set.commands c.in-Err.reason _ c.in-Err.ensures.err
