use Rattle.std.proofs.Common.{◌≡◌, [], ◌∷◌, subst}
use Rattle.sqlite.specs.Held.{Held}
use Rattle.prt_publisher.specs.Exits.{HaveCommitted}
use Rattle.prt_publisher.specs.Standing.{Standing}
use Rattle.prt_service.proofs.Refusals.{acknowledged_fine}
use Rattle.prt_service.proofs.publisher_with_followers.PublisherWithFollowers.submit.Goals as goal

pub returns-in-Err-clause-reason : goal.returns-in-Err-clause-reason
returns-in-Err-clause-reason g c = acknowledged_fine g.S.Store _ (c.args.command.now ∷ []) c.in-Err.reason _ c.in-Err.ensures.err

pub returns-clause-ran : goal.returns-clause-ran
returns-clause-ran g c = λ clean.
    let same : c.self.inside.publisher ≡ c.args.self.now = cc in
    subst (λ (p : Standing (Held _)). HaveCommitted g.S.Store p (c.args.command.now ∷ []) c.submit.new.self.tables) same (c.in-Ok.ensures.ran clean)
