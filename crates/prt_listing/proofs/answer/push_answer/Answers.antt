use Rattle.prt_listing.proofs.Kept.{keeps_before_two}
use Rattle.prt_listing.proofs.answer.push_answer.Goals as goal

pub returns-in_ok-push_text-in-Route-clause-err : goal.returns-in_ok-push_text-in-Route-clause-err
returns-in_ok-push_text-in-Route-clause-err c =
    keeps_before_two _ _ _ _ _ _ _ c.in_ok-push_parts-in-Route.ensures.ok c.in_ok-push_text-in-Route.ensures.ok c.push_route.ensures.err
