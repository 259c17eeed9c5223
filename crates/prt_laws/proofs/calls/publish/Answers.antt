use Rattle.std.proofs.Common.{refl, sym, subst}
use Rattle.prt_refusals.specs.declared.refusal.Refusal.{Refusal}
use Rattle.prt_laws.specs.Laws.{PublishesNot}
use Rattle.prt_laws.proofs.Exits.{not_published}
use Rattle.prt_laws.proofs.Submitted.{publishes_it}
use Rattle.prt_laws.proofs.calls.publish.Goals as goal

pub returns-in-Ok-clause-ok : goal.returns-in-Ok-clause-ok
returns-in-Ok-clause-ok g c = publishes_it g.S.Store c.args.publisher.now c.publish.new.self c.in-Ok.receipt c.requires c.in-Ok.ensures.ok c.in-Ok.ensures.receipt

pub returns-in-Err-clause-err : goal.returns-in-Err-clause-err
returns-in-Err-clause-err g c = subst (λ (why : Refusal). PublishesNot g.S.Store c.args.publisher.now c.publish.new.self why) (sym c.in-Err.ensures.reason) (refl, c.in-Err.ensures.err, λ w s. not_published g.S.Store c.args.publisher.now c.publish.new.self w s c.requires c.in-Err.ensures.err)
