use Rattle.std.proofs.Common.{refl, sym, subst, ap}
use Rattle.sqlite.specs.Held.{Held}
use Rattle.prt_publisher.specs.Standing.{Standing}
use Rattle.prt_refusals.specs.declared.refusal.Refusal.{Refusal}
use Rattle.prt_laws.specs.Laws.{PublishesNot}
use Rattle.prt_laws.proofs.Exits.{not_published, published}
use Rattle.prt_laws.proofs.calls.show.Goals as goal

pub returns-in-Ok-clause-ok : goal.returns-in-Ok-clause-ok
returns-in-Ok-clause-ok g c = (ap (λ (p : Standing (Held _)). p.phase) c.in-Ok.ensures.ok.0, λ w s. published g.S.Store c.args.publisher.now c.show.new.self w s c.requires c.in-Ok.ensures.ok)

pub returns-in-Err-clause-err : goal.returns-in-Err-clause-err
returns-in-Err-clause-err g c = subst (λ (why : Refusal). PublishesNot g.S.Store c.args.publisher.now c.show.new.self why) (sym c.in-Err.ensures.reason) (refl, c.in-Err.ensures.err, λ w s. not_published g.S.Store c.args.publisher.now c.show.new.self w s c.requires c.in-Err.ensures.err)
