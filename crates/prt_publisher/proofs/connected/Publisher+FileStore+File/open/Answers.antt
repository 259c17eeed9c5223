use Rattle.std.proofs.lemmas.Result.{IfErr-weaker, IfOk-weaker}
use Rattle.prt_publisher.proofs.Openings.{opens_found, refuses_found}
use Rattle.prt_publisher.proofs.connected.Publisher+FileStore+File.open.Goals as goal

pub returns-clause-ok : goal.returns-clause-ok
returns-clause-ok c = IfOk-weaker c.publisher_over.result _ _ (λ made one. opens_found _ _ c.open.result c.open.ensures.opened made.0 one) c.publisher_over.ensures.ok

pub returns-clause-err : goal.returns-clause-err
returns-clause-err c = IfErr-weaker c.publisher_over.result _ _ (λ refused one. refuses_found _ _ c.open.result c.open.ensures.opened refused.0 refused.1 one) c.publisher_over.ensures.err

pub returns-clause-unopened : goal.returns-clause-unopened
returns-clause-unopened c = IfErr-weaker c.publisher_over.result _ _ (λ refused one. IfErr-weaker refused.1 _ _ (λ _ says. says.1) one) c.publisher_over.ensures.unopened
