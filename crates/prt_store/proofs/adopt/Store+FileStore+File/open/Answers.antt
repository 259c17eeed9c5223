use Rattle.std.proofs.lemmas.Result.{IfErr-weaker, IfOk-weaker}
use Rattle.prt_store.proofs.Adoptions.{adopts_found, refuses_found}
use Rattle.prt_store.proofs.adopt.Store+FileStore+File.open.Goals as goal

pub returns-clause-ok : goal.returns-clause-ok
returns-clause-ok c = IfOk-weaker c.adopt_opened.result _ _ (λ store one. adopts_found _ _ c.open.result c.open.ensures.opened store.conn one) c.adopt_opened.ensures.ok

pub returns-clause-err : goal.returns-clause-err
returns-clause-err c = IfErr-weaker c.adopt_opened.result _ _ (λ refused one. refuses_found _ _ c.open.result c.open.ensures.opened refused.1 one) c.adopt_opened.ensures.err
