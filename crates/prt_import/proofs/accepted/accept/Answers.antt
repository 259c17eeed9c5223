use Rattle.std.proofs.Common.{IfOk, subst}
use Rattle.prt_import.specs.Accepted.{IsExecutedOver}
use Rattle.prt_import.proofs.Executing.{made_is_accepted}
use Rattle.prt_import.proofs.accepted.accept.Goals as goal

pub returns-clause-accepted : goal.returns-clause-accepted
returns-clause-accepted c = made_is_accepted c.accept_over.result c.args.script.now (subst (λ opening. IfOk c.accept_over.result (λ made. IsExecutedOver opening made c.args.script.now)) c.in_ok-opening.ensures.value c.accept_over.ensures.ok)
