use Rattle.std.proofs.Common.{inr}
use Rattle.prt_daemon.proofs.machine.open_ours.Goals as goal

pub returns-in-Ok-close-clause-unopened : goal.returns-in-Ok-close-clause-unopened
returns-in-Ok-close-clause-unopened g c = inr (c.in_default.ensures, inr (c.open.new.self, c.in-Ok.conn, c.in-Ok.ensures.opened, c.close.ensures))

pub returns-in-Err-close-clause-unopened : goal.returns-in-Err-close-clause-unopened
returns-in-Err-close-clause-unopened g c = inr (c.in_default.ensures, inr (c.open.new.self, c.in-Ok.conn, c.in-Ok.ensures.opened, c.close.ensures))
