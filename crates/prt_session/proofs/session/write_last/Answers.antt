use Rattle.std.proofs.Common.{true, false, ◌∙◌}
use Rattle.prt_session.proofs.session.write_last.Goals as goal

pub returns-then-write : goal.returns-then-write
returns-then-write g c = record { whole = true; wrote = c.if-write.ensures.written; refused_is = c.with_reply-end.ensures.refused; fault_is = c.with_reply-end.ensures.fault }

pub returns : goal.returns
returns g c = record { whole = false; wrote = c.if-write.ensures.written; refused_is = c.with_write_fault.ensures.refused ∙ c.with_reply-end.ensures.refused; fault_is = c.with_write_fault.ensures.fault }
