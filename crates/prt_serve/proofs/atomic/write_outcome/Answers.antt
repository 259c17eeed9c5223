use Rattle.std.proofs.Common.{◌∙◌, true, false}
use Rattle.prt_serve.proofs.atomic.write_outcome.Goals as goal

pub returns-then-write_lines : goal.returns-then-write_lines
returns-then-write_lines g c = record { whole = true; wrote = c.if-write_lines.ensures; refused_is = c.end_of-end.ensures.refused; fault_is = c.end_of-end.ensures.fault }

pub returns : goal.returns
returns g c = record { whole = false; wrote = c.if-write_lines.ensures; refused_is = c.with_write_fault.ensures.refused ∙ c.end_of-end.ensures.refused; fault_is = c.with_write_fault.ensures.fault }
