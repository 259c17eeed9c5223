use Rattle.std.proofs.Common.{refl, subst}
use Rattle.prt_import.specs.Accepted.{IsExecuted}
use Rattle.prt_questions.specs.LeftOut.{AreKernels}
use Rattle.prt_questions.proofs.tables.script_tables.Goals as goal

pub returns-clause-read : goal.returns-clause-read
returns-clause-read g c = (c.in_ok-made.made, c.in_ok-script.script.items, c.in_ok-script.ensures.read, subst (IsExecuted c.in_ok-made.made) c.deref.ensures.value c.in_ok-made.ensures.made, λ done. subst AreKernels c.deref-2.ensures.value (c.tell_left-left.ensures.kernels done), refl)
