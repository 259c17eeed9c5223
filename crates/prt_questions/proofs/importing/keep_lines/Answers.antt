use Rattle.std.proofs.Common.{refl, subst}
use Rattle.prt_import.specs.Accepted.{IsExecuted}
use Rattle.prt_questions.specs.LeftOut.{AreKernels}
use Rattle.prt_questions.proofs.Statuses.{both_done}
use Rattle.prt_questions.proofs.importing.keep_lines.Goals as goal

pub returns-clause-made : goal.returns-clause-made
returns-clause-made g c = record {
  names = c.in-Ok.ensures.0;
  imported = c.in-Ok.imported;
  is_of = c.in-Ok.ensures.1;
  are_left = refl;
  executed = subst (IsExecuted c.in-Ok-accept.accepted) c.deref.ensures.value c.in-Ok-accept.ensures.ok;
}

pub returns-clause-kept : goal.returns-clause-kept
returns-clause-kept g c = λ done.
    let both = both_done _ _ _ c.or_left.ensures done in
    (subst AreKernels c.deref-3.ensures.value (c.tell_left-left.ensures.kernels both.0), subst AreKernels c.deref-4.ensures.value (c.tell_refused-refused.ensures.kernels both.1))
