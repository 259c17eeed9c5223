use Rattle.std.proofs.Common.{inr, subst}
use Rattle.prt_import.specs.Accepted.{IsExecuted}
use Rattle.prt_questions.specs.Asking.{named_answer}
use Rattle.prt_questions.specs.LeftOut.{AreKernels}
use Rattle.prt_questions.proofs.Statuses.{both_done}
use Rattle.prt_questions.proofs.Asked.{whole_answer}
use Rattle.prt_questions.proofs.asking.ask_script.Goals as goal

pub returns-clause-whole : goal.returns-clause-whole
returns-clause-whole g c = λ done.
    let both = both_done _ _ _ c.or_left.ensures done in (
      c.in-Ok-run_over_new.made,
      c.in-Ok.script.items,
      c.in-Ok.ensures.read,
      subst (IsExecuted c.in-Ok-run_over_new.made) c.deref.ensures.value c.in-Ok-run_over_new.ensures.made,
      subst AreKernels c.deref-2.ensures.value (c.tell_left-left.ensures.kernels both.1),
      rw (← c.in-Ok.ensures.unwritten, ← c.in-Ok-run_over_new.ensures.unwritten) (c.write_answer-written.ensures.whole (named_answer c.args.inquiry.now c.in-Ok-run_over_new.made.version) c.named_answer-answered.ensures.text both.0),
      whole_answer c.args.inquiry.now.question c.in-Ok-run_over_new.made.version c.named_answer-answered.result c.named_answer-answered.ensures.notes (c.write_answer-written.ensures.change both.0),
    )

pub returns-clause-part : goal.returns-clause-part
returns-clause-part g c = inr (
  c.in-Ok-run_over_new.made,
  c.in-Ok.script.items,
  c.in-Ok.ensures.read,
  subst (IsExecuted c.in-Ok-run_over_new.made) c.deref.ensures.value c.in-Ok-run_over_new.ensures.made,
  rw (← c.in-Ok.ensures.unwritten, ← c.in-Ok-run_over_new.ensures.unwritten) (c.write_answer-written.ensures.part (named_answer c.args.inquiry.now c.in-Ok-run_over_new.made.version) c.named_answer-answered.ensures.text),
)
