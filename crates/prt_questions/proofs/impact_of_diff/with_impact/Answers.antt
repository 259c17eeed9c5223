use Rattle.std.proofs.Common.{◌++◌, ◌∙◌, ap}
use Rattle.prt_questions.specs.Asking.{comments_of}
use Rattle.prt_questions.proofs.impact_of_diff.with_impact.Goals as goal

pub returns : goal.returns
returns c = record {
  made = c.in_ok-made.made;
  executed = c.in_ok-made.ensures.ok;
  groups = c.in_ok-groups.groups.items;
  are = c.in_ok-groups.ensures.value;
  is = c.in_ok-with_comments.ensures ∙ ap (λ groups. comments_of groups ++ c.args.lines.now) c.deref.ensures.value;
}
