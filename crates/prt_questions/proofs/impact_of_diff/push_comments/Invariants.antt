use Rattle.std.proofs.Common.{◌≡◌, ◌++◌}
use Rattle.std.specs.Prelude.{drop}
use Rattle.prt_questions.specs.Asking.{comments_of}
use Rattle.prt_questions.proofs.impact_of_diff.push_comments.Given as goal

abbrev pub invariant-loop-group : goal.invariant-loop-group
invariant-loop-group l = l.out.items ++ comments_of (drop l.group-index l.groups) ≡ l.fn.out.items ++ comments_of l.groups
