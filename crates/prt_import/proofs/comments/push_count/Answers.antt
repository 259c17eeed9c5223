use Rattle.std.proofs.Common.{◌∙◌}
use Rattle.prt_import.proofs.Counting.{counted}
use Rattle.prt_import.proofs.comments.push_count.Goals as goal

pub returns : goal.returns
returns c = counted _ c.args.count _ _ _ _ c.if-count-eq0.false (c.deref.ensures.value ∙ c.in_ok-body.ensures) (c.deref-2.ensures.value ∙ c.in_ok-comment.ensures) c.push_line.ensures
