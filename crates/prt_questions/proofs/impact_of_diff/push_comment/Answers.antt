use Rattle.std.specs.Prelude.{codes, ◌++◌}
use Rattle.prt_impact.specs.Text.{group_text}
use Rattle.prt_questions.proofs.Comments.{appended}
use Rattle.prt_questions.proofs.impact_of_diff.push_comment.Goals as goal

pub returns : goal.returns
returns c = appended c.push_group_line.result c.args.out.now.items c.extend_from_slice.new.self.items c.push_group_line.new.out.items (codes "# ") (group_text c.args.group.now ++ codes "\n") c.in_ok-extend_from_slice.ensures.items c.push_group_line.ensures
