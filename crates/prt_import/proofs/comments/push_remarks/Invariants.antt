use Rattle.std.proofs.Common.{◌≡◌, ◌++◌, drop, flat_map, map}
use Rattle.prt_import.specs.Comments.{remark_comment}
use Rattle.prt_import.specs.Told.{remark_of}
use Rattle.prt_import.proofs.comments.push_remarks.Given as goal

abbrev pub invariant-loop-line : goal.invariant-loop-line
invariant-loop-line l = l.fn.out.items ++ flat_map remark_comment (map remark_of l.left) ≡ l.out.items ++ flat_map remark_comment (map remark_of (drop l.line-index l.left))
