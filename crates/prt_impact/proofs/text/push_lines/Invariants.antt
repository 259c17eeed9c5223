use Rattle.std.proofs.Common.{◌≡◌, ◌++◌, map, take}
use Rattle.prt_listing.specs.QueryText.{lines_text}
use Rattle.prt_impact.specs.Text.{group_text}
use Rattle.prt_impact.proofs.text.push_lines.Given as goal

abbrev pub invariant-loop-group : goal.invariant-loop-group
invariant-loop-group l = l.out.items ≡ l.fn.out.items ++ lines_text (map group_text (take l.group-index l.groups))
