use Rattle.std.proofs.Common.{◌≡◌, ◌++◌, drop}
use Rattle.std.specs.Prelude.{map}
use Rattle.prt_partition.specs.Boxes.{box_of}
use Rattle.prt_partition.proofs.division.push_marks.Given as goal

abbrev pub invariant-loop-mark : goal.invariant-loop-mark
invariant-loop-mark l = l.boxes.items ++ map (box_of l.first l.last l.interfaces) (drop l.mark-index l.marks) ≡ l.fn.boxes.items ++ map (box_of l.first l.last l.interfaces) l.marks
