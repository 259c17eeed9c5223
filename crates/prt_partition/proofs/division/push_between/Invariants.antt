use Rattle.std.proofs.Common.{◌≡◌, ◌++◌, drop}
use Rattle.prt_partition.specs.Boxes.{boxes_between}
use Rattle.prt_partition.proofs.division.push_between.Given as goal

abbrev pub invariant-loop-one : goal.invariant-loop-one
invariant-loop-one l = l.boxes.items ++ boxes_between l.first l.last (drop l.one-index l.interfaces) l.marks ≡ l.fn.boxes.items ++ boxes_between l.first l.last l.interfaces l.marks
