use Rattle.std.proofs.Common.{◌≡◌, ◌++◌, drop}
use Rattle.prt_partition.specs.Boxes.{boxes_from}
use Rattle.prt_partition.proofs.division.boxes_from.Given as goal

abbrev pub invariant-loop-i : goal.invariant-loop-i
invariant-loop-i l = l.boxes.items ++ boxes_from (drop l.i l.starts) l.interfaces l.marks ≡ boxes_from l.starts l.interfaces l.marks
