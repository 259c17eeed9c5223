use Rattle.std.proofs.Common.{◌≡◌, ◌++◌, drop}
use Rattle.std.specs.Prelude.{map}
use Rattle.prt_partition.specs.Boxes.{all_interfaces}
use Rattle.prt_partition.specs.declared.packet_box.Interfaces.TheVariants.{Named}
use Rattle.prt_partition.proofs.division.all_interfaces.Given as goal

abbrev pub invariant-loop-name : goal.invariant-loop-name
invariant-loop-name l = l.interfaces.items ++ map Named (drop l.name-index l.names) ≡ all_interfaces l.names
