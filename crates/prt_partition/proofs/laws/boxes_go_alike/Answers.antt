use Rattle.prt_partition.proofs.BoxList.{box_goes_alike}
use Rattle.prt_partition.proofs.laws.boxes_go_alike.Goals as goal

pub returns : goal.returns
returns c = box_goes_alike
