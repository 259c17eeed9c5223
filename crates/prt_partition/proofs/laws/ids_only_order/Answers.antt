use Rattle.prt_partition.proofs.Locality.{same_but_ids}
use Rattle.prt_partition.proofs.laws.ids_only_order.Goals as goal

pub returns : goal.returns
returns c = same_but_ids
