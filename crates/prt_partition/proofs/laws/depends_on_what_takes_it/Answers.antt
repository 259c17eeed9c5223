use Rattle.prt_partition.proofs.Locality.{depends_on}
use Rattle.prt_partition.proofs.laws.depends_on_what_takes_it.Goals as goal

pub returns : goal.returns
returns c = depends_on
