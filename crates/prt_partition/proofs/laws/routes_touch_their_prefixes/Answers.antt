use Rattle.prt_partition.proofs.Locality.{put_out, remove_out}
use Rattle.prt_partition.proofs.laws.routes_touch_their_prefixes.Goals as goal

pub returns : goal.returns
returns c = record { put = put_out; removed = remove_out }
