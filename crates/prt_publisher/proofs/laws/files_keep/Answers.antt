use Rattle.prt_publisher.proofs.Files as openings
use Rattle.prt_publisher.proofs.laws.files_keep.Goals as goal

pub returns : goal.returns
returns g c = openings.files_keep g.V.Disk g.met.V.Disk.seen_may_stay
