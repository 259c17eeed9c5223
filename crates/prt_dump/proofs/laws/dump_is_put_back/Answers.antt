use Rattle.prt_dump.proofs.Sessions.{put_back}
use Rattle.prt_dump.proofs.laws.dump_is_put_back.Goals as goal

pub returns : goal.returns
returns c = put_back
