use Rattle.prt_args.proofs.Places.{slash_is}
use Rattle.prt_args.proofs.server_place.is_folder.Goals as goal

pub returns : goal.returns
returns c = slash_is c.args.word.now c.contains.result c.contains.ensures.cases
