use Rattle.prt_args.proofs.NoQuestions.{is_asked}
use Rattle.prt_args.proofs.laws.nothing_is_asked.Goals as goal

pub returns : goal.returns
returns c = is_asked
