use Rattle.std.proofs.Common.{refl}
use Rattle.prt_serve.proofs.Comments.{counts_nothing, no_comments, same_feed}
use Rattle.prt_serve.proofs.laws.comments_say_nothing.Goals as goal

pub returns : goal.returns
returns c = record { beats = refl; counts = counts_nothing; lines = no_comments; text = same_feed }
