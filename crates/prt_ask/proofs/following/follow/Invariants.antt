use Rattle.std.proofs.Common.{List, true}
use Rattle.prt_ask.specs.Fed.{AreRead}
use Rattle.prt_ask.specs.Mirrors.{Follows}
use Rattle.prt_feed.specs.declared.change.Change.{Change}
use Rattle.prt_ask.proofs.following.follow.Given as goal

-- the changes so far were read, and the lines for them written
abbrev pub invariant-loop-line : goal.invariant-loop-line
invariant-loop-line g l =
    (changes : List Change) × AreRead (g.R.Read.remaining l.initial.reader) (g.R.Read.remaining l.reader) changes
    × Follows l.initial.mirror l.mirror changes true (g.W.Write.contents l.initial.output) (g.W.Write.contents l.output)
