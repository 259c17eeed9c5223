use Rattle.std.proofs.Common.{[], ◌∷◌, ◌++◌, refl, subst, true}
use Rattle.prt_feed.specs.Changes.{IsTold}
use Rattle.prt_ask.specs.Ends.{is_whole}
use Rattle.prt_ask.proofs.Followed.{follows_both, follows_none, last_followed, read_change, read_comment, read_none}
use Rattle.prt_ask.proofs.following.follow.Goals as goal

pub loop-line-init : goal.loop-line-init
loop-line-init g c = ([], read_none _, follows_none c.args.mirror.now true _ refl)

pub loop-line-preserved-in-Ok-None : goal.loop-line-preserved-in-Ok-None
loop-line-preserved-in-Ok-None g c =
    let so_far = c.loop-line.invariant in
    (so_far.0, read_comment _ _ _ so_far.0 so_far.1 (subst (IsTold (g.R.Read.remaining c.loop-line.reader) (g.R.Read.remaining c.read_change.new.reader)) c.in-Ok-None.field-0-is c.in-Ok-None.ensures), so_far.2)

pub returns-in-Err-write_lines : goal.returns-in-Err-write_lines
returns-in-Err-write_lines g c =
    let so_far = c.loop-line.invariant in
    let last = c.in-Err-write_lines.ensures in
    last_followed _ _ _ c.args.mirror.now c.loop-line.mirror c.write_lines.new.mirror c.in-Ok-Some.change so_far.0 last.0 (is_whole c.in-Err-write_lines.end) _ _ _ so_far.1 (subst (IsTold (g.R.Read.remaining c.loop-line.reader) (g.R.Read.remaining c.read_change.new.reader)) c.in-Ok-Some.field-0-is c.in-Ok-Some.ensures) so_far.2 last.1 last.2

pub loop-line-preserved : goal.loop-line-preserved
loop-line-preserved g c =
    let so_far = c.loop-line.invariant in
    let change = c.in-Ok-Some.change in (
      so_far.0 ++ change ∷ [],
      read_change _ _ _ so_far.0 change so_far.1 (subst (IsTold (g.R.Read.remaining c.loop-line.reader) (g.R.Read.remaining c.read_change.new.reader)) c.in-Ok-Some.field-0-is c.in-Ok-Some.ensures),
      follows_both c.args.mirror.now c.loop-line.mirror c.write_lines.new.mirror so_far.0 (change ∷ []) true _ _ _ so_far.2 c.in_default.ensures,
    )
