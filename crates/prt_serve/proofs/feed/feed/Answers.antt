use Rattle.std.proofs.Common.{◌≡◌, ◌∙◌, sym}
use Rattle.prt_published.specs.Line.{line_state}
use Rattle.prt_serve.specs.Requests.{number_of}
use Rattle.prt_serve.proofs.FeedTexts.{feeds_opening, feeds_part, feeds_whole}
use Rattle.prt_serve.proofs.feed.feed.Goals as goal

pub returns : goal.returns
returns g c =
    let is : c.deref.result.now ≡ line_state c.args.follower.now = cc in
    let counted : (line_state c.args.follower.now).count ≡ number_of c.args.follower.now = sym c.number-number.ensures.count ∙ c.number-number.ensures.value in
    feeds_whole c.args.follower.now c.tell_on-is_whole.new.follower c.deref.result.now c.write_opening-is_written.result c.tell_on-is_whole.result _ _ _ c.if-not-is_written.false is counted c.write_opening-is_written.ensures c.tell_on-is_whole.ensures

pub returns-in_default : goal.returns-in_default
returns-in_default g c =
    let is : c.deref.result.now ≡ line_state c.args.follower.now = cc in
    let counted : (line_state c.args.follower.now).count ≡ number_of c.args.follower.now = sym c.number-number.ensures.count ∙ c.number-number.ensures.value in
    feeds_opening c.args.follower.now c.deref.result.now c.write_opening-is_written.result _ _ c.if-not-is_written.false is counted c.write_opening-is_written.ensures

pub returns-then-not-is_written : goal.returns-then-not-is_written
returns-then-not-is_written g c =
    let is : c.deref.result.now ≡ line_state c.args.follower.now = cc in
    let counted : (line_state c.args.follower.now).count ≡ number_of c.args.follower.now = sym c.number-number.ensures.count ∙ c.number-number.ensures.value in
    feeds_part c.args.follower.now c.deref.result.now c.write_opening-is_written.result _ _ c.if-not-is_written.true is counted c.write_opening-is_written.ensures
