use Rattle.std.proofs.Common.{◌≡◌}
use Rattle.prt_published.specs.Line.{line_state}
use Rattle.prt_service.proofs.Expected.{expected_met, made_after}
use Rattle.prt_service.proofs.publisher_with_followers.PublisherWithFollowers.submit_all_at.Goals as goal

pub returns-in-Ok-clause-after : goal.returns-in-Ok-clause-after
returns-in-Ok-clause-after g c =
    let old = c.args.self.now.line in
    let numbered : c.number-number.result ≡ (line_state old).count = cc in
    made_after old c.in-Ok.receipt c.args.commands.now c.args.expected c.number-number.result c.number-last.result c.in-Ok.ensures.ok.0 c.in-Ok.ensures.took.1 (c.is_moved.ensures.met c.if-is_moved.false) numbered c.number-last.ensures.value c.number-last.ensures.count

pub returns-in-Ok-clause-met : goal.returns-in-Ok-clause-met
returns-in-Ok-clause-met g c =
    let numbered : c.number-number.result ≡ (line_state c.args.self.now.line).count = cc in
    expected_met c.args.expected c.number-number.result (line_state c.args.self.now.line).count (c.is_moved.ensures.met c.if-is_moved.false) numbered
