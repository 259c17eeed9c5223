use Rattle.std.proofs.Common.{ap, subst, sym, ◌∙◌}
use Rattle.prt_addr.specs.Sound.{IsPrefix}
use Rattle.prt_partition.specs.Cuts.{to}
use Rattle.prt_partition.specs.Spans.{AreSpans}
use Rattle.prt_analyses.specs.Claims.{is_breach}
use Rattle.prt_analyses.proofs.Breaches.{of_spans}
use Rattle.prt_analyses.proofs.claims.breach.breach_of.Goals as goal

pub returns-clause-value : goal.returns-clause-value
returns-clause-value c =
    let state = c.args.version.now in
    let claim = c.args.claim.now in
    let class = c.args.class.now in
    let first = c.bits.ensures.value ∙ ap (λ b. b.bits) c.block_of.ensures in
    let lowest = c.to-lowest.ensures.value ∙ ap (to class) first in
    of_spans state claim class c.deref.result.now
    (subst (AreSpans state class) (sym c.deref.ensures.value) c.in_ok-spans.ensures.value)
    (subst IsPrefix c.block_of.ensures c.bits.ensures.prefix)
    (ap (is_breach state claim) (sym lowest) ∙ sym c.is_breach.ensures ∙ c.if-is_breach.false)
    c.first_breach.result c.first_breach.ensures
