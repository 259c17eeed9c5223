use Rattle.std.proofs.Common.{◌≡◌, false, ap, sym, ◌∙◌}
use Rattle.prt_partition.specs.Cuts.{to}
use Rattle.prt_partition.specs.declared.destinations.Span.{Span}
use Rattle.prt_analyses.specs.Claims.{is_breach}
use Rattle.prt_analyses.proofs.Breaches.{one_more, parts_of}
use Rattle.prt_analyses.proofs.claims.breach.first_breach.Goals as goal

pub returns-then-is_breach : goal.returns-then-is_breach
returns-then-is_breach c =
    let parts = parts_of c.args.version.now c.args.claim.now c.to-packet.result (sym c.is_breach.ensures ∙ c.if-is_breach.true) in
    (c.to-packet.ensures.fits, parts.0, parts.1)

pub loop-span-preserved : goal.loop-span-preserved
loop-span-preserved c =
    λ later. c.loop-span.invariant
    (one_more (λ (span : Span). is_breach c.args.version.now c.args.claim.now (to c.args.class.now span.first.0) ≡ false) c.args.spans.now c.loop-span.span-index c.span-item.result c.loop-span-test.true c.span-item.is
    (ap (is_breach c.args.version.now c.args.claim.now) (sym c.to-packet.ensures.value) ∙ sym c.is_breach.ensures ∙ c.if-is_breach.false) later)
