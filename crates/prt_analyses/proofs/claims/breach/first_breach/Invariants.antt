use Rattle.std.proofs.Common.{◌≡◌, false, drop}
use Rattle.std.specs.List.{AllByRecursion as Each}
use Rattle.prt_partition.specs.Cuts.{to}
use Rattle.prt_partition.specs.declared.destinations.Span.{Span}
use Rattle.prt_analyses.specs.Claims.{is_breach}
use Rattle.prt_analyses.proofs.claims.breach.first_breach.Given as goal

-- if the later spans have no packet that breaks the claim, none has one
abbrev pub invariant-loop-span : goal.invariant-loop-span
invariant-loop-span l =
    Each (λ (span : Span). is_breach l.version l.claim (to l.class span.first.0) ≡ false) (drop l.span-index l.spans) → Each (λ (span : Span). is_breach l.version l.claim (to l.class span.first.0) ≡ false) l.spans
