use Rattle.std.proofs.Common.{Ok, ap, ◌∙◌}
use Rattle.std.specs.Prelude.{option_map}
use Rattle.prt_analyses.specs.Claims.Reading.{stated}
use Rattle.prt_analyses.proofs.Checks.{of_claim, of_reason}
use Rattle.prt_analyses.proofs.claims.checking.Checked.take.Goals as goal

pub returns-in-Ok-Some-clause-ok : goal.returns-in-Ok-Some-clause-ok
returns-in-Ok-Some-clause-ok c =
    of_claim c.take_claim.result c.args.version.now c.args.number c.args.line.now c.in-Ok-Some.claim c.args.self.now c.take_claim.new.self
    (c.in-Ok-Some.ensures.value ∙ ap (λ said. Ok (option_map stated said)) c.in-Ok-Some.field-0-is) c.take_claim.ensures.ok

pub returns-in-Ok-Some-clause-reason : goal.returns-in-Ok-Some-clause-reason
returns-in-Ok-Some-clause-reason c =
    of_reason c.take_claim.result c.args.version.now c.args.line.now c.in-Ok-Some.claim
    (c.in-Ok-Some.ensures.value ∙ ap (λ said. Ok (option_map stated said)) c.in-Ok-Some.field-0-is) c.take_claim.ensures.reason
