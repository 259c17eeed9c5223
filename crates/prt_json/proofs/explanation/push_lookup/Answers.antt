use Rattle.std.proofs.Common.{◌≡◌, ◌++◌, ◌∙◌, Some, ap}
use Rattle.prt_explain.specs.Steps.{found}
use Rattle.prt_json.specs.Steps.{fields_tokens}
use Rattle.prt_json.proofs.Asked.{is_shown}
use Rattle.prt_json.proofs.explanation.push_lookup.Goals as goal

pub returns-then-not-suppressed-clause-ok : goal.returns-then-not-suppressed-clause-ok
returns-then-not-suppressed-clause-ok c =
    let a = c.in-Ok-Some.ensures in
    let b = c.in-Ok-Some.field-0-is in
    let d = c.in-Ok-Some.found-is in
    let is : Some c.in-Ok-Some.found ≡ found c.args.version.now.routes c.args.table c.args.packet.now.dst = cc in
    (rw c.suppresses-suppressed.ensures at c.in_ok-push_found-in-Ok-Some.ensures.ok)
    ∙ ap (λ fields. c.args.out.now.tokens ++ fields_tokens fields) (is_shown c.args.suppress c.args.table c.args.version.now.routes c.args.packet.now.dst c.in-Ok-Some.found is)

pub returns-else-not-suppressed-clause-ok : goal.returns-else-not-suppressed-clause-ok
returns-else-not-suppressed-clause-ok c =
    let a = c.in-Ok-Some.ensures in
    let b = c.in-Ok-Some.field-0-is in
    let d = c.in-Ok-Some.found-is in
    let is : Some c.in-Ok-Some.found ≡ found c.args.version.now.routes c.args.table c.args.packet.now.dst = cc in
    (rw c.suppresses-suppressed.ensures at c.in_ok-push_found-in-Ok-Some.ensures.ok)
    ∙ ap (λ fields. c.args.out.now.tokens ++ fields_tokens fields) (is_shown c.args.suppress c.args.table c.args.version.now.routes c.args.packet.now.dst c.in-Ok-Some.found is)
