use Rattle.std.proofs.Common.{◌≡◌, ◌∙◌, ◌≤◌, None, Some, ap, sym, arith}
use Rattle.prt_addr.specs.Number.{number}
use Rattle.prt_addr.specs.Word.{keep}
use Rattle.prt_refusals.specs.declared.refusal.Refusal.TheVariants.{BadNumber}
use Rattle.prt_args.proofs.Places.{between, inside, not_decimal, number_is, outside, read_is}
use Rattle.prt_args.proofs.serving.number_within.Goals as goal

pub returns-then-not-is_in_digits : goal.returns-then-not-is_in_digits
returns-then-not-is_in_digits c = sym (ap (keep (between c.args.least c.args.most)) (not_decimal c.args.word.now (sym c.is_in_digits.ensures ∙ c.if-not-is_in_digits.true)))

pub returns-in_err-number : goal.returns-in_err-number
returns-in_err-number c =
    let small : c.args.most ≤ 4294967295 = omega arith in
    let all = sym c.is_in_digits.ensures ∙ c.if-not-is_in_digits.false in
    let read : None ≡ number c.args.word.now = sym c.in_err-number.was ∙ read_is number BadNumber c.args.word.now c.as_bytes.result.now c.read_number.result c.ok.result c.as_bytes.ensures.value c.read_number.ensures c.ok.ensures.value in
    c.from_residual.ensures ∙ ap (keep (between c.args.least c.args.most)) read ∙ number_is c.args.least c.args.most c.args.word.now small all

pub returns-then-number-most : goal.returns-then-number-most
returns-then-number-most c =
    let small : c.args.most ≤ 4294967295 = omega arith in
    let all = sym c.is_in_digits.ensures ∙ c.if-not-is_in_digits.false in
    let read : Some c.in_ok-number.number ≡ number c.args.word.now = sym c.in_ok-number.was ∙ read_is number BadNumber c.args.word.now c.as_bytes.result.now c.read_number.result c.ok.result c.as_bytes.ensures.value c.read_number.ensures c.ok.ensures.value in
    inside c.args.least c.args.most c.in_ok-number.number (omega arith) (omega arith) ∙ ap (keep (between c.args.least c.args.most)) read
    ∙ number_is c.args.least c.args.most c.args.word.now small all

pub returns-else-least-number : goal.returns-else-least-number
returns-else-least-number c =
    let small : c.args.most ≤ 4294967295 = omega arith in
    let all = sym c.is_in_digits.ensures ∙ c.if-not-is_in_digits.false in
    let read : Some c.in_ok-number.number ≡ number c.args.word.now = sym c.in_ok-number.was ∙ read_is number BadNumber c.args.word.now c.as_bytes.result.now c.read_number.result c.ok.result c.as_bytes.ensures.value c.read_number.ensures c.ok.ensures.value in
    outside c.args.least c.args.most c.in_ok-number.number c.else-least-number.either ∙ ap (keep (between c.args.least c.args.most)) read
    ∙ number_is c.args.least c.args.most c.args.word.now small all
