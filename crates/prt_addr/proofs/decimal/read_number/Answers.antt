use Rattle.std.proofs.Common.{◌<◌, ◌+◌, ◌-◌, ◌*◌, ◌∙◌, sym, arith, get_or}
use Rattle.prt_addr.specs.Decimal.{digit_of}
use Rattle.prt_addr.proofs.Digits.{digit_over_limit, value_of_digit}
use Rattle.prt_addr.proofs.decimal.read_number.Goals as goal

pub returns-then-number-from : goal.returns-then-number-from
returns-then-number-from c =
    let byte = get_or c.args.word.now c.loop-byte.byte-index 0 in
    let over : c.args.limit < c.loop-byte.number * 10 + (byte - 48) = omega arith in
    let digit = value_of_digit byte (sym c.if-not-is_ascii_digit.ensures.value) in
    sym (c.loop-byte.invariant.reads_on ∙ digit_over_limit 10 digit_of c.args.limit c.loop-byte.number c.loop-byte.byte-index (byte - 48) c.args.word.now (omega arith) c.loop-byte-test.true digit over)
