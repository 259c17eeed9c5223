use Rattle.std.proofs.Common.{◌<◌, ◌+◌, ◌*◌, ◌∙◌, sym, arith}
use Rattle.prt_addr.specs.Number.{hex_digit_of}
use Rattle.prt_addr.proofs.Digits.{digit_over_limit}
use Rattle.prt_addr.proofs.number.read_hex.Goals as goal

pub returns-then-number-from : goal.returns-then-number-from
returns-then-number-from c =
    let over : 4294967295 < c.loop-byte.number * 16 + c.in_ok-digit.digit = omega arith in
    sym (c.loop-byte.invariant.reads_on ∙ digit_over_limit 16 hex_digit_of 4294967295 c.loop-byte.number c.loop-byte.byte-index c.in_ok-digit.digit c.args.digits.now (omega arith) c.loop-byte-test.true (sym c.in_ok-digit.ensures.value) over)
