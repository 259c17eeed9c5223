use Rattle.std.proofs.Common.{◌≡◌, ◌≤◌, drop}
use Rattle.prt_addr.specs.Decimal.{digit_of, followed_by, at_most, decimal_within}
use Rattle.prt_addr.proofs.decimal.read_number.Given as goal

abbrev pub invariant-loop-byte : goal.invariant-loop-byte
invariant-loop-byte l = record {
  reads_on : decimal_within l.digits l.limit l.fn.word ≡ at_most l.limit (followed_by 10 digit_of l.number (drop l.byte-index l.word));
  within : l.number ≤ l.limit;
}
