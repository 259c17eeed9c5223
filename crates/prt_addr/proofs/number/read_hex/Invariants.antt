use Rattle.std.proofs.Common.{◌≡◌, ◌≤◌, drop}
use Rattle.prt_addr.specs.Decimal.{at_most, followed_by}
use Rattle.prt_addr.specs.Number.{hex_digit_of, hex_value}
use Rattle.prt_addr.proofs.number.read_hex.Given as goal

abbrev pub invariant-loop-byte : goal.invariant-loop-byte
invariant-loop-byte l = record {
  reads_on : at_most 4294967295 (hex_value l.fn.digits) ≡ at_most 4294967295 (followed_by 16 hex_digit_of l.number (drop l.byte-index l.digits));
  within : l.number ≤ 4294967295;
}
