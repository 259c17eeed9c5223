use Rattle.std.proofs.Common.{◌≡◌, ◌-◌, ◌<◌, length, None, arith}
use Rattle.json.specs.Json.{after_end_array, value}
use Rattle.prt_import.proofs.IpJson.Values.{one_value_more, values_end, values_fail}
use Rattle.prt_import.proofs.ip_json.reading.push_lines.Goals as goal

pub loop-alloc-preserved : goal.loop-alloc-preserved
loop-alloc-preserved c =
    let l = c.loop-alloc in
    let n = l.invariant.0 in
    let going : (after_end_array l.reader ≡ None) × (c.take_end_array.new.self ≡ l.reader) = grind arith in
    let done = c.in_ok-push_next_line.ensures in
    let r = c.push_next_line.new.reader in
    let less : length r < length l.reader = rw (← going.1) done.shorter in (
      n - 1,
      omega (arith, l.invariant.1),
      one_value_more n l.reader r _ _ _ _ (omega (arith, l.invariant.1)) l.invariant.2 going.0 (rw (← going.1) done.ok),
      omega (arith, l.invariant.3),
    )

pub returns-in_err-push_next_line-clause-no_json : goal.returns-in_err-push_next_line-clause-no_json
returns-in_err-push_next_line-clause-no_json c why =
    let l = c.loop-alloc in
    let going : (after_end_array l.reader ≡ None) × (c.take_end_array.new.self ≡ l.reader) = grind arith in
    let failed : value 127 c.take_end_array.new.self ≡ None = grind arith in
    values_fail l.invariant.0 l.reader _ _ _ l.invariant.2 going.0 (rw (← going.1) failed)

pub returns-clause-ok : goal.returns-clause-ok
returns-clause-ok c =
    let l = c.loop-alloc in
    values_end l.invariant.0 l.reader c.take_end_array.new.self _ _ _ l.invariant.1 l.invariant.2 (grind arith)
