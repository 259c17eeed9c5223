use Rattle.std.proofs.Common.{◌≡◌, ℕ, ◌≤◌, length}
use Rattle.json.specs.Json.{items, value}
use Rattle.prt_import.proofs.IpJson.Values.{shown}
use Rattle.prt_import.proofs.ip_json.reading.push_lines.Given as goal

abbrev pub invariant-loop-alloc : goal.invariant-loop-alloc
invariant-loop-alloc l =
    (n : ℕ) × (length l.reader ≤ n) × (shown l.initial.out.items (items (value 127) (length l.initial.reader) l.initial.reader) ≡ shown l.out.items (items (value 127) n l.reader))
    × (length l.reader ≤ length l.initial.reader)

abbrev pub decreases-loop-alloc : goal.decreases-loop-alloc
decreases-loop-alloc l = length l.reader
