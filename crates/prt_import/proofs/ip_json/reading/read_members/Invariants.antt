use Rattle.std.proofs.Common.{◌≡◌, ℕ, ◌≤◌, length}
use Rattle.json.specs.Json.{members, value, parse_map}
use Rattle.json.proofs.Trees.{members_before}
use Rattle.prt_import.proofs.ip_json.reading.read_members.Given as goal

abbrev pub invariant-loop-read : goal.invariant-loop-read
invariant-loop-read l =
    (n : ℕ) × (length l.reader ≤ n) × (members (value 127) (length l.initial.reader) l.initial.reader ≡ parse_map (members_before l.read.items) (members (value 127) n l.reader))
    × (length l.reader ≤ length l.initial.reader)

abbrev pub decreases-loop-read : goal.decreases-loop-read
decreases-loop-read l = length l.reader
