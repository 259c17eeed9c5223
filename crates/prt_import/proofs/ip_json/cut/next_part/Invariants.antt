use Rattle.std.proofs.Common.{◌≡◌, ◌≤◌, drop, take}
use Rattle.prt_import.specs.IpJson.Documents.{parts, parts_from}
use Rattle.prt_import.proofs.IpJson.Cuts.{before}
use Rattle.prt_import.proofs.ip_json.cut.next_part.Given as goal

abbrev pub invariant-loop-at : goal.invariant-loop-at
invariant-loop-at l = record { depth : l.depth ≤ l.at; parts : parts l.fn.text ≡ before (take l.at l.text) (parts_from l.depth l.mode (drop l.at l.text)) }
