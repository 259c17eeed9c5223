use Rattle.std.proofs.Common.{◌≡◌, drop, map}
use Rattle.prt_import.specs.IpJson.Words.{text_in}
use Rattle.prt_import.proofs.ip_json.naming.text_in.Given as goal

abbrev pub invariant-loop-known : goal.invariant-loop-known
invariant-loop-known l = text_in (map (λ row. (row.0.now, row.1.now)) l.fn.rows) l.fn.name ≡ text_in (map (λ row. (row.0.now, row.1.now)) (drop l.known-index l.rows)) l.fn.name
