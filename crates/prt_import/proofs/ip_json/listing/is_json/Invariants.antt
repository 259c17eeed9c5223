use Rattle.std.proofs.Common.{◌≡◌, drop}
use Rattle.prt_import.specs.IpJson.Documents.{is_json}
use Rattle.prt_import.proofs.ip_json.listing.is_json.Given as goal

abbrev pub invariant-loop-byte : goal.invariant-loop-byte
invariant-loop-byte l = is_json l.fn.text ≡ is_json (drop l.byte-index l.text)
