use Rattle.std.proofs.Common.{◌≡◌, ◌++◌, length, option_map}
use Rattle.prt_import.specs.IpJson.Documents.{documents}
use Rattle.prt_import.specs.IpJson.Listing.{listing}
use Rattle.prt_import.proofs.ip_json.listing.listing_of.Given as goal

abbrev pub invariant-loop-part : goal.invariant-loop-part
invariant-loop-part l = option_map listing (documents l.fn.text) ≡ option_map (λ ds. l.lines.items ++ listing ds) (documents l.rest)

abbrev pub decreases-loop-part : goal.decreases-loop-part
decreases-loop-part l = length l.rest
