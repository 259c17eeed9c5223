use Rattle.std.proofs.Common.{◌≡◌, take}
use Rattle.std.specs.Prelude.{filter}
use Rattle.prt_diff.proofs.Finds.{is_missing}
use Rattle.prt_diff.proofs.routes.missing_routes.Given as goal

abbrev pub invariant-loop-route : goal.invariant-loop-route
invariant-loop-route l = l.missing.items ≡ filter (is_missing l.fence l.found l.wanted) (take l.route-index l.wanted)
