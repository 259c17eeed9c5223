use Rattle.std.proofs.Common.{◌≡◌, ◌++◌, drop}
use Rattle.std.specs.Prelude.{flat_map}
use Rattle.prt_analyses.specs.Unused.Text.{route_entry}
use Rattle.prt_analyses.proofs.unused.text.push_routes.Given as goal

abbrev pub invariant-loop-one : goal.invariant-loop-one
invariant-loop-one l = l.out.items ++ flat_map route_entry (drop l.one-index l.routes) ≡ l.fn.out.items ++ flat_map route_entry l.routes
