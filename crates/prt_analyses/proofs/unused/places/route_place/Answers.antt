use Rattle.std.proofs.Common.{sym, subst, ◌∙◌}
use Rattle.std.specs.List.{Contains}
use Rattle.prt_partition.proofs.Starts.{in_contains}
use Rattle.prt_analyses.proofs.Deciders.{gotten}
use Rattle.prt_analyses.proofs.unused.places.route_place.Goals as goal

pub place_of_key-requires-clause-held : goal.place_of_key-requires-clause-held
place_of_key-requires-clause-held c =
    let state = c.args.version.now in
    subst (λ routes. Contains routes c.in-Route.route) (sym c.requires.routes)
    (in_contains c.in-Route.route state.routes (gotten state c.args.packet.now _ c.in-Route.route (sym c.requires.verdict ∙ c.in-Route.is)))
