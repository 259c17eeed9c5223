use Rattle.std.proofs.Common.{◌≡◌, ◌<◌, true, false, Some, length, rules, sym, ap, subst, ◌∙◌}
use Rattle.std.specs.List.Sorted.{IsPartitionPoint}
use Rattle.std.proofs.lemmas.List.Sorted.{IsPartitionPoint-from_clause}
use Rattle.prt_analyses.proofs.RoutePlaces.{IsBefore, at_point, parted}
use Rattle.prt_analyses.proofs.Both.{key_place}
use Rattle.prt_analyses.proofs.unused.places.place_of_key.Goals as goal

pub returns-clause-place : goal.returns-clause-place
returns-clause-place c =
    let routes = c.args.routes.now in
    let route = c.args.route.now in
    let point : IsPartitionPoint (λ y. IsBefore route y ≡ true) (λ y. IsBefore route y ≡ false) routes c.partition_point.result =
    IsPartitionPoint-from_clause (IsBefore route) routes c.partition_point.result c.partition_point.ensures.partitioned
    (parted route routes c.requires.order)
    (λ a r f' k. search rules) in
    let held = c.requires.held in
    key_place routes held.0 route c.requires.order held.1 held.2
    ∙ ap Some (sym (at_point route routes c.partition_point.result held.0 c.requires.order point held.1 held.2))

pub returns-clause-within : goal.returns-clause-within
returns-clause-within c =
    let routes = c.args.routes.now in
    let route = c.args.route.now in
    let point : IsPartitionPoint (λ y. IsBefore route y ≡ true) (λ y. IsBefore route y ≡ false) routes c.partition_point.result =
    IsPartitionPoint-from_clause (IsBefore route) routes c.partition_point.result c.partition_point.ensures.partitioned
    (parted route routes c.requires.order)
    (λ a r f' k. search rules) in
    let held = c.requires.held in
    subst (λ n. n < length routes) (sym (at_point route routes c.partition_point.result held.0 c.requires.order point held.1 held.2)) held.1
