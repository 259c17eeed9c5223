-- What a change of one route leaves as it was.
use Rattle.std.proofs.Common.{◌⊎◌, inl, inr, ℕ, List, [], ◌∷◌, ◌++◌}
use Rattle.std.specs.Prelude.{flat_map, not}
use Rattle.std.specs.List.{Contains, AllByRecursion as Each}
use Rattle.prt_addr.specs.Block.{Block}
use Rattle.prt_addr.proofs.Each.{each_append, each_filtered, each_implies}
use Rattle.prt_addr.proofs.Orders.{each_inserted}
use Rattle.prt_route.specs.Edit.{without_key}
use Rattle.prt_route.specs.Route.{is_listed_before, is_same_key, key_of}
use Rattle.prt_route.specs.declared.edit.RouteEdit.TheVariants.{Put, Remove}
use Rattle.prt_route.specs.declared.route.Route.{Route}
use Rattle.prt_route.specs.declared.route.RouteKey.{RouteKey}
use Rattle.prt_version.specs.Change.{put}
use Rattle.prt_version.specs.State.{State}
use Rattle.prt_version.specs.declared.change.Change.TheVariants as change
use Rattle.prt_partition.specs.Cuts.{cuts_of, destination_cuts, route_cuts, rule_cuts}
use Rattle.prt_partition.proofs.Between.{each_left, each_of_each, each_right}
use Rattle.prt_partition.proofs.Locality.{put_out, remove_out}
use Rattle.std.proofs.lemmas.List.Elements.{All-contains_itself, recursion_from_All}
use Rattle.prt_partition.proofs.Starts.{contains_in, each_in}
use Rattle.prt_fib.specs.Pieces.{IsChangedAt}

each_flat : {X Y : Type 0} (P : Y → Type 0) (f : X → List Y) (xs : List X) → Each (λ x. Each P (f x)) xs → Each P (flat_map f xs)
each_flat P f [] h = tt
each_flat P f (x ∷ xs) h = each_append P (f x) (flat_map f xs) h.0 (each_flat P f xs h.1)

module _ (state : State) (prefix : Block) where
  -- a cut of the state or of the prefix
  abbrev IsKnown : ℕ → Type 0
  IsKnown cut = Contains (destination_cuts state) cut ⊎ Contains (cuts_of prefix) cut

  abbrev AllKnown : Route → Type 0
  AllKnown route = Each IsKnown (cuts_of route.prefix)

  all_known : Each IsKnown (destination_cuts state)
  all_known =
      let cuts : List ℕ = destination_cuts state in
      each_implies (Contains cuts) IsKnown (λ cut h. inl h) cuts (recursion_from_All (Contains cuts) cuts (All-contains_itself cuts))

  routes_known : Each AllKnown state.routes
  routes_known = each_of_each IsKnown (λ (route : Route). cuts_of route.prefix) state.routes (each_right IsKnown (rule_cuts state.rules) (route_cuts state.routes) all_known)

  prefix_known : Each IsKnown (cuts_of prefix)
  prefix_known =
      let cuts : List ℕ = cuts_of prefix in
      each_implies (Contains cuts) IsKnown (λ cut h. inr h) cuts (recursion_from_All (Contains cuts) cuts (All-contains_itself cuts))

  -- the cuts with other routes
  known : (routes : List Route) → Each AllKnown routes → (cut : ℕ) → Contains (rule_cuts state.rules ++ route_cuts routes) cut → IsKnown cut
  known routes all cut h =
      each_in IsKnown cut (rule_cuts state.rules ++ route_cuts routes)
      (each_append IsKnown (rule_cuts state.rules) (route_cuts routes) (each_left IsKnown (rule_cuts state.rules) (route_cuts state.routes) all_known) (each_flat IsKnown (λ (route : Route). cuts_of route.prefix) routes all))
      (contains_in cut (rule_cuts state.rules ++ route_cuts routes) h)

pub put_changes : (route : Route) (state : State) → IsChangedAt state (put state (change.Route (Put route))) route.prefix
put_changes route state = record {
  quiet = λ packet out. put_out state route packet out;
  cuts = known state route.prefix (put state (change.Route (Put route))).routes
      (each_inserted (AllKnown state route.prefix) is_listed_before route (without_key (key_of route) state.routes) (prefix_known state route.prefix)
      (each_filtered (AllKnown state route.prefix) (λ other. not (is_same_key (key_of other) (key_of route))) state.routes (routes_known state route.prefix)));
}

pub add_changes : (route : Route) (state : State) → IsChangedAt state (put state (change.RouteAdd route)) route.prefix
add_changes route state = record { quiet = (put_changes route state).quiet; cuts = (put_changes route state).cuts }

pub remove_changes : (key : RouteKey) (state : State) → IsChangedAt state (put state (change.Route (Remove key))) key.prefix
remove_changes key state = record {
  quiet = λ packet out. remove_out state key packet out;
  cuts = known state key.prefix (put state (change.Route (Remove key))).routes (each_filtered (AllKnown state key.prefix) (λ other. not (is_same_key (key_of other) key)) state.routes (routes_known state key.prefix));
}
