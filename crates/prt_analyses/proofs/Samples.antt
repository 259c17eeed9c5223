-- The packets of all classes to all starts represent every packet.
use Rattle.std.proofs.Common.{◌≡◌, ◌⊎◌, ℕ, ◌^◌, ◌<◌, ◌≤◌, List, [], ◌∷◌, sym, refl, ◌∙◌}
use Rattle.std.specs.List.{AllByRecursion as Each}
use Rattle.prt_addr.specs.Prefix.{contains}
use Rattle.prt_addr.proofs.Each.{each_implies}
use Rattle.prt_route.specs.declared.route.Route.{Route}
use Rattle.prt_rule.specs.Rule.{matches}
use Rattle.prt_rule.specs.declared.packet.Packet.{Packet}
use Rattle.prt_rule.specs.declared.rule.Rule.{Rule}
use Rattle.prt_version.specs.State.{State}
use Rattle.prt_partition.specs.Classes.{AreClasses}
use Rattle.prt_partition.specs.Cuts.{AreStarts, HasNoCut, cuts_of, destination_cuts, route_cuts, rule_cuts, to}
use Rattle.prt_partition.proofs.Between.{each_left, each_of_each, each_right, same_contains, same_matches}
use Rattle.prt_partition.proofs.SpanList.{rises}
use Rattle.prt_partition.proofs.Starts.{contains_in, each_moved, in_contains, in_flat_map, in_map, nearest}
use Rattle.prt_analyses.specs.Unused.Steps.{AreSamples, all_packets, packets_to}

each_both : {X : Type 0} (P Q R : X → Type 0) → ((x : X) → P x → Q x → R x) → (xs : List X) → Each P xs → Each Q xs → Each R xs
each_both P Q R gives [] h k = tt
each_both P Q R gives (x ∷ xs) h k = (gives x h.0 k.0, each_both P Q R gives xs h.1 k.1)

-- with no cut between two destinations, rules take the packet to both alike
rules_between : (state : State) (packet : Packet) (a b : ℕ) → a ≤ b → b < 2 ^ 32 → HasNoCut (destination_cuts state) a b → Each (λ (rule : Rule). matches rule (to packet a) ≡ matches rule (to packet b)) state.rules
rules_between state packet a b le fits none =
    let uncut : ℕ → Type 0 = λ cut. (cut ≤ a) ⊎ (b < cut) in
    each_implies (λ (rule : Rule). HasNoCut (cuts_of rule.to) a b) (λ (rule : Rule). matches rule (to packet a) ≡ matches rule (to packet b))
    (λ rule h. same_matches rule (to packet a) (to packet b) refl (same_contains rule.to a b le fits h) refl refl)
    state.rules (each_of_each uncut (λ (rule : Rule). cuts_of rule.to) state.rules (each_left uncut (rule_cuts state.rules) (route_cuts state.routes) none))

-- and prefixes of routes have both or neither
routes_between : (state : State) (a b : ℕ) → a ≤ b → b < 2 ^ 32 → HasNoCut (destination_cuts state) a b → Each (λ (route : Route). contains route.prefix (record { 0 = b }) ≡ contains route.prefix (record { 0 = a })) state.routes
routes_between state a b le fits none =
    let uncut : ℕ → Type 0 = λ cut. (cut ≤ a) ⊎ (b < cut) in
    each_implies (λ (route : Route). HasNoCut (cuts_of route.prefix) a b) (λ (route : Route). contains route.prefix (record { 0 = b }) ≡ contains route.prefix (record { 0 = a }))
    (λ route h. sym (same_contains route.prefix a b le fits h))
    state.routes (each_of_each uncut (λ (route : Route). cuts_of route.prefix) state.routes (each_right uncut (rule_cuts state.rules) (route_cuts state.routes) none))

-- of each packet there is a class, and a start at its destination or the last one before it
pub samples : (state : State) (classes : List Packet) (starts : List ℕ) → AreClasses state.rules classes → AreStarts (destination_cuts state) starts → AreSamples state (all_packets starts classes)
samples state classes starts are begin packet is =
    let found = are packet is in
    let class : Packet = found.0 in
    let addr : ℕ = packet.dst.0 in
    let near = nearest (destination_cuts state) starts addr (rises starts begin.rise) (each_moved (destination_cuts state) starts begin.all) (contains_in 0 starts begin.zero) in
    let start : ℕ = near.0 in
    let alike : Each (λ (rule : Rule). matches rule (to packet addr) ≡ matches rule (to class addr)) state.rules = found.2 addr in
    let there : Each (λ (rule : Rule). matches rule (to class start) ≡ matches rule (to class addr)) state.rules = rules_between state class start addr near.2 is.dst near.3 in (
      to class start,
      in_contains (to class start) (all_packets starts classes) (in_flat_map (packets_to starts) class classes (to class start) (contains_in class classes found.1) (in_map (to class) start starts near.1)),
      record {
        rules = each_both (λ (rule : Rule). matches rule (to packet addr) ≡ matches rule (to class addr)) (λ (rule : Rule). matches rule (to class start) ≡ matches rule (to class addr)) (λ (rule : Rule). matches rule packet ≡ matches rule (to class start))
            (λ rule e h. e ∙ sym h) state.rules alike there;
        routes = routes_between state start addr near.2 is.dst near.3;
      },
    )
