-- A table may hold what the plan puts, if it may hold what is wanted.
use Rattle.std.proofs.Common.{◌≡◌, ℕ, zero, suc, Bool, true, false, List, [], ◌∷◌, ◌++◌, map}
use Rattle.std.specs.Prelude.{All, not, ◌==◌, if◌then◌else◌}
use Rattle.std.specs.List.{list_all, AllByRecursion as Each}
use Rattle.std.proofs.lemmas.Bool.{and_parts}
use Rattle.std.proofs.lemmas.List.Elements.{All-from_recursion}
use Rattle.prt_addr.proofs.Each.{each_append, each_filtered}
use Rattle.prt_route.specs.Storable.{is_storable_route}
use Rattle.prt_route.specs.declared.route.Route.{Route}
use Rattle.prt_rule.specs.Storable.{is_storable_rule}
use Rattle.prt_rule.specs.declared.rule.Rule.{Rule}
use Rattle.prt_command.specs.Storable.{IsStorable}
use Rattle.prt_command.specs.declared.request.Command.{Command}
use Rattle.prt_version.specs.State.{State}
use Rattle.prt_diff.specs.Routes.{delete_route, replace_route}
use Rattle.prt_diff.specs.Rules.{add_rule, rules_at}
use Rattle.prt_diff.specs.Apply.Plan.{is_storable, plan}
use Rattle.prt_diff.specs.Apply.Routes.{has_route, missing_routes, unwanted_routes}
use Rattle.prt_diff.specs.Apply.Rules.{above_all, are_same, changes_below, delete_first, replacing, rule_changes}
use Rattle.prt_diff.proofs.Members.{each_of}

each_all : {X : Type 0} (p : X → Bool) (xs : List X) → list_all p xs ≡ true → Each (λ x. p x ≡ true) xs
each_all p [] all = tt
each_all p (x ∷ xs) all = let both = and_parts (p x) (list_all p xs) all in (both.0, each_all p xs both.1)

each_mapped : {X : Type 0} (f : X → Command) (xs : List X) → Each (λ x. IsStorable (f x)) xs → Each IsStorable (map f xs)
each_mapped f [] all = tt
each_mapped f (x ∷ xs) all = (all.0, each_mapped f xs all.1)

abbrev AreStorable : List Rule → Type 0
AreStorable rules = Each (λ (rule : Rule). is_storable_rule rule.action rule.suppress ≡ true) rules

replacing_storable : (found wanted : List Rule) → AreStorable wanted → Each IsStorable (replacing found wanted)
replacing_storable found wanted all = by (are_same found wanted)
  where
    by : (b : Bool) → Each IsStorable (if b then [] else map delete_first found ++ map add_rule wanted)
    by true = tt
    by false = each_append IsStorable (map delete_first found) (map add_rule wanted) (each_mapped delete_first found (each_of (λ rule. IsStorable (delete_first rule)) (λ rule. tt) found)) (each_mapped add_rule wanted all)

changes_storable : (n : ℕ) (found wanted : List Rule) → AreStorable wanted → Each IsStorable (changes_below n found wanted)
changes_storable zero found wanted all = tt
changes_storable (suc n) found wanted all =
    each_append IsStorable (changes_below n found wanted) (replacing (rules_at n found) (rules_at n wanted)) (changes_storable n found wanted all)
    (replacing_storable (rules_at n found) (rules_at n wanted) (each_filtered (λ (rule : Rule). is_storable_rule rule.action rule.suppress ≡ true) (λ (rule : Rule). rule.priority == n) wanted all))

pub plan_storable : (found wanted : State) → is_storable wanted ≡ true → All IsStorable (plan found wanted)
plan_storable found wanted storable =
    let both = and_parts (list_all (λ (rule : Rule). is_storable_rule rule.action rule.suppress) wanted.rules) (list_all is_storable_route wanted.routes) storable in
    let missing : List Route = missing_routes found.routes wanted.routes in
    let unwanted : List Route = unwanted_routes found.routes wanted.routes in
    let changes : List Command = rule_changes found.rules wanted.rules in
    All-from_recursion IsStorable (plan found wanted)
    (each_append IsStorable (map replace_route missing) (changes ++ map delete_route unwanted)
    (each_mapped replace_route missing (each_filtered (λ route. is_storable_route route ≡ true) (λ route. not (has_route route found.routes)) wanted.routes (each_all is_storable_route wanted.routes both.1)))
    (each_append IsStorable changes (map delete_route unwanted)
    (changes_storable (above_all (found.rules ++ wanted.rules)) found.rules wanted.rules (each_all (λ (rule : Rule). is_storable_rule rule.action rule.suppress) wanted.rules both.0))
    (each_mapped delete_route unwanted (each_of (λ route. IsStorable (delete_route route)) (λ route. tt) unwanted))))
