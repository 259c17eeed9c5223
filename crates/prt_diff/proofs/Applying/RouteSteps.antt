-- Routes are put and deleted, one after another.
use Rattle.std.proofs.Common.{◌≡◌, ◌+◌, ◌≤◌, false, not, List, [], ◌∷◌, Some, Ok, length, map, ap, ◌∙◌, subst, arith}
use Rattle.std.specs.List.{AllByRecursion as Each, IsDistinct}
use Rattle.prt_addr.specs.Rising.{IsRising}
use Rattle.prt_route.specs.Edit.{without_key}
use Rattle.prt_route.specs.Route.{is_listed_before, key_of}
use Rattle.prt_route.specs.RouteChoice.{chosen_route}
use Rattle.prt_route.specs.declared.edit.RouteEdit.TheVariants.{Put, Remove}
use Rattle.prt_route.specs.declared.route.Route.{Route}
use Rattle.prt_route.proofs.Edits.{edit_rises}
use Rattle.prt_trie.specs.Table.{has_same_key}
use Rattle.prt_version.specs.Change.{check, put}
use Rattle.prt_version.specs.Sound.{IsSound}
use Rattle.prt_version.specs.State.{State}
use Rattle.prt_version.specs.declared.change.Change.{Change}
use Rattle.prt_version.specs.declared.change.Change.TheVariants as change
use Rattle.prt_version.specs.declared.limits.TheConstants.{MOST_COMMANDS, MOST_ROUTES}
use Rattle.prt_version.proofs.RowOrder.{keys_both_ways}
use Rattle.prt_diff.specs.Routes.{choice_of, delete_route, put_all, replace_route}
use Rattle.prt_diff.proofs.Leads.{put_sound}
use Rattle.prt_diff.proofs.Members.{IsIn, each_both, parts_at, passing}
use Rattle.prt_diff.proofs.RouteSteps.{chosen_first, delete_checked, none_fewer, not_false, one_more_route, put_one, replace_checked}
use Rattle.prt_diff.proofs.Applying.Accepted.{Leave, leave_all, leave_first}

-- ---- routes are put

pub puts : (todo : List Route) (state : State) → IsSound state → length (put_all todo state.routes) ≤ MOST_ROUTES → state.count + length todo ≤ MOST_COMMANDS → Leave state (map replace_route todo) state.rules (put_all todo state.routes)
puts [] state sound room counts = leave_all state
puts (route ∷ todo) state sound room counts =
    let made : Change = change.Route (Put route) in
    let next : List Route = put_one route state.routes in
    let grows : length next ≤ length (put_all todo next) = none_fewer todo next (edit_rises (Put route) state.routes sound.routes_rise) in
    let is : check state (replace_route route) ≡ Ok made = replace_checked state route (λ absent. omega (arith, one_more_route route state.routes absent, grows, room)) (omega (arith, counts)) in
    leave_first state (replace_route route) made (map replace_route todo) state.rules (put_all todo next) is
    (puts todo (put state made) (put_sound state (replace_route route) made sound is) room (omega (arith, counts)))

-- ---- which route a key names

pub chosen_is : (route : Route) (routes : List Route) → IsIn route routes → IsRising is_listed_before routes → chosen_route (choice_of route) routes ≡ Some route
chosen_is route routes within rises =
    let p = parts_at route routes within in
    ap (chosen_route (choice_of route)) p.whole ∙ chosen_first p.front route p.back (subst (IsRising is_listed_before) p.whole rises)

-- ---- routes are deleted

-- the routes after those of these keys are deleted, one after another
abbrev pub delete_all : List Route → List Route → List Route
delete_all [] routes = routes
delete_all (route ∷ todo) routes = delete_all todo (without_key (key_of route) routes)

pub deletes : (todo : List Route) (state : State) → IsSound state → Each (λ route. IsIn route state.routes) todo → IsDistinct has_same_key todo → state.count + length todo ≤ MOST_COMMANDS → Leave state (map delete_route todo) state.rules (delete_all todo state.routes)
unfolding IsDistinct
deletes [] state sound within apart counts = leave_all state
deletes (route ∷ todo) state sound within apart counts =
    let made : Change = change.Route (Remove (key_of route)) in
    let is : check state (delete_route route) ≡ Ok made = delete_checked state route (chosen_is route state.routes within.0 sound.routes_rise) (omega (arith, counts)) in
    leave_first state (delete_route route) made (map delete_route todo) state.rules (delete_all todo (without_key (key_of route) state.routes)) is
    (deletes todo (put state made) (put_sound state (delete_route route) made sound is)
    (each_both (λ other. IsIn other state.routes) (λ other. has_same_key route other ≡ false) (λ other. IsIn other (without_key (key_of route) state.routes))
    (λ other there unlike. passing (λ old. not (has_same_key old route)) other state.routes there (not_false (has_same_key other route) (keys_both_ways other route ∙ unlike))) todo within.1 apart.0)
    apart.1 (omega (arith, counts)))
