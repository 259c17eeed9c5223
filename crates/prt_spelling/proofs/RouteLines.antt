-- The line of a route to be put asks for it.
use Rattle.std.proofs.Common.{◌≡◌, ℕ, ◌^◌, ◌<◌, ◌≤◌, Bool, true, false, not, List, [], ◌∷◌, Option, Some, None, Result, Ok, IfSome, is_some, refl, ap, ◌∙◌, arith, nat_le}
use Rattle.std.specs.Prelude.{codes, is_none, nat_lt, ◌==◌, ◌&&◌, ◌||◌, if◌then◌else◌, unwrap_or}
use Rattle.std.proofs.lemmas.Bool.Decides.{nat_tests}
use Rattle.prt_addr.specs.Block.{Block}
use Rattle.prt_addr.specs.Word.{Word}
use Rattle.prt_addr.specs.declared.addr.Addr.{Addr}
use Rattle.prt_refusals.specs.declared.refusal.Refusal.{Refusal}
use Rattle.prt_refusals.specs.declared.refusal.Refusal.TheVariants.{NoNextHop}
use Rattle.prt_route.specs.Storable.{is_storable_route, suits}
use Rattle.prt_route.specs.declared.kind.Kind.{Kind}
use Rattle.prt_route.specs.declared.kind.Kind.TheVariants.{Unicast, Blackhole, Unreachable, Prohibit, Throw}
use Rattle.prt_route.specs.declared.route.Route.{Route}
use Rattle.prt_command.specs.Items.{no_items}
use Rattle.prt_command.specs.LineKinds.{route_edit_line}
use Rattle.prt_command.specs.Reading.{words_request}
use Rattle.prt_command.specs.Requests.{refuse_if, route_of, route_request, scope_of}
use Rattle.prt_command.specs.Scan.{items_of}
use Rattle.prt_command.specs.Then.{◌>>=◌}
use Rattle.prt_command.specs.declared.item.Items.{Items}
use Rattle.prt_command.specs.declared.request.Command.{Command}
use Rattle.prt_command.specs.declared.request.Request.{Request}
use Rattle.prt_command.specs.declared.request.Request.TheVariants as requests
use Rattle.prt_listing.specs.Parts.{spaced}
use Rattle.prt_spelling.specs.Fits.{RouteChoiceFits, RouteFits}
use Rattle.prt_spelling.specs.Parts.{given_of_route, global_part, has_unsaid_scope, new_route_parts, said, scope_part}
use Rattle.prt_spelling.specs.Plain.{is_plain_name}
use Rattle.prt_spelling.specs.Spelled.{is_spelled_route}
use Rattle.prt_spelling.specs.declared.form.NameForm.{NameForm}
use Rattle.prt_spelling.proofs.Reading.{IsReadAs, one_request, read_by_parts}
use Rattle.prt_spelling.proofs.Texts.{IsText, Reads, ReadsOne, reads_left_out, reads_none}
use Rattle.prt_spelling.proofs.RouteChoices.{choice_items, choice_reads}
use Rattle.prt_spelling.proofs.RouteItems.{scope_reads, unsaid_back, with_scope}
use Rattle.prt_spelling.proofs.Words.{both_true}

-- ---- what a line says of a new route

-- scope global, if it is at the end
abbrev said_global : Bool → Option ℕ → Option ℕ
said_global b o = if b then Some 0 else o

global_by : (form : NameForm) (b : Bool) (given : Items) → (b ≡ true → given.scope ≡ None) → ReadsOne route_edit_line 16 given (with_scope given (said_global b given.scope)) (if b then scope_part form (Some 0) else None)
global_by form false given new = reads_left_out route_edit_line 16 given given refl
global_by form true given new = scope_reads form route_edit_line refl (Some 0) given (new refl) (omega arith)

abbrev made : (table metric proto scope : ℕ) → Block → Kind → (via : Option Addr) → (dev : Option Word) → (src : Option Addr) → Route
made table metric proto scope prefix kind via dev src = record { table = table; prefix = prefix; metric = metric; kind = kind; via = via; dev = dev; src = src; proto = proto; scope = scope }

-- what the line of the route says
abbrev said_of : Route → Items
said_of route = with_scope (choice_items (given_of_route route)) (said_global (has_unsaid_scope route) (said 0 route.scope))

unsaid_scope_by : (a b : Bool) (n : ℕ) → a && b ≡ true → (if b then None else Some n) ≡ None
unsaid_scope_by true true n h = refl
unsaid_scope_by true false n h = absurd cc
unsaid_scope_by false b n h = absurd cc

said_fits : (P : ℕ → Type 0) (n : ℕ) (b : Bool) → P n → IfSome (if b then None else Some n) P
said_fits P n true fits = tt
said_fits P n false fits = fits

given_fits : (route : Route) → RouteFits route → route.table < 2 ^ 32 → RouteChoiceFits (given_of_route route)
given_fits route fits below = record {
  table = below;
  prefix = fits.prefix;
  metric = said_fits (λ n. n < 2 ^ 32) route.metric (route.metric == 0) fits.metric;
  via = fits.via;
  src = fits.src;
  proto = said_fits (λ n. n ≤ 255) route.proto (route.proto == 3) fits.proto;
  scope = said_fits (λ n. n ≤ 255) route.scope (route.scope == 0) fits.scope;
}

route_reads : (form : NameForm) (route : Route) → RouteFits route → 1 ≤ route.table → route.table < 2 ^ 32 → is_plain_name route.dev ≡ true → Reads route_edit_line 177 no_items (said_of route) (new_route_parts form route)
route_reads form route fits some below plain =
    choice_reads form (given_of_route route) (given_fits route fits below) some plain 17 (said_of route) (global_part form route ∷ [])
    ((global_by form (has_unsaid_scope route) (choice_items (given_of_route route)) (unsaid_scope_by _ (route.scope == 0) route.scope)).more 0 (said_of route) []
    (reads_none route_edit_line (said_of route)))

-- ---- the route that they ask for

scope_said_by : (scope : ℕ) (b : Bool) → (scope == 0) ≡ b → unwrap_or (if b then Some 0 else if b then None else Some scope) 253 ≡ scope
scope_said_by scope true is = let e : 0 ≡ scope = grind (arith, nat_tests) in e
scope_said_by scope false is = refl

new_scope : (scope : ℕ) (via : Option Addr) → scope_of Unicast via (said_global (true && is_none via && scope == 0) (said 0 scope)) ≡ scope
new_scope scope None = scope_said_by scope (scope == 0) refl
new_scope scope (Some addr) = unsaid_back 0 scope

all_four : (a b c d e f g h : ℕ) (prefix : Block) (kind : Kind) (via : Option Addr) (dev : Option Word) (src : Option Addr) → a ≡ b → c ≡ d → e ≡ f → g ≡ h → made a c e g prefix kind via dev src ≡ made b d f h prefix kind via dev src
all_four a b c d e f g h prefix kind via dev src first second third fourth =
    ap (λ x. made x c e g prefix kind via dev src) first
    ∙ ap (λ x. made b x e g prefix kind via dev src) second
    ∙ ap (λ x. made b d x g prefix kind via dev src) third
    ∙ ap (λ x. made b d f x prefix kind via dev src) fourth

abbrev put_of : (Route → Command) → Route → Result Request Refusal
put_of command route = Ok (requests.Command (command route))

unicast_asks : (command : Route → Command) (table metric proto scope : ℕ) (prefix : Block) (via : Option Addr) (dev : Option Word) (src : Option Addr) → (is_some via || is_some dev) ≡ true → route_request command (said_of (made table metric proto scope prefix Unicast via dev src)) ≡ put_of command (made table metric proto scope prefix Unicast via dev src)
unicast_asks command table metric proto scope prefix via dev src hop =
    let items : Items = said_of (made table metric proto scope prefix Unicast via dev src) in
    ap (λ b. (refuse_if (not b) NoNextHop >>= λ _. Ok (route_of items Unicast prefix)) >>= put_of command) hop
    ∙ ap (put_of command) (all_four _ table _ metric _ proto _ scope prefix Unicast via dev src (unsaid_back 254 table) (unsaid_back 0 metric) (unsaid_back 3 proto) (new_scope scope via))

bare_is : (table metric proto scope : ℕ) (prefix : Block) (kind : Kind) → (scope == 0) ≡ true → made (unwrap_or (said 254 table) 254) (unwrap_or (said 0 metric) 0) (unwrap_or (said 3 proto) 3) 0 prefix kind None None None ≡ made table metric proto scope prefix kind None None None
bare_is table metric proto scope prefix kind global =
    let e : 0 ≡ scope = grind (arith, nat_tests) in
    all_four _ table _ metric _ proto 0 scope prefix kind None None None (unsaid_back 254 table) (unsaid_back 0 metric) (unsaid_back 3 proto) e

asks_by : (command : Route → Command) (table metric proto scope : ℕ) (prefix : Block) (kind : Kind) (via : Option Addr) (dev : Option Word) (src : Option Addr) → suits kind (made table metric proto scope prefix kind via dev src) ≡ true → route_request command (said_of (made table metric proto scope prefix kind via dev src)) ≡ put_of command (made table metric proto scope prefix kind via dev src)
asks_by command table metric proto scope prefix Unicast via dev src ok = unicast_asks command table metric proto scope prefix via dev src ok
asks_by command table metric proto scope prefix Blackhole None None None ok = ap (put_of command) (bare_is table metric proto scope prefix Blackhole ok)
asks_by command table metric proto scope prefix Blackhole via dev src ok = absurd cc
asks_by command table metric proto scope prefix Unreachable None None None ok = ap (put_of command) (bare_is table metric proto scope prefix Unreachable ok)
asks_by command table metric proto scope prefix Unreachable via dev src ok = absurd cc
asks_by command table metric proto scope prefix Prohibit None None None ok = ap (put_of command) (bare_is table metric proto scope prefix Prohibit ok)
asks_by command table metric proto scope prefix Prohibit via dev src ok = absurd cc
asks_by command table metric proto scope prefix Throw None None None ok = ap (put_of command) (bare_is table metric proto scope prefix Throw ok)
asks_by command table metric proto scope prefix Throw via dev src ok = absurd cc

-- What a plain route is.
pub record IsPlainRoute (route : Route) : Type 0 where
  some : 1 ≤ route.table
  below : route.table < 2 ^ 32
  suits : suits route.kind route ≡ true
  name : is_plain_name route.dev ≡ true

plain_facts : (route : Route) → is_spelled_route route ≡ true → IsPlainRoute route
plain_facts route h =
    let each = both_true (is_storable_route route) (is_plain_name route.dev) h in
    let second = both_true (nat_le 1 route.table && nat_lt route.table (2 ^ 32)) (suits route.kind route) each.0 in
    let first = both_true (nat_le 1 route.table) (nat_lt route.table (2 ^ 32)) second.0 in
    record { some = grind (arith, nat_tests, first.0); below = grind (arith, nat_tests, first.1); suits = second.1; name = each.1 }

-- the line of a route to be put, by its verb
pub route_read : (form : NameForm) (command : Route → Command) (front : List ℕ) (verb : Word) (m : ℕ) → IsText m front (codes "route" ∷ verb ∷ []) → m ≤ 800 → ((ws : List Word) → words_request (codes "route" ∷ verb ∷ ws) ≡ (items_of route_edit_line no_items ws >>= route_request command) >>= one_request) → (route : Route) → RouteFits route → is_spelled_route route ≡ true → IsReadAs (spaced (Some front ∷ new_route_parts form route)) (command route)
route_read form command front verb m is short begins route fits spelled =
    let facts = plain_facts route spelled in
    read_by_parts front (codes "route") verb route_edit_line (route_request command) m 177 (said_of route) (new_route_parts form route) (command route) is begins
    (route_reads form route fits facts.some facts.below facts.name) (omega (arith, short))
    (asks_by command route.table route.metric route.proto route.scope route.prefix route.kind route.via route.dev route.src facts.suits)
