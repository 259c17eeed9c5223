-- The text of a dump, as it is written line by line.
use Rattle.std.proofs.Common.{◌≡◌, ℕ, ◌+◌, ◌<◌, ◌≤◌, Bool, true, false, List, [], ◌∷◌, ◌++◌, Some, None, refl, sym, ap, ◌∙◌, append_assoc, arith, length, map, take, get_or, cond}
use Rattle.std.specs.Prelude.{codes, nat_lt, not, position}
use Rattle.std.specs.List.{position_or_len, AllByRecursion as Each}
use Rattle.std.proofs.lemmas.Bool.Decides.{nat_tests}
use Rattle.std.proofs.lemmas.List.{map-append}
use Rattle.prt_route.specs.declared.route.Route.{Route}
use Rattle.prt_rule.specs.declared.rule.Rule.{Rule}
use Rattle.prt_command.specs.declared.request.Command.{Command}
use Rattle.prt_command.specs.declared.request.Command.TheVariants.{RuleDel, RuleFlush}
use Rattle.prt_listing.specs.QueryText.{lines_text}
use Rattle.prt_listing.proofs.ListingLines.{listed_more}
use Rattle.prt_addr.proofs.Each.{each_implies}
use Rattle.prt_route.specs.declared.choice.Range.TheVariants as ranges
use Rattle.prt_route.specs.declared.choice.Selector.{Selector}
use Rattle.prt_version.specs.Listing.{listing}
use Rattle.prt_version.specs.State.{State}
use Rattle.prt_spelling.specs.Line.{command_line}
use Rattle.prt_dump.specs.Dump.{add_route, add_rule, first_rule, gateways_last}
use Rattle.prt_dump.specs.PutBack.{dump_text}

-- ---- the lines of a dump

pub lines-append : (xs ys : List (List ℕ)) → lines_text (xs ++ ys) ≡ lines_text xs ++ lines_text ys
lines-append [] ys = refl
lines-append (x ∷ xs) ys = ap (λ t. (x ++ codes "\n") ++ t) (lines-append xs ys) ∙ sym (append_assoc (x ++ codes "\n") (lines_text xs) (lines_text ys))

-- after the lines of the commands for the rows so far, the line of the next one
pub listed_command : {X : Type 0} (f : X → Command) (rows : List X) (i : ℕ) (row : X) (command : Command) (before old new : List ℕ) → i < length rows → row ≡ get_or rows i row → command ≡ f row → old ≡ before ++ lines_text (map (λ x. command_line (f x)) (take i rows)) → new ≡ old ++ (command_line command ++ codes "\n") → new ≡ before ++ lines_text (map (λ x. command_line (f x)) (take (i + 1) rows))
listed_command f rows i row command before old new within is made held pushed = listed_more (λ x. command_line (f x)) rows i row before old new within is held (pushed ∙ ap (λ c. old ++ (command_line c ++ codes "\n")) made)

mapped : {X : Type 0} (f : X → Command) (xs : List X) → map command_line (map f xs) ≡ map (λ x. command_line (f x)) xs
mapped f [] = refl
mapped f (x ∷ xs) = ap (λ lines. command_line (f x) ∷ lines) (mapped f xs)

abbrev state_by : List Rule → List Route → State
state_by rules routes = record { count = 0; rules = rules; routes = routes }

abbrev rule_lines : List Rule → List (List ℕ)
rule_lines rules = map (λ rule. command_line (add_rule rule)) rules

abbrev route_lines : List Route → List (List ℕ)
route_lines routes = map (λ route. command_line (add_route route)) routes

lines_are : (rules : List Rule) (routes : List Route) → lines_text (map command_line (map add_rule rules ++ map add_route routes)) ≡ lines_text (rule_lines rules) ++ lines_text (route_lines routes)
lines_are rules routes =
    ap lines_text (map-append command_line (map add_rule rules) (map add_route routes))
    ∙ lines-append (map command_line (map add_rule rules)) (map command_line (map add_route routes))
    ∙ ap (λ lines. lines_text lines ++ lines_text (map command_line (map add_route routes))) (mapped add_rule rules)
    ∙ ap (λ lines. lines_text (rule_lines rules) ++ lines_text lines) (mapped add_route routes)

-- a dump is pushed in four pieces
pub text_pushed : (rules : List Rule) (routes moved : List Route) (deletes : Command) (old one two three four : List ℕ) → old ≡ [] → one ≡ old ++ (command_line RuleFlush ++ codes "\n") → two ≡ one ++ (command_line deletes ++ codes "\n") → deletes ≡ RuleDel first_rule → three ≡ two ++ lines_text (rule_lines rules) → four ≡ three ++ lines_text (route_lines moved) → moved ≡ gateways_last routes → four ≡ dump_text (state_by rules routes)
text_pushed rules routes moved deletes old one two three four none first second is third fourth are =
    let flush : List ℕ = command_line RuleFlush ++ codes "\n" in
    let del : List ℕ = command_line (RuleDel first_rule) ++ codes "\n" in
    fourth
    ∙ ap (λ routes. three ++ lines_text (route_lines routes)) are
    ∙ ap (λ xs. xs ++ lines_text (route_lines (gateways_last routes))) (third ∙ ap (λ xs. xs ++ lines_text (rule_lines rules)) (second ∙ ap (λ c. one ++ (command_line c ++ codes "\n")) is ∙ ap (λ xs. xs ++ del) (first ∙ ap (λ xs. xs ++ flush) none)))
    ∙ append_assoc (flush ++ del) (lines_text (rule_lines rules)) (lines_text (route_lines (gateways_last routes)))
    ∙ append_assoc flush del (lines_text (rule_lines rules) ++ lines_text (route_lines (gateways_last routes)))
    ∙ ap (λ t. flush ++ (del ++ t)) (sym (lines_are rules (gateways_last routes)))

-- the text of what a state has
pub text_of_state : (state : State) (rules : List Rule) (routes : List Route) (text : List ℕ) → text ≡ dump_text (state_by rules routes) → rules ≡ state.rules → routes ≡ state.routes → text ≡ dump_text state
text_of_state state rules routes text is rules_are routes_are = is ∙ ap (λ rules. dump_text (state_by rules routes)) rules_are ∙ ap (λ routes. dump_text (state_by state.rules routes)) routes_are

abbrev every : Selector
every = record { table = None; range = ranges.All; kind = None; proto = None; scope = None; dev = None }

-- a selector that names nothing takes each route
pub every_listed : (routes : List Route) → listing every routes ≡ routes
every_listed [] = refl
every_listed (route ∷ routes) = ap (λ others. route ∷ others) (every_listed routes)

-- ---- if no row fails a test

none_fails_by : {X : Type 0} (q : X → Bool) (x : X) (xs : List X) (b : Bool) → q x ≡ b → (length xs ≤ position_or_len q xs → Each (λ x. q x ≡ false) xs) → length (x ∷ xs) ≤ cond (not b) (1 + position_or_len q xs) 0 → Each (λ x. q x ≡ false) (x ∷ xs)
none_fails_by q x xs true is rest over = absurd (omega (arith, over))
none_fails_by q x xs false is rest over = (is, rest (omega (arith, over)))

none_fails : {X : Type 0} (q : X → Bool) (xs : List X) → length xs ≤ position_or_len q xs → Each (λ x. q x ≡ false) xs
none_fails q [] past = tt
none_fails q (x ∷ xs) past = none_fails_by q x xs (q x) refl (none_fails q xs) past

no_place : (l n : ℕ) (b : Bool) → nat_lt l n ≡ b → cond b (Some l) None ≡ None → n ≤ l
no_place l n true is h = absurd cc
no_place l n false is h = grind (arith, nat_tests, is)

passes : (b : Bool) → not b ≡ false → b ≡ true
passes true h = refl
passes false h = absurd cc

pub each_passes : {X : Type 0} (p : X → Bool) (xs : List X) → position (λ x. not (p x)) xs ≡ None → Each (λ x. p x ≡ true) xs
each_passes p xs none =
    each_implies (λ x. not (p x) ≡ false) (λ x. p x ≡ true) (λ x h. passes (p x) h) xs
    (none_fails (λ x. not (p x)) xs (no_place (position_or_len (λ x. not (p x)) xs) (length xs) (nat_lt (position_or_len (λ x. not (p x)) xs) (length xs)) refl none))
