-- Lines that are appended one after another.
use Rattle.std.proofs.Common.{◌≡◌, ℕ, suc, ◌+◌, ◌<◌, Bool, true, false, List, [], ◌∷◌, ◌++◌, Option, Some, None, Result, Ok, Err, OnOk, refl, sym, ap, ◌∙◌, append_assoc, add-one, cond, drop, drop-cons, get_or, length, map}
use Rattle.std.specs.Prelude.{codes, is_some, option_map, unwrap_or}
use Rattle.std.specs.List.{flat_map}
use Rattle.std.proofs.lemmas.List.{append-nil, map-append}
use Rattle.prt_addr.specs.declared.addr.Addr.{Addr}
use Rattle.prt_route.specs.Best.{best}
use Rattle.prt_route.specs.declared.route.Route.{Route}
use Rattle.prt_rule.specs.declared.packet.Packet.{Packet}
use Rattle.prt_rule.specs.declared.rule.Rule.{Rule}
use Rattle.prt_listing.specs.QueryText.{lines_text}
use Rattle.prt_version.specs.Select.{decision}
use Rattle.prt_explain.specs.Explanation.{Line, asked_rules, found_notes, lookup_notes, rule_lines, runner_up}
use Rattle.prt_explain.specs.Steps.{asked_text, found, notes_text}
use Rattle.prt_explain.specs.declared.lookup.Found.{Found}

-- what follows from an outcome's fact
pub then_ok : {T E : Type 0} (result : Result T E) {P Q : Type 0} → (P → Q) → OnOk result P → OnOk result Q
then_ok (Ok value) gives held = gives held
then_ok (Err reason) gives held = tt

pub lines_append : (lines others : List Line) → lines_text (lines ++ others) ≡ lines_text lines ++ lines_text others
lines_append [] others = refl
lines_append (line ∷ lines) others =
    ap (λ xs. (line ++ codes "\n") ++ xs) (lines_append lines others) ∙ sym (append_assoc (line ++ codes "\n") (lines_text lines) (lines_text others))

notes_append : (notes others : List Line) → notes_text (notes ++ others) ≡ notes_text notes ++ notes_text others
notes_append notes others =
    ap lines_text (map-append (λ note. codes "\t" ++ note) notes others)
    ∙ lines_append (map (λ note. codes "\t" ++ note) notes) (map (λ note. codes "\t" ++ note) others)

-- ---- the notes of a lookup

regrouped : (old name text line end first second : List ℕ) → line ≡ name ++ text → ((((old ++ name) ++ text) ++ end) ++ first) ++ second ≡ old ++ ((line ++ end) ++ (first ++ second))
regrouped old name text line end first second is = rw is (simp append_assoc)

-- a note in two parts, then others
pub found_pushed : (old name text named whole ended middle new : List ℕ) (line : Line) (first second : List Line) → codes "\t" ++ line ≡ name ++ text → named ≡ old ++ name → whole ≡ named ++ text → ended ≡ whole ++ codes "\n" → middle ≡ ended ++ notes_text first → new ≡ middle ++ notes_text second → new ≡ old ++ notes_text (line ∷ (first ++ second))
found_pushed old name text named whole ended middle new line first second is a b c d e =
    let all : new ≡ ((((old ++ name) ++ text) ++ codes "\n") ++ notes_text first) ++ notes_text second = cc in
    all
    ∙ regrouped old name text (codes "\t" ++ line) (codes "\n") (notes_text first) (notes_text second) is
    ∙ ap (λ xs. old ++ (((codes "\t" ++ line) ++ codes "\n") ++ xs)) (sym (notes_append first second))

looked_by : (suppress : Option ℕ) (table : ℕ) (routes : List Route) (addr : Addr) (route : Route) (other : Option Route) (first : Option Route) → ◌≡◌ {A = Option Found} (Some (record { best = route; runner_up = other })) (option_map (λ r. record { best = r; runner_up = runner_up r routes table addr }) first) → found_notes suppress table route other ≡ lookup_notes suppress table first routes addr
looked_by suppress table routes addr route other None is = absurd cc
looked_by suppress table routes addr route other (Some one) is =
    ap (λ (it : Option Found). let found = unwrap_or it (record { best = route; runner_up = other }) in found_notes suppress table found.best found.runner_up) is

-- the notes of what a lookup finds are those of the lookup
pub looked_up : (suppress : Option ℕ) (table : ℕ) (routes : List Route) (addr : Addr) (route : Route) (other : Option Route) → Some (record { best = route; runner_up = other }) ≡ found routes table addr → found_notes suppress table route other ≡ lookup_notes suppress table (best routes table addr) routes addr
looked_up suppress table routes addr route other is = looked_by suppress table routes addr route other (best routes table addr) is

-- ---- the lines of rules

-- a line, and then notes
pub rule_pushed : (old one two new : List ℕ) (line : Line) (first second : List Line) → one ≡ old ++ (line ++ codes "\n") → two ≡ one ++ notes_text first → new ≡ two ++ notes_text second → new ≡ old ++ lines_text (line ∷ map (λ note. codes "\t" ++ note) (first ++ second))
rule_pushed old one two new line first second a b c =
    let all : new ≡ ((old ++ (line ++ codes "\n")) ++ notes_text first) ++ notes_text second = cc in
    let grouped : ((old ++ (line ++ codes "\n")) ++ notes_text first) ++ notes_text second ≡ old ++ ((line ++ codes "\n") ++ (notes_text first ++ notes_text second)) = simp append_assoc in
    all ∙ grouped ∙ ap (λ xs. old ++ ((line ++ codes "\n") ++ xs)) (sym (notes_append first second))

asked_by : (rule : Rule) (rules : List Rule) (routes : List Route) (packet : Packet) (b : Bool) → lines_text (flat_map (λ rule. rule_lines rule routes packet) (rule ∷ cond b [] (asked_rules rules routes packet))) ≡ lines_text (rule_lines rule routes packet) ++ cond b [] (asked_text rules routes packet)
asked_by rule rules routes packet true = lines_append (rule_lines rule routes packet) []
asked_by rule rules routes packet false = lines_append (rule_lines rule routes packet) (flat_map (λ rule. rule_lines rule routes packet) (asked_rules rules routes packet))

-- the lines of the first rule, and those of the others if it doesn't decide
asked-first : (rule : Rule) (rules : List Rule) (routes : List Route) (packet : Packet) → asked_text (rule ∷ rules) routes packet ≡ lines_text (rule_lines rule routes packet) ++ cond (is_some (decision rule routes packet)) [] (asked_text rules routes packet)
asked-first rule rules routes packet = asked_by rule rules routes packet (is_some (decision rule routes packet))

pub dropped : (rules : List Rule) (i : ℕ) (rule : Rule) → i < length rules → rule ≡ get_or rules i rule → drop i rules ≡ rule ∷ drop (i + 1) rules
dropped rules i rule inside is = rw add-one (drop-cons rules i rule inside ∙ ap (λ r. r ∷ drop (suc i) rules) (sym is))

-- the rule at i is tried: its lines are there, and those of the rules after it are still to come if it doesn't decide
pub asked_more : (rules : List Rule) (i : ℕ) (rule : Rule) (routes : List Route) (packet : Packet) (before old new : List ℕ) (decides : Bool) → i < length rules → rule ≡ get_or rules i rule → old ++ asked_text (drop i rules) routes packet ≡ before → new ≡ old ++ lines_text (rule_lines rule routes packet) → decides ≡ is_some (decision rule routes packet) → new ++ cond decides [] (asked_text (drop (i + 1) rules) routes packet) ≡ before
asked_more rules i rule routes packet before old new decides inside is held pushed says =
    let rest : List ℕ = cond decides [] (asked_text (drop (i + 1) rules) routes packet) in
    let lines : List ℕ = lines_text (rule_lines rule routes packet) in
    let here : asked_text (drop i rules) routes packet ≡ lines ++ rest =
    ap (λ others. asked_text others routes packet) (dropped rules i rule inside is)
    ∙ asked-first rule (drop (i + 1) rules) routes packet
    ∙ ap (λ b. lines ++ cond b [] (asked_text (drop (i + 1) rules) routes packet)) (sym says) in
    ap (λ xs. xs ++ rest) pushed ∙ append_assoc old lines rest ∙ ap (λ xs. old ++ xs) (sym here) ∙ held

-- ---- the whole

-- a first line, others, and a last line
pub whole_text : (first last : Line) (middle : List Line) → lines_text (first ∷ (middle ++ last ∷ [])) ≡ ((first ++ codes "\n") ++ lines_text middle) ++ (last ++ codes "\n")
whole_text first last middle =
    ap (λ xs. (first ++ codes "\n") ++ xs) (lines_append middle (last ∷ []))
    ∙ ap (λ xs. (first ++ codes "\n") ++ (lines_text middle ++ xs)) (append-nil (last ++ codes "\n"))
    ∙ sym (append_assoc (first ++ codes "\n") (lines_text middle) (last ++ codes "\n"))

pub whole_pushed : (old none one two three text new : List ℕ) (first last : Line) (middle : List Line) → none ≡ [] → one ≡ none ++ (first ++ codes "\n") → two ≡ one ++ lines_text middle → three ≡ two ++ (last ++ codes "\n") → text ≡ three → new ≡ old ++ text → new ≡ old ++ lines_text (first ∷ (middle ++ last ∷ []))
whole_pushed old none one two three text new first last middle a b c d e f =
    let all : text ≡ ((first ++ codes "\n") ++ lines_text middle) ++ (last ++ codes "\n") = cc in
    f ∙ ap (λ xs. old ++ xs) (all ∙ sym (whole_text first last middle))
