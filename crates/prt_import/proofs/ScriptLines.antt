-- How the lines of a script are read.
use Rattle.std.proofs.Common.{◌≡◌, ℕ, suc, ◌+◌, is_some, Bool, true, false, List, [], ◌∷◌, ◌++◌, length, Option, Some, None, Result, Ok, Err, is_ok, refl, sym, ap, subst, ◌∙◌, append_assoc, arith, inl, inr, take, map, flat_map}
use Rattle.std.proofs.lemmas.Bool.{cases_Bool}
use Rattle.std.proofs.lemmas.Bool.Decides.{nat_tests}
use Rattle.std.proofs.lemmas.List.{append-nil, length-append, length-map, length-take}
use Rattle.std.specs.List.{list_all, list_any, onto_first, AllByRecursion as Each}
use Rattle.std.specs.Prelude.{◌==◌, ◌||◌, ◌&&◌, ◌≤◌, codes, count_by, nat_lt, if◌then◌else◌}
use Rattle.prt_addr.specs.Word.{Word}
use Rattle.prt_refusals.specs.declared.refusal.Refusal.{Refusal}
use Rattle.prt_command.specs.Lines.{longest_line}
use Rattle.prt_command.specs.Reading.{before_comment, is_text_byte, reading}
use Rattle.prt_command.specs.declared.request.Request.{Request}
use Rattle.prt_listing.specs.QueryText.{lines_text}
use Rattle.prt_refusals.specs.declared.refusal.Refusal.TheVariants.{LineTooLong, NotAscii}
use Rattle.prt_command.specs.Reading.{words}
use Rattle.prt_route.specs.declared.route.Route.{Route as AddedRoute}
use Rattle.prt_import.specs.Comments.{comment, comment_start, comments, count_body, count_comment, remark_body, remark_comment, shown_byte}
use Rattle.prt_import.specs.Lines.{lines_of}
use Rattle.prt_import.specs.NewLines.{RouteText, added_route, added_rule, checked, continuation, continuation_of, or_reason, priority_of, route_line, route_text, rule_line, rule_text}
use Rattle.prt_import.specs.Script.{Parts, ◌and◌, has_rules, is_route, is_rule, left_out, left_route, line_part, no_parts, part_by, commands_of, head, parts_of, route_by, route_or_more, rule_by, script_of}
use Rattle.prt_import.specs.ScriptLines.{AreCommands, IsScript, adds_route, adds_rule, is_silent}
use Rattle.prt_import.specs.TableNames.{KnownNames}
use Rattle.prt_import.specs.Then.{◌>>=◌, map_ok}
use Rattle.prt_import.specs.Told.{Numbered, Remark, fault_word, is_kernel_made, is_kernels}
use Rattle.prt_import.specs.declared.known.Object.TheVariants.{Rule, Route}
use Rattle.prt_import.specs.declared.reason.Reason.{Reason}
use Rattle.prt_import.specs.declared.reason.Reason.TheVariants as reasons
use Rattle.prt_import.specs.declared.step.Place.TheVariants.{Destination, Item}

abbrev pub is_hash : ℕ → Bool
is_hash b = b == 35

abbrev pub is_newline : ℕ → Bool
is_newline b = b == 10

-- ---- the lines of a text of lines

after_line : (line rest : List ℕ) → list_any is_newline line ≡ false → lines_of (line ++ 10 ∷ rest) ≡ line ∷ lines_of rest
after_line [] rest none = refl
after_line (b ∷ bs) rest none = elim (cases_Bool (is_newline b)) [
  | inl e ↦ let h : true ≡ false = simp e at none in absurd cc
  | inr e ↦ let h : list_any is_newline bs ≡ false = simp e at none in simp e (ap (onto_first b) (after_line bs rest h))
]

-- lines without newlines are the lines of their text
pub lines_back : (lines : List (List ℕ)) → Each (λ line. list_any is_newline line ≡ false) lines → lines_of (lines_text lines) ≡ lines
lines_back [] none = refl
lines_back (line ∷ lines) none =
    ap lines_of (append_assoc line (codes "\n") (lines_text lines))
    ∙ after_line line (lines_text lines) none.0
    ∙ ap (λ ls. line ∷ ls) (lines_back lines none.1)

pub lines_text-append : (xs ys : List (List ℕ)) → lines_text (xs ++ ys) ≡ lines_text xs ++ lines_text ys
lines_text-append [] ys = refl
lines_text-append (x ∷ xs) ys = ap (λ t. (x ++ codes "\n") ++ t) (lines_text-append xs ys) ∙ sym (append_assoc (x ++ codes "\n") (lines_text xs) (lines_text ys))

-- ---- a line that is read and has no comment

one_plus : (n : ℕ) → 1 + n ≡ suc n
one_plus n = omega arith

no_comment : (line : List ℕ) → list_any is_hash line ≡ false → before_comment line ≡ line
no_comment [] none = refl
no_comment (b ∷ bs) none = elim (cases_Bool (is_hash b)) [
  | inl e ↦ let h : true ≡ false = simp e at none in absurd cc
  | inr e ↦ let h : list_any is_hash bs ≡ false = simp e at none in simp (e, one_plus) (ap (λ ys. b ∷ ys) (no_comment bs h))
]

newline_is_no_text : (b : ℕ) → is_text_byte b ≡ true → is_newline b ≡ false
newline_is_no_text b h = elim (cases_Bool (is_newline b)) [
  | inl e ↦ let is : b ≡ 10 = grind (arith, nat_tests, e) in let k : false ≡ true = ap is_text_byte (sym is) ∙ h in absurd cc
  | inr e ↦ e
]

text_without_newline : (line : List ℕ) → list_all is_text_byte line ≡ true → list_any is_newline line ≡ false
text_without_newline [] all = refl
text_without_newline (b ∷ bs) all = elim (cases_Bool (is_text_byte b)) [
  | inl e ↦ let h : list_all is_text_byte bs ≡ true = simp e at all in let n = newline_is_no_text b e in simp n (text_without_newline bs h)
  | inr e ↦ let h : false ≡ true = simp e at all in absurd cc
]

-- a test that no refusal passes
module _ (passes : Result (Option Request) Refusal → Bool) (none : (e : Refusal) → passes (Err e) ≡ false) where
  read_text : (line : List ℕ) (long text : Bool) → nat_lt longest_line (length line) ≡ long → list_all is_text_byte (before_comment line) ≡ text → passes (reading line) ≡ true → text ≡ true
  read_text line long true l t h = refl
  read_text line true false l t h = let k : true ≡ false = sym (simp l at h) ∙ none LineTooLong in absurd cc
  read_text line false false l t h = let k : true ≡ false = sym (simp (l, t) at h) ∙ none NotAscii in absurd cc

  -- such a line has no newline
  pub whole_line : (line : List ℕ) → list_any is_hash line ≡ false → passes (reading line) ≡ true → list_any is_newline line ≡ false
  whole_line line no_hash h =
      text_without_newline line
      (ap (list_all is_text_byte) (sym (no_comment line no_hash)) ∙ read_text line (nat_lt longest_line (length line)) (list_all is_text_byte (before_comment line)) refl refl h)

-- ---- texts of lines that pass a test

-- The text is of such lines.
pub record AreLines (test : List ℕ → Bool) (text : List ℕ) : Type 0 where
  pub lines : List (List ℕ)
  pub parts : text ≡ lines_text lines
  pub whole : Each (λ line. list_any is_newline line ≡ false) lines
  pub pass : Each (λ line. test line ≡ true) lines

abbrev pub no_lines : (test : List ℕ → Bool) → AreLines test []
no_lines test = record { lines = []; parts = refl; whole = tt; pass = tt }

pub one_line : (test : List ℕ → Bool) (line : List ℕ) → list_any is_newline line ≡ false → test line ≡ true → AreLines test (line ++ codes "\n")
one_line test line whole passes = record { lines = line ∷ []; parts = sym (append-nil (line ++ codes "\n")); whole = (whole, tt); pass = (passes, tt) }

each_append : {X : Type 0} (P : X → Type 0) (xs ys : List X) → Each P xs → Each P ys → Each P (xs ++ ys)
each_append P [] ys a b = b
each_append P (x ∷ xs) ys a b = (a.0, each_append P xs ys a.1 b)

pub more_lines : (test : List ℕ → Bool) (a b : List ℕ) → AreLines test a → AreLines test b → AreLines test (a ++ b)
more_lines test a b p q = record {
  lines = p.lines ++ q.lines;
  parts = ap (λ t. t ++ b) p.parts ∙ ap (λ t. lines_text p.lines ++ t) q.parts ∙ sym (lines_text-append p.lines q.lines);
  whole = each_append (λ line. list_any is_newline line ≡ false) p.lines q.lines p.whole q.whole;
  pass = each_append (λ line. test line ≡ true) p.lines q.lines p.pass q.pass;
}

-- ---- new lines

-- The line has no newline, and passes.
pub record Passes (test : List ℕ → Bool) (line : List ℕ) : Type 0 where
  pub whole : list_any is_newline line ≡ false
  pub pass : test line ≡ true

checked_by : {X Y : Type 0} (added : Result (Option Request) Refusal → Result X Refusal) (none : (e : Refusal) → is_ok (added (Err e)) ≡ false) (line : List ℕ) (hash : Bool) (r : Result X Refusal) (make : X → Y) (made : Y) → list_any is_hash line ≡ hash → added (reading line) ≡ r → map_ok make (if hash then Err reasons.Comment else or_reason r) ≡ Ok made → Passes (λ line. is_ok (added (reading line))) line
checked_by added none line true r make made no_hash is h = absurd cc
checked_by added none line false (Err e) make made no_hash is h = absurd cc
checked_by added none line false (Ok x) make made no_hash is h =
    let pass : is_ok (added (reading line)) ≡ true = ap is_ok is in
    record { whole = whole_line (λ r. is_ok (added r)) none line no_hash pass; pass = pass }

abbrev route_text_of : List ℕ → Bool → RouteText
route_text_of text gateway = record { line = text; has_gateway = gateway }

same_text : {X : Type 0} (r : Result X Reason) (text line : List ℕ) → map_ok (λ x. text) r ≡ Ok line → text ≡ line
same_text (Ok x) text line h = cc
same_text (Err e) text line h = absurd cc

rule_by_text : (text : Result (List ℕ) Reason) (line : List ℕ) → (text >>= λ line. map_ok (λ rule. line) (checked added_rule line)) ≡ Ok line → Passes adds_rule line
rule_by_text (Err e) line h = absurd cc
rule_by_text (Ok text) line h =
    let passes = checked_by added_rule (λ e. refl) text (list_any is_hash text) (added_rule (reading text)) (λ rule. text) line refl refl h in
    let P : List ℕ → Type 0 = λ text. Passes adds_rule text in
    subst P (same_text (checked added_rule text) text line h) passes

-- a line that is made adds a rule
pub rule_line_passes : (names : KnownNames) (priority : Word) (items : List Word) (line : List ℕ) → rule_line names priority items ≡ Ok line → Passes adds_rule line
rule_line_passes names priority items line h = rule_by_text (rule_text names priority items) line h

same_route : (r : Result AddedRoute Reason) (text : List ℕ) (made : RouteText) → map_ok (λ route. record { line = text; has_gateway = is_some route.via }) r ≡ Ok made → text ≡ made.line
same_route (Ok x) text made h = let e : route_text_of text (is_some x.via) ≡ made = cc in ap (λ (r : RouteText). r.line) e
same_route (Err e) text made h = absurd cc

route_by_text : (text : Result (List ℕ) Reason) (made : RouteText) → (text >>= λ line. map_ok (λ route. record { line = line; has_gateway = is_some route.via }) (checked added_route line)) ≡ Ok made → Passes adds_route made.line
route_by_text (Err e) made h = absurd cc
route_by_text (Ok text) made h =
    let passes = checked_by added_route (λ e. refl) text (list_any is_hash text) (added_route (reading text)) (λ route. route_text_of text (is_some route.via)) made refl refl h in
    let P : List ℕ → Type 0 = λ text. Passes adds_route text in
    subst P (same_route (checked added_route text) text made h) passes

-- a line that is made adds a route
pub route_line_passes : (names : KnownNames) (ws : List Word) (made : RouteText) → route_line names ws ≡ Ok made → Passes adds_route made.line
route_line_passes names ws made h = route_by_text (route_text names ws) made h

-- ---- the parts of a script

-- Its rules' lines add rules, and its routes' lines routes.
pub record AreAdds (parts : Parts) : Type 0 where
  pub rules : AreLines adds_rule parts.rules
  pub direct : AreLines adds_route parts.direct
  pub through : AreLines adds_route parts.through

none_added : AreAdds no_parts
none_added = record { rules = no_lines adds_rule; direct = no_lines adds_route; through = no_lines adds_route }

left_adds : (line : Numbered) (w : Word) (reason : Reason) → AreAdds (left_out line w reason)
left_adds line w reason = record { rules = no_lines adds_rule; direct = no_lines adds_route; through = no_lines adds_route }

rule_adds : (names : KnownNames) (line : Numbered) (items : List Word) (made : Result (List ℕ) Reason) → ((text : List ℕ) → made ≡ Ok text → Passes adds_rule text) → AreAdds (rule_by names line items made)
rule_adds names line items (Err reason) passes = left_adds line (fault_word names Rule Item items) reason
rule_adds names line items (Ok text) passes =
    let p = passes text refl in
    record { rules = one_line adds_rule text p.whole p.pass; direct = no_lines adds_route; through = no_lines adds_route }

added_adds : (names : KnownNames) (line : Numbered) (ws : List Word) (text : List ℕ) (gateway : Bool) → Passes adds_route text → AreAdds (route_by names line ws (Ok (record { line = text; has_gateway = gateway })))
added_adds names line ws text true p = record { rules = no_lines adds_rule; direct = no_lines adds_route; through = one_line adds_route text p.whole p.pass }
added_adds names line ws text false p = record { rules = no_lines adds_rule; direct = one_line adds_route text p.whole p.pass; through = no_lines adds_route }

kernels_adds : (line : Numbered) (w : Word) (kernel : Bool) → AreAdds (if kernel then left_out line [] reasons.Kernel else left_out line w reasons.Type)
kernels_adds line w true = left_adds line [] reasons.Kernel
kernels_adds line w false = left_adds line w reasons.Type

left_route_adds : (names : KnownNames) (line : Numbered) (ws : List Word) (reason : Reason) → AreAdds (left_route names line ws reason)
left_route_adds names line ws reasons.Type = kernels_adds line (fault_word names Route Destination ws) (is_kernels ws)
left_route_adds names line ws reasons.Json = left_adds line [] reasons.Json
left_route_adds names line ws reason = left_adds line (fault_word names Route Destination ws) reason

route_adds : (names : KnownNames) (line : Numbered) (ws : List Word) (made : Result RouteText Reason) → ((route : RouteText) → made ≡ Ok route → Passes adds_route route.line) → AreAdds (route_by names line ws made)
route_adds names line ws (Err reason) passes = left_route_adds names line ws reason
route_adds names line ws (Ok route) passes = added_adds names line ws route.line route.has_gateway (passes route refl)

more_adds : (names : KnownNames) (in_route : Bool) (line : Numbered) (w : Word) (ws : List Word) (says more : Option Reason) → AreAdds (route_or_more names in_route line w ws says more)
more_adds names in_route line w ws None None = route_adds names line (w ∷ ws) (route_line names (w ∷ ws)) (route_line_passes names (w ∷ ws))
more_adds names in_route line w ws None (Some reason) = left_adds line [] reason
more_adds names true line w ws (Some reason) more = none_added
more_adds names false line w ws (Some reason) more = left_adds line w reason

part_adds : (names : KnownNames) (in_route : Bool) (line : Numbered) (w : Word) (ws : List Word) (priority : Option Word) (more : Option Reason) → AreAdds (part_by names in_route line w ws priority more)
part_adds names in_route line w ws (Some priority) more = rule_adds names line ws (rule_line names priority ws) (rule_line_passes names priority ws)
part_adds names in_route line w ws None more = more_adds names in_route line w ws (continuation_of w) more

line_adds : (names : KnownNames) (in_route : Bool) (line : Numbered) (ws : List Word) (more : Option Reason) → AreAdds (line_part names in_route line ws more)
line_adds names in_route line [] more = none_added
line_adds names in_route line (w ∷ ws) more = part_adds names in_route line w ws (priority_of w) more

both_add : (p q : Parts) → AreAdds p → AreAdds q → AreAdds (p and q)
both_add p q a b = record {
  rules = more_lines adds_rule p.rules q.rules a.rules b.rules;
  direct = more_lines adds_route p.direct q.direct a.direct b.direct;
  through = more_lines adds_route p.through q.through a.through b.through;
}

parts_add : (names : KnownNames) (in_route : Bool) (number : ℕ) (lines : List (List ℕ)) → AreAdds (parts_of names in_route number lines)
parts_add names in_route number [] = none_added
parts_add names in_route number (line ∷ lines) =
    both_add (line_part names in_route (record { number = number; content = line }) (words line) (continuation lines)) (parts_of names (is_route (words line)) (number + 1) lines)
    (line_adds names in_route (record { number = number; content = line }) (words line) (continuation lines))
    (parts_add names (is_route (words line)) (number + 1) lines)

-- ---- a text without rules

no_rules_added : (names : KnownNames) (line : Numbered) (ws : List Word) (text : List ℕ) (gateway : Bool) → (route_by names line ws (Ok (record { line = text; has_gateway = gateway }))).rules ≡ []
no_rules_added names line ws text true = refl
no_rules_added names line ws text false = refl

no_rules_kernels : (line : Numbered) (w : Word) (kernel : Bool) → (let part : Parts = if kernel then left_out line [] reasons.Kernel else left_out line w reasons.Type in part.rules) ≡ []
no_rules_kernels line w true = refl
no_rules_kernels line w false = refl

no_rules_left : (names : KnownNames) (line : Numbered) (ws : List Word) (reason : Reason) → (left_route names line ws reason).rules ≡ []
no_rules_left names line ws reasons.Type = no_rules_kernels line (fault_word names Route Destination ws) (is_kernels ws)
no_rules_left names line ws reason = refl

no_rules_by : (names : KnownNames) (line : Numbered) (ws : List Word) (made : Result RouteText Reason) → (route_by names line ws made).rules ≡ []
no_rules_by names line ws (Err reason) = no_rules_left names line ws reason
no_rules_by names line ws (Ok route) = no_rules_added names line ws route.line route.has_gateway

no_rules_more : (names : KnownNames) (in_route : Bool) (line : Numbered) (w : Word) (ws : List Word) (says more : Option Reason) → (route_or_more names in_route line w ws says more).rules ≡ []
no_rules_more names in_route line w ws None None = no_rules_by names line (w ∷ ws) (route_line names (w ∷ ws))
no_rules_more names in_route line w ws None (Some reason) = refl
no_rules_more names true line w ws (Some reason) more = refl
no_rules_more names false line w ws (Some reason) more = refl

no_rules_part : (names : KnownNames) (in_route : Bool) (line : Numbered) (w : Word) (ws : List Word) (priority : Option Word) (more : Option Reason) → is_some priority ≡ false → (part_by names in_route line w ws priority more).rules ≡ []
no_rules_part names in_route line w ws (Some priority) more none = absurd cc
no_rules_part names in_route line w ws None more none = no_rules_more names in_route line w ws (continuation_of w) more

no_rules_line : (names : KnownNames) (in_route : Bool) (line : Numbered) (ws : List Word) (more : Option Reason) → is_rule ws ≡ false → (line_part names in_route line ws more).rules ≡ []
no_rules_line names in_route line [] more none = refl
no_rules_line names in_route line (w ∷ ws) more none = no_rules_part names in_route line w ws (priority_of w) more none

neither : (a b : Bool) → a || b ≡ false → (a ≡ false) × (b ≡ false)
neither true b h = absurd cc
neither false b h = (refl, h)

no_rules : (names : KnownNames) (in_route : Bool) (number : ℕ) (lines : List (List ℕ)) → has_rules lines ≡ false → (parts_of names in_route number lines).rules ≡ []
no_rules names in_route number [] none = refl
no_rules names in_route number (line ∷ lines) none =
    let each = neither (is_rule (words line)) (has_rules lines) none in
    let more : List ℕ = (parts_of names (is_route (words line)) (number + 1) lines).rules in
    ap (λ t. t ++ more) (no_rules_line names in_route (record { number = number; content = line }) (words line) (continuation lines) each.0)
    ∙ no_rules names (is_route (words line)) (number + 1) lines each.1

-- ---- the whole script

joined : (first rules direct through : List (List ℕ)) (script a b c : List ℕ) → script ≡ lines_text first ++ a ++ b ++ c → a ≡ lines_text rules → b ≡ lines_text direct → c ≡ lines_text through → Each (λ line. list_any is_newline line ≡ false) (first ++ rules ++ direct ++ through) → lines_of script ≡ first ++ rules ++ (direct ++ through)
joined first rules direct through script a b c is p q r whole =
    ap lines_of (
    is
    ∙ ap (λ t. lines_text first ++ t ++ b ++ c) p
    ∙ ap (λ t. lines_text first ++ lines_text rules ++ t ++ c) q
    ∙ ap (λ t. lines_text first ++ lines_text rules ++ lines_text direct ++ t) r
    ∙ ap (λ t. t ++ lines_text direct ++ lines_text through) (sym (lines_text-append first rules))
    ∙ ap (λ t. t ++ lines_text through) (sym (lines_text-append (first ++ rules) direct))
    ∙ sym (lines_text-append (first ++ rules ++ direct) through)
    )
    ∙ lines_back (first ++ rules ++ direct ++ through) whole
    ∙ append_assoc (first ++ rules) direct through

all_whole : (first : List (List ℕ)) (rules direct through : List ℕ) (r : AreLines adds_rule rules) (d : AreLines adds_route direct) (t : AreLines adds_route through) → Each (λ line. list_any is_newline line ≡ false) first → Each (λ line. list_any is_newline line ≡ false) (first ++ r.lines ++ d.lines ++ t.lines)
all_whole first rules direct through r d t f =
    let P : List ℕ → Type 0 = λ line. list_any is_newline line ≡ false in
    each_append P (first ++ r.lines ++ d.lines) t.lines (each_append P (first ++ r.lines) d.lines (each_append P first r.lines f r.whole) d.whole) t.whole

abbrev flushes : List (List ℕ)
flushes = codes "rule flush" ∷ codes "rule del priority 0" ∷ []

script_lines : (script : List ℕ) (any : Bool) (parts : Parts) → AreAdds parts → (any ≡ false → parts.rules ≡ []) → script ≡ commands_of any parts → AreCommands script
script_lines script true parts adds none is = record {
  first = flushes;
  rules = adds.rules.lines;
  routes = adds.direct.lines ++ adds.through.lines;
  lines = joined flushes adds.rules.lines adds.direct.lines adds.through.lines script parts.rules parts.direct parts.through is adds.rules.parts adds.direct.parts adds.through.parts (all_whole flushes parts.rules parts.direct parts.through adds.rules adds.direct adds.through (refl, (refl, tt)));
  begins = inl refl;
  are_rules = adds.rules.pass;
  are_routes = each_append (λ line. adds_route line ≡ true) adds.direct.lines adds.through.lines adds.direct.pass adds.through.pass;
}
script_lines script false parts adds none is = record {
  first = [];
  rules = [];
  routes = adds.direct.lines ++ adds.through.lines;
  lines = joined [] [] adds.direct.lines adds.through.lines script parts.rules parts.direct parts.through is (none refl) adds.direct.parts adds.through.parts (all_whole [] [] parts.direct parts.through (no_lines adds_rule) adds.direct adds.through tt);
  begins = inr (refl, refl);
  are_rules = tt;
  are_routes = each_append (λ line. adds_route line ≡ true) adds.direct.lines adds.through.lines adds.direct.pass adds.through.pass;
}

-- ---- comments

shown_by : (b : ℕ) (tab printed : Bool) → (b == 9) ≡ tab → (nat_lt 31 b && nat_lt b 127) ≡ printed → is_newline (shown_byte b) ≡ false
shown_by b true printed t p = simp t refl
shown_by b false false t p = simp (t, p) refl
shown_by b false true t p = elim (cases_Bool (is_newline b)) [
  | inl e ↦ let is : b ≡ 10 = grind (arith, nat_tests, e) in let k : false ≡ true = sym (ap (λ n. nat_lt 31 n && nat_lt n 127) is) ∙ p in absurd cc
  | inr e ↦ simp (t, p) e
]

shown_whole : (bs : List ℕ) → list_any is_newline (map shown_byte bs) ≡ false
shown_whole [] = refl
shown_whole (b ∷ bs) = let h = shown_by b (b == 9) (nat_lt 31 b && nat_lt b 127) refl refl in simp h (shown_whole bs)

comment_whole : (body : List ℕ) → list_any is_newline (comment body) ≡ false
comment_whole body = shown_whole (take 1000 body)

comment_length : (body : List ℕ) → length (comment body) ≤ 1024
comment_length body =
    let one = length-map (take 1000 body) shown_byte in
    let two = length-take 1000 body in
    let whole = length-append comment_start (map shown_byte (take 1000 body)) in
    omega (arith, one, two, whole)

comment_short : (body : List ℕ) → nat_lt longest_line (length (comment body)) ≡ false
comment_short body = let h = comment_length body in grind (arith, nat_tests, h)

comment_silent : (body : List ℕ) → is_silent (comment body) ≡ true
comment_silent body = let h = comment_short body in simp h refl

comment_lines : (body : List ℕ) → AreLines is_silent (comment body ++ codes "\n")
comment_lines body = one_line is_silent (comment body) (comment_whole body) (comment_silent body)

lines_unless : (body : List ℕ) (none : Bool) → AreLines is_silent (if none then [] else comment body ++ codes "\n")
lines_unless body true = no_lines is_silent
lines_unless body false = comment_lines body

remark_lines : (remarks : List Remark) → AreLines is_silent (flat_map remark_comment remarks)
remark_lines [] = no_lines is_silent
remark_lines (r ∷ rs) = more_lines is_silent (remark_comment r) (flat_map remark_comment rs) (lines_unless (remark_body r) (is_kernel_made r.reason)) (remark_lines rs)

all_comments : (remarks : List Remark) → AreLines is_silent (comments remarks)
all_comments remarks =
    let n : ℕ = count_by (λ r. is_kernel_made r.reason) remarks in
    more_lines is_silent (flat_map remark_comment remarks) (count_comment n) (remark_lines remarks) (lines_unless (count_body n) (n == 0))

-- lines of such a text in front of others
front_lines : (cs : List (List ℕ)) (rest : List ℕ) → Each (λ line. list_any is_newline line ≡ false) cs → lines_of (lines_text cs ++ rest) ≡ cs ++ lines_of rest
front_lines [] rest whole = refl
front_lines (c ∷ cs) rest whole =
    ap lines_of (append_assoc (c ++ codes "\n") (lines_text cs) rest ∙ append_assoc c (codes "\n") (lines_text cs ++ rest))
    ∙ after_line c (lines_text cs ++ rest) whole.0
    ∙ ap (λ ls. c ∷ ls) (front_lines cs rest whole.1)

with_comments : (script front commands : List ℕ) → script ≡ front ++ commands → AreLines is_silent front → AreCommands commands → IsScript script
with_comments script front commands is silent are = record {
  comments = silent.lines;
  commands = commands;
  lines = ap lines_of (is ∙ ap (λ t. t ++ commands) silent.parts) ∙ front_lines silent.lines commands silent.whole;
  are_silent = silent.pass;
  are_commands = are;
}

comments_first : (c h r d t : List ℕ) → c ++ h ++ r ++ d ++ t ≡ c ++ (h ++ r ++ d ++ t)
comments_first c h r d t =
    ap (λ text. text ++ d ++ t) (append_assoc c h r)
    ∙ ap (λ text. text ++ t) (append_assoc c (h ++ r) d)
    ∙ append_assoc c (h ++ r ++ d) t

-- what is made of a text is a script
pub import_is_script : (names : KnownNames) (text script : List ℕ) → script ≡ script_of (has_rules (lines_of text)) (parts_of names false 1 (lines_of text)) → IsScript script
import_is_script names text script is =
    let parts : Parts = parts_of names false 1 (lines_of text) in
    let any : Bool = has_rules (lines_of text) in
    with_comments script (comments parts.left) (commands_of any parts) (is ∙ comments_first (comments parts.left) (head any) parts.rules parts.direct parts.through) (all_comments parts.left)
    (script_lines (commands_of any parts) any parts (parts_add names false 1 (lines_of text)) (no_rules names false 1 (lines_of text)) refl)
