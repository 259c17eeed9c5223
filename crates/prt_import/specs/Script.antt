-- The script of what `ip` printed, and what is reported of it, line by line.
use Rattle.std.specs.Prelude.{ℕ, ◌+◌, Bool, true, false, is_some, if◌then◌else◌, List, [], ◌∷◌, ◌++◌, Option, Some, None, Result, Ok, Err, codes}
use Rattle.std.specs.List.{list_any}
use Rattle.prt_addr.specs.Word.{Word}
use Rattle.prt_command.specs.Reading.{words}
use Rattle.prt_import.specs.Comments.{comments}
use Rattle.prt_import.specs.NewLines.{RouteText, continuation, continuation_of, priority_of, route_line, rule_line}
use Rattle.prt_import.specs.TableNames.{KnownNames}
use Rattle.prt_import.specs.Told.{Numbered, Remark, fault_word, is_kernels, notes_of, remark}
use Rattle.prt_import.specs.declared.known.Object.TheVariants.{Rule, Route}
use Rattle.prt_import.specs.declared.reason.Reason.{Reason}
use Rattle.prt_import.specs.declared.reason.Reason.TheVariants as reasons
use Rattle.prt_import.specs.declared.step.Place.TheVariants.{Destination, Item}

-- What lines add: to the rules, to the routes without a gateway and with one, and to what is reported.
pub record Parts : Type 0 where
  pub rules : List ℕ
  pub direct : List ℕ
  pub through : List ℕ
  pub left : List Remark
  pub notes : List Remark

abbrev pub no_parts : Parts
no_parts = record { rules = []; direct = []; through = []; left = []; notes = [] }

infixl 6 ◌and◌
abbrev pub ◌and◌ : Parts → Parts → Parts
p and q = record {
  rules = p.rules ++ q.rules;
  direct = p.direct ++ q.direct;
  through = p.through ++ q.through;
  left =
      p.left ++ q.left;
  notes = p.notes ++ q.notes;
}

-- a line that is left out, for this word
abbrev pub left_out : Numbered → Word → Reason → Parts
left_out line w reason = record no_parts { left = remark line w reason ∷ [] }

-- ---- rules

-- the rule is added, or its line is left out
abbrev pub rule_by : KnownNames → Numbered → List Word → Result (List ℕ) Reason → Parts
rule_by names line items (Ok text) = record no_parts { rules = text ++ codes "\n"; notes = notes_of names Rule line Item items }
rule_by names line items (Err reason) = left_out line (fault_word names Rule Item items) reason

abbrev pub rule_part : KnownNames → Numbered → Word → List Word → Parts
rule_part names line priority items = rule_by names line items (rule_line names priority items)

-- ---- routes

abbrev pub added_part : RouteText → Parts
added_part route = if route.has_gateway then record no_parts { through = route.line ++ codes "\n" } else record no_parts { direct = route.line ++ codes "\n" }

abbrev pub left_route : KnownNames → Numbered → List Word → Reason → Parts
left_route names line ws reasons.Type =
    if is_kernels ws then left_out line [] reasons.Kernel else left_out line (fault_word names Route Destination ws) reasons.Type
left_route names line ws reasons.Json = left_out line [] reasons.Json
left_route names line ws reason = left_out line (fault_word names Route Destination ws) reason

-- the route is added, or its line is left out
abbrev pub route_by : KnownNames → Numbered → List Word → Result RouteText Reason → Parts
route_by names line ws (Ok route) = record (added_part route) { notes = notes_of names Route line Destination ws }
route_by names line ws (Err reason) = left_route names line ws reason

abbrev pub route_part : KnownNames → Numbered → List Word → Parts
route_part names line ws = route_by names line ws (route_line names ws)

-- by what the first word says of the route before, and the next line of this one. A line that goes on with a route was reported with it.
abbrev pub route_or_more : KnownNames → Bool → Numbered → Word → List Word → Option Reason → Option Reason → Parts
route_or_more names in_route line w ws None None = route_part names line (w ∷ ws)
route_or_more names in_route line w ws None (Some reason) = left_out line [] reason
route_or_more names true line w ws (Some reason) more = no_parts
route_or_more names false line w ws (Some reason) more = left_out line w reason

-- ---- lines

abbrev pub part_by : KnownNames → Bool → Numbered → Word → List Word → Option Word → Option Reason → Parts
part_by names in_route line w ws (Some priority) more = rule_part names line priority ws
part_by names in_route line w ws None more = route_or_more names in_route line w ws (continuation_of w) more

-- what a line with these words adds, after a route or one of its further lines, or not so
abbrev pub line_part : KnownNames → Bool → Numbered → List Word → Option Reason → Parts
line_part names in_route line [] more = no_parts
line_part names in_route line (w ∷ ws) more = part_by names in_route line w ws (priority_of w) more

abbrev pub is_rule : List Word → Bool
is_rule [] = false
is_rule (w ∷ ws) = is_some (priority_of w)

-- whether the next line may go on with a route
abbrev pub is_route : List Word → Bool
is_route [] = false
is_route (w ∷ ws) = if is_some (priority_of w) then false else true

-- what the lines add, from this number on
abbrev pub parts_of : KnownNames → Bool → ℕ → List (List ℕ) → Parts
parts_of names in_route number [] = no_parts
parts_of names in_route number (line ∷ lines) =
    line_part names in_route (record { number = number; content = line }) (words line) (continuation lines)
    and parts_of names (is_route (words line)) (number + 1) lines

abbrev pub has_rules : List (List ℕ) → Bool
has_rules lines = list_any (λ line. is_rule (words line)) lines

-- without the rules that there are
abbrev pub head : Bool → List ℕ
head true = codes "rule flush\nrule del priority 0\n"
head false = []

-- rules, then routes without a gateway, then those with one, each in order
abbrev pub commands_of : Bool → Parts → List ℕ
commands_of any parts = head any ++ parts.rules ++ parts.direct ++ parts.through

-- comments that say what is left out come before them
abbrev pub script_of : Bool → Parts → List ℕ
script_of any parts = comments parts.left ++ head any ++ parts.rules ++ parts.direct ++ parts.through
