-- The lines that add rules and routes.
use Rattle.std.specs.Prelude.{ℕ, Bool, true, false, ◌&&◌, ◌==◌, ◌+◌, nat_lt, is_some, if◌then◌else◌, List, [], ◌∷◌, ◌++◌, length, position, take}
use Rattle.std.specs.Prelude.{Option, Some, None, Result, Ok, Err, bytes_eq, codes}
use Rattle.std.specs.Char.{is_ascii_digit}
use Rattle.std.specs.List.{list_all, list_any}
use Rattle.prt_addr.specs.Word.{Word}
use Rattle.prt_refusals.specs.declared.refusal.Refusal.{Refusal}
use Rattle.prt_refusals.specs.declared.refusal.Refusal.TheVariants.{UnknownVerb}
use Rattle.prt_route.specs.declared.route.Route.{Route}
use Rattle.prt_command.specs.Reading.{reading, words}
use Rattle.prt_command.specs.declared.request.Command.TheVariants as commands
use Rattle.prt_command.specs.declared.request.NewRule.{NewRule}
use Rattle.prt_command.specs.declared.request.Request.{Request}
use Rattle.prt_command.specs.declared.request.Request.TheVariants.{Command}
use Rattle.prt_import.specs.TableNames.{KnownNames}
use Rattle.prt_import.specs.Then.{◌>>=◌, map_ok}
use Rattle.prt_import.specs.Translation.{translated}
use Rattle.prt_import.specs.declared.known.Object.TheVariants as objects
use Rattle.prt_import.specs.declared.reason.Reason.{Reason}
use Rattle.prt_import.specs.declared.reason.Reason.TheVariants as reasons
use Rattle.prt_import.specs.declared.step.Place.TheVariants as places

-- ---- rules

-- the rule that a line adds, by what it was read as
abbrev pub added_rule : Result (Option Request) Refusal → Result NewRule Refusal
added_rule (Ok (Some (Command (commands.RuleAdd rule)))) = Ok rule
added_rule (Err refusal) = Err refusal
added_rule other = Err UnknownVerb

-- a value that was read, or the refusal as a reason
abbrev pub or_reason : {X : Type 0} → Result X Refusal → Result X Reason
or_reason (Ok x) = Ok x
or_reason (Err refusal) = Err (reasons.Refused refusal)

abbrev pub rule_text : KnownNames → Word → List Word → Result (List ℕ) Reason
rule_text names priority items = map_ok (λ t. codes "rule add priority " ++ priority ++ t.text) (translated names objects.Rule places.Item items)

-- what a line adds, if it has no comment and is read as such a line
abbrev pub checked : {X : Type 0} → (Result (Option Request) Refusal → Result X Refusal) → List ℕ → Result X Reason
checked added line = if list_any (λ b. b == 35) line then Err reasons.Comment else or_reason (added (reading line))

-- the line that adds a rule with this priority and these items, which is read as such
abbrev pub rule_line : KnownNames → Word → List Word → Result (List ℕ) Reason
rule_line names priority items = rule_text names priority items >>= λ line. map_ok (λ rule. line) (checked added_rule line)

-- ---- routes

abbrev pub added_route : Result (Option Request) Refusal → Result Route Refusal
added_route (Ok (Some (Command (commands.RouteAdd route)))) = Ok route
added_route (Err refusal) = Err refusal
added_route other = Err UnknownVerb

-- `ip` leaves the scope out that is global
abbrev pub scope_text : Bool → List ℕ
scope_text true = []
scope_text false = codes " scope global"

abbrev pub route_text : KnownNames → List Word → Result (List ℕ) Reason
route_text names ws = map_ok (λ t. codes "route add" ++ t.text ++ scope_text t.is_scope_settled) (translated names objects.Route places.Destination ws)

-- A line that adds a route, and whether that has a gateway.
pub record RouteText : Type 0 where
  pub line : List ℕ
  pub has_gateway : Bool

-- the line that adds a route with these words, which is read as such
abbrev pub route_line : KnownNames → List Word → Result RouteText Reason
route_line names ws = route_text names ws >>= λ line. map_ok (λ route. record { line = line; has_gateway = is_some route.via }) (checked added_route line)

-- ---- which line is what

abbrev pub priority_at : Option ℕ → Word → Option Word
priority_at None w = None
priority_at (Some at) w = if nat_lt 0 at && (at + 1 == length w && list_all is_ascii_digit (take at w)) then Some (take at w) else None

-- the priority of a word that begins a rule's line, which is digits and a colon
abbrev pub priority_of : Word → Option Word
priority_of w = priority_at (position (λ b. b == 58) w) w

-- what a line that begins with this word says of the route in the line before it
abbrev pub continuation_of : Word → Option Reason
continuation_of w =
    if bytes_eq (codes "nexthop") w then Some reasons.SeveralNextHops else
    (if bytes_eq (codes "nh_info") w then Some reasons.NextHopObject else
    (if bytes_eq (codes "cache") w then Some reasons.Cached else None))

abbrev pub words_continue : List Word → Option Reason
words_continue [] = None
words_continue (w ∷ ws) = continuation_of w

-- what the first of these lines says of a route in the line before it
abbrev pub continuation : List (List ℕ) → Option Reason
continuation [] = None
continuation (line ∷ lines) = words_continue (words line)
