-- What a dump that is put back yields.
use Rattle.std.specs.Prelude.{◌≡◌, ℕ, ◌+◌, true, not, List, [], ◌∷◌, map, position, Option, Some, None}
use Rattle.std.specs.List.{AllByRecursion as Each}
use Rattle.prt_refusals.specs.declared.on_refusal.OnRefusal.{OnRefusal}
use Rattle.prt_command.specs.declared.request.Query.{Query}
use Rattle.prt_command.specs.declared.request.Query.TheVariants.{Get}
use Rattle.prt_listing.specs.QueryText.{lines_text, query_text}
use Rattle.prt_rule.specs.declared.rule.Rule.{Rule}
use Rattle.prt_session.specs.Desk.{DeskState, Mishap, request_turn, settled}
use Rattle.prt_replies.specs.Input.{end_of_input}
use Rattle.prt_session.specs.Session.{Session, replies, session}
use Rattle.prt_replies.specs.declared.reply.Reply.{Reply}
use Rattle.prt_replies.specs.declared.reply.Reply.TheVariants.{Accepted}
use Rattle.prt_version.specs.State.{State, opening_state}
use Rattle.prt_spelling.specs.Fits.{CommandFits}
use Rattle.prt_spelling.specs.Spelled.{is_spelled}
use Rattle.prt_dump.specs.Dump.{add_route, add_rule, dump_lines}
use Rattle.prt_dump.specs.declared.refusal.DumpError.{DumpError}
use Rattle.prt_dump.specs.declared.refusal.DumpError.TheVariants as refusals

-- ---- which states have a dump

-- a line can express each rule and each route
pub record IsPlainState (state : State) : Type 0 where
  pub rules : Each (λ rule. is_spelled (add_rule rule) ≡ true) state.rules
  pub routes : Each (λ route. is_spelled (add_route route) ≡ true) state.routes

-- their numbers are those of the program's types
pub record StateFits (state : State) : Type 0 where
  pub rules : Each (λ rule. CommandFits (add_rule rule)) state.rules
  pub routes : Each (λ route. CommandFits (add_route route)) state.routes

abbrev pub first_unplain_rule : State → Option ℕ
first_unplain_rule state = position (λ rule. not (is_spelled (add_rule rule))) state.rules

abbrev pub first_unplain_route : State → Option ℕ
first_unplain_route state = position (λ route. not (is_spelled (add_route route))) state.routes

-- the first rule that no line can express, or, if a line can express each rule, the first such route
abbrev pub IsWhyNot : State → DumpError → Type 0
IsWhyNot state (refusals.Rule place) = first_unplain_rule state ≡ Some place
IsWhyNot state (refusals.Route place) = (first_unplain_rule state ≡ None) × (first_unplain_route state ≡ Some place)
IsWhyNot state refusals.NoMemory = Unit {0}

-- ---- what is put back

abbrev pub without_id : Rule → Rule
without_id rule = record rule { id = 0 }

-- the same routes and, except for ids, the same rules
pub record IsSameButForIds (state other : State) : Type 0 where
  pub rules : map without_id state.rules ≡ map without_id other.rules
  pub routes : state.routes ≡ other.routes

-- `route show` or `rule show`
abbrev pub IsListing : Query → Type 0
IsListing (Get packet) = ⊥
IsListing query = Unit {0}

-- each listing is byte for byte the same
abbrev pub ListsSame : State → State → Type 0
ListsSame state other = (query : Query) → IsListing query → query_text state query ≡ query_text other query

-- the lines of a dump, each with its newline
abbrev pub dump_text : State → List ℕ
dump_text state = lines_text (dump_lines state)

-- the session of a script over a new database, if nothing befalls a line
abbrev pub session_of : OnRefusal → List ℕ → Session DeskState Mishap
session_of mode script = session request_turn (settled opening_state) (record { bytes = script; ending = end_of_input }) mode []

-- `ok N` for each line, where N rises by one from this number on
abbrev pub acceptances : ℕ → List (List ℕ) → List Reply
acceptances number [] = []
acceptances number (line ∷ lines) = Accepted (number + 1) ∷ acceptances (number + 1) lines

-- A session over a dump of the state accepts each line, and leaves a desk over such a state.
pub record IsPutBack (state : State) (session : Session DeskState Mishap) : Type 0 where
  pub remade : State
  pub same : IsSameButForIds remade state
  pub lists : ListsSame remade state
  pub desk_is : session.desk ≡ settled remade
  pub replies_are : replies session ≡ acceptances 0 (dump_lines state)
  pub unread : session.unread ≡ []
