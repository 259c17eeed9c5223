-- The lines that answer a query.
use Rattle.std.specs.Prelude.{ℕ, List, [], ◌∷◌, ◌++◌, length, map, Option, Some, None, codes, decimal}
use Rattle.prt_command.specs.declared.request.Query.{Query}
use Rattle.prt_command.specs.declared.request.Query.TheVariants.{RouteShow, RuleShow, Get}
use Rattle.prt_listing.specs.AnswerText.{answer_text}
use Rattle.prt_listing.specs.RouteText.{route_text}
use Rattle.prt_listing.specs.RuleText.{rule_text}
use Rattle.prt_listing.specs.declared.route.TablePart.{TablePart}
use Rattle.prt_listing.specs.declared.route.TablePart.TheVariants.{Shown, LeftOut}
use Rattle.prt_version.specs.Listing.{listing}
use Rattle.prt_version.specs.Select.{select}
use Rattle.prt_version.specs.State.{State}

-- each line, and a newline after it
abbrev pub lines_text : List (List ℕ) → List ℕ
lines_text [] = []
lines_text (line ∷ lines) = line ++ codes "\n" ++ lines_text lines

-- the lines, and how many they are
abbrev pub listing_text : List (List ℕ) → List ℕ
listing_text lines = lines_text lines ++ codes "end " ++ decimal (length lines) ++ codes "\n"

-- the table is shown if all tables are listed
abbrev pub table_shown : Option ℕ → TablePart
table_shown (Some table) = LeftOut
table_shown None = Shown

abbrev pub query_text : State → Query → List ℕ
query_text state (RouteShow selector) = listing_text (map (λ route. route_text route (table_shown selector.table)) (listing selector state.routes))
query_text state RuleShow = listing_text (map rule_text state.rules)
query_text state (Get packet) = answer_text (record { number = state.count; verdict = select state packet }) ++ codes "\n"
