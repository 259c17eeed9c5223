-- The text of an answer.
use Rattle.std.specs.Prelude.{ℕ, List, [], ◌∷◌, ◌++◌, Option, Some, codes, decimal}
use Rattle.prt_listing.specs.Parts.{spaced, table_text}
use Rattle.prt_listing.specs.RouteText.{route_text}
use Rattle.prt_listing.specs.RuleText.{action_text}
use Rattle.prt_listing.specs.declared.route.TablePart.TheVariants.{LeftOut}
use Rattle.prt_version.specs.declared.answer.Answer.{Answer}
use Rattle.prt_version.specs.declared.answer.Verdict.{Verdict}
use Rattle.prt_version.specs.declared.answer.Verdict.TheVariants.{Route, RuleSays, NoRoute}

-- the rule that decides
abbrev pub rule_part : ℕ → List ℕ
rule_part priority = codes "rule " ++ decimal priority

-- rule P table TABLE ROUTE, rule P ACTION, or none
abbrev pub verdict_parts : Verdict → List (Option (List ℕ))
verdict_parts (Route priority route) =
    Some (rule_part priority)
    ∷ Some (codes "table " ++ table_text route.table)
    ∷ Some (route_text route LeftOut)
    ∷ []
verdict_parts (RuleSays priority action) = Some (rule_part priority) ∷ Some (action_text action) ∷ []
verdict_parts NoRoute = Some (codes "none") ∷ []

-- answer N, and the verdict in the version of this number
abbrev pub answer_text : Answer → List ℕ
answer_text answer = spaced (Some (codes "answer " ++ decimal answer.number) ∷ verdict_parts answer.verdict)
