-- The text of unused rules and routes.
use Rattle.std.specs.Prelude.{ℕ, List, ◌++◌, flat_map, codes}
use Rattle.prt_addr.specs.Addr.{addr_text}
use Rattle.prt_listing.specs.AnswerText.{verdict_parts}
use Rattle.prt_listing.specs.Parts.{hex_text, spaced, table_text}
use Rattle.prt_listing.specs.RouteText.{route_text}
use Rattle.prt_listing.specs.RuleText.{rule_text}
use Rattle.prt_listing.specs.declared.route.TablePart.TheVariants.{Shown}
use Rattle.prt_rule.specs.declared.packet.Packet.{Packet}
use Rattle.prt_version.specs.declared.answer.Verdict.{Verdict}
use Rattle.prt_analyses.specs.declared.unused.report.Example.{Example}
use Rattle.prt_analyses.specs.declared.unused.report.RouteReason.{RouteReason}
use Rattle.prt_analyses.specs.declared.unused.report.RouteReason.TheVariants.{NoRule, Throws, Unmatched, Reaches}
use Rattle.prt_analyses.specs.declared.unused.report.RuleReason.{RuleReason}
use Rattle.prt_analyses.specs.declared.unused.report.RuleReason.TheVariants.{MatchesNothing, Matches}
use Rattle.prt_analyses.specs.declared.unused.report.Unused.{Unused}
use Rattle.prt_analyses.specs.declared.unused.report.UnusedRoute.{UnusedRoute}
use Rattle.prt_analyses.specs.declared.unused.report.UnusedRule.{UnusedRule}

-- ADDR from ADDR iif NAME mark NUMBER
abbrev pub packet_text : Packet → List ℕ
packet_text packet =
    addr_text packet.dst
    ++ codes " from " ++ addr_text packet.src
    ++ codes " iif " ++ packet.iif
    ++ codes " mark " ++ hex_text packet.mark

-- as an answer, without its number
abbrev pub verdict_text : Verdict → List ℕ
verdict_text verdict = spaced (verdict_parts verdict)

-- PACKET gets VERDICT
abbrev pub example_text : Example → List ℕ
example_text example = packet_text example.packet ++ codes " gets " ++ verdict_text example.verdict

abbrev pub rule_reason_text : RuleReason → List ℕ
rule_reason_text MatchesNothing = codes "no packet matches"
rule_reason_text (Matches example) = example_text example

abbrev pub route_reason_text : ℕ → RouteReason → List ℕ
route_reason_text table NoRule = codes "no rule looks up table " ++ table_text table
route_reason_text table Throws = codes "a throw route: what finds it goes on to the next rule"
route_reason_text table Unmatched = codes "no rule that looks up table " ++ table_text table ++ codes " matches a packet to it"
route_reason_text table (Reaches example) = example_text example

-- a line, and after a tab the reason
abbrev pub entry : List ℕ → List ℕ → List ℕ
entry line reason = line ++ codes "\n\t" ++ reason ++ codes "\n"

abbrev pub rule_entry : UnusedRule → List ℕ
rule_entry one = entry (rule_text one.rule) (rule_reason_text one.reason)

abbrev pub route_entry : UnusedRoute → List ℕ
route_entry one = entry (route_text one.route Shown) (route_reason_text one.route.table one.reason)

-- the rules, and then the routes
abbrev pub unused_text : Unused → List ℕ
unused_text unused = flat_map rule_entry unused.rules.items ++ flat_map route_entry unused.routes.items
