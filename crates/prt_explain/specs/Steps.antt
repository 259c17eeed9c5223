-- What the parts of the program make.
use Rattle.std.specs.Prelude.{ℕ, Bool, not, ◌&&◌, List, ◌++◌, map, Option, option_map, codes}
use Rattle.std.specs.List.{flat_map}
use Rattle.prt_addr.specs.declared.addr.Addr.{Addr}
use Rattle.prt_route.specs.Best.{best}
use Rattle.prt_route.specs.declared.route.Route.{Route}
use Rattle.prt_rule.specs.declared.packet.Packet.{Packet}
use Rattle.prt_rule.specs.declared.rule.Rule.{Rule}
use Rattle.prt_listing.specs.QueryText.{lines_text}
use Rattle.prt_version.specs.Select.{is_throw, suppresses}
use Rattle.prt_explain.specs.Explanation.{Line, asked_rules, rule_lines, runner_up}
use Rattle.prt_explain.specs.declared.lookup.Found.{Found}

-- a line for each note
abbrev pub notes_text : List Line → List ℕ
notes_text notes = lines_text (map (λ note. codes "\t" ++ note) notes)

-- the lines of the rules that are tried of these
abbrev pub asked_text : List Rule → List Route → Packet → List ℕ
asked_text rules routes packet = lines_text (flat_map (λ rule. rule_lines rule routes packet) (asked_rules rules routes packet))

-- the best route of the table for the address, and the runner-up
abbrev pub found : List Route → ℕ → Addr → Option Found
found routes table addr = option_map (λ route. record { best = route; runner_up = runner_up route routes table addr }) (best routes table addr)

-- a rule that finds the route decides
abbrev pub speaks : Option ℕ → Route → Bool
speaks suppress route = not (is_throw route.kind) && not (suppresses suppress route)
