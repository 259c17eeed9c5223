-- Which rules are tried for packets, and which can decide none.
use Rattle.std.specs.Prelude.{◌≡◌, ℕ, ◌<◌, ◌≤◌, List, length, slice_index_or, None}
use Rattle.prt_route.specs.declared.route.Route.{Route}
use Rattle.prt_rule.specs.declared.packet.Packet.{Packet}
use Rattle.prt_rule.specs.declared.rule.Rule.{Rule}
use Rattle.prt_version.specs.Select.{decision}
use Rattle.prt_version.specs.declared.tried.Tried.{Tried}

-- the rule says nothing of any packet
abbrev pub SaysNothing : Rule → List Route → Type 0
SaysNothing rule routes = (packet : Packet) → decision rule routes packet ≡ None

-- the rules before those that are tried say nothing, and those after them
pub record AreTried (rules : List Rule) (routes : List Route) (tried : Tried) : Type 0 where
  pub from : tried.from ≤ tried.to
  pub to : tried.to ≤ length rules
  pub before : (k : ℕ) (d : Rule) → k < tried.from → SaysNothing (slice_index_or rules k d) routes
  pub after : (k : ℕ) (d : Rule) → tried.to ≤ k → k < length rules → SaysNothing (slice_index_or rules k d) routes
