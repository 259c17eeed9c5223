-- Which fence words name, beside lines that can't be kept.
use Rattle.std.specs.Prelude.{◌≡◌, ℕ, List, Option, None, filter_map, if◌then◌else◌, is_some, map, option_map}
use Rattle.prt_command.specs.Reading.{words}
use Rattle.prt_diff.specs.declared.fence.Fence.{Fence}
use Rattle.prt_diff.specs.declared.fence.NumberRange.{NumberRange}
use Rattle.prt_import.specs.Keys.{route_key, rule_priority}
use Rattle.prt_import.specs.TableNames.{KnownNames}
use Rattle.prt_import.specs.declared.omitted_line.OmittedLine.{OmittedLine}
use Rattle.prt_route.specs.declared.route.RouteKey.{RouteKey}
use Rattle.prt_args.specs.declared.reach.NumberSpan.{NumberSpan}
use Rattle.prt_args.specs.declared.reach.Reach.{Reach}
use Rattle.prt_questions.specs.LeftOut.{is_kernels}

abbrev pub range_of : NumberSpan → NumberRange
range_of span = record { first = span.first; last = span.last }

-- that of a number alone
abbrev pub range_at : ℕ → NumberRange
range_at number = record { first = number; last = number }

-- the priority of the rule that a line is about
abbrev pub priority_in : OmittedLine → Option ℕ
priority_in line = rule_priority (words line.text.items)

-- the same alone of a line that can't be kept, unless the kernel makes it itself
abbrev pub unread_priority : OmittedLine → Option NumberRange
unread_priority line = if is_kernels line then None else option_map range_at (priority_in line)

-- and the key of its route, if it is about no rule
abbrev pub unread_key : KnownNames → OmittedLine → Option RouteKey
unread_key names line = if is_kernels line then None else (if is_some (priority_in line) then None else route_key names (words line.text.items))

-- The fence has what the words name. It leaves out what is in the place of these lines, which can't be kept, and nothing else:
-- rules of their priorities, and routes of their keys, by some names of tables.
pub record IsFenceOf (reach : Reach) (unread : List OmittedLine) (fence : Fence) : Type 0 where
  pub all : fence.all ≡ reach.all
  pub tables : fence.tables.items ≡ map range_of reach.tables.items
  pub protocols : fence.protocols.items ≡ map range_at reach.protocols.items
  pub priorities : fence.priorities.items ≡ map range_of reach.priorities.items
  pub unread_priorities : fence.unread_priorities.items ≡ filter_map unread_priority unread
  pub names : KnownNames
  pub unread_keys : fence.unread_keys.items ≡ filter_map (unread_key names) unread
