-- What a line that `ip` prints is about, also if it can't be kept: the key of its route, or the priority of its rule.
use Rattle.std.specs.Prelude.{ℕ, Bool, ◌||◌, if◌then◌else◌, List, [], ◌∷◌, Option, Some, None, Result, Ok, Err, option_and_then, option_map, bytes_eq, codes}
use Rattle.std.specs.Option.{option_or}
use Rattle.prt_addr.specs.Block.{Block}
use Rattle.prt_addr.specs.Number.{number}
use Rattle.prt_addr.specs.Prefix.{prefix}
use Rattle.prt_addr.specs.Word.{Word, is_one_of}
use Rattle.prt_refusals.specs.declared.refusal.Refusal.{Refusal}
use Rattle.prt_route.specs.Names.{main_table, number_in, table}
use Rattle.prt_route.specs.declared.route.RouteKey.{RouteKey}
use Rattle.prt_import.specs.NewLines.{priority_of}
use Rattle.prt_import.specs.Steps.{dropping_types, other_types}
use Rattle.prt_import.specs.TableNames.{KnownNames}

-- ---- routes

abbrev pub is_type : Word → Bool
is_type w = is_one_of w dropping_types || (is_one_of w other_types || bytes_eq (codes "unicast") w)

abbrev pub first_of : List Word → Option Word
first_of [] = None
first_of (w ∷ ws) = Some w

-- after the type, if there is one
abbrev pub destination_of : List Word → Option Word
destination_of [] = None
destination_of (w ∷ ws) = if is_type w then first_of ws else Some w

-- the word that may name an item; the name of an interface names none
abbrev pub naming : Word → Word → Word
naming before w = if bytes_eq (codes "dev") before then [] else w

-- the value of an item in these words after this one
abbrev pub value_after : Word → Word → List Word → Option Word
value_after name before [] = None
value_after name before (w ∷ ws) = if bytes_eq name before then Some w else value_after name (naming before w) ws

abbrev pub value_of : Word → List Word → Option Word
value_of name ws = value_after name [] ws

-- main if none is said
abbrev pub table_in : KnownNames → Option Word → Option ℕ
table_in names None = Some main_table
table_in names (Some w) = option_or (number_in names.tables w) (table w)

-- 0 if none is said
abbrev pub metric_in : Option Word → Option ℕ
metric_in None = Some 0
metric_in (Some w) = number w

abbrev pub prefix_in : Result Block Refusal → Option Block
prefix_in (Ok block) = Some block
prefix_in (Err refusal) = None

abbrev pub route_key : KnownNames → List Word → Option RouteKey
route_key names ws =
    option_and_then (λ destination.
    option_and_then (λ block.
    option_and_then (λ table.
    option_map (λ metric. record { table = table; prefix = block; metric = metric })
    (metric_in (value_of (codes "metric") ws)))
    (table_in names (value_of (codes "table") ws)))
    (prefix_in (prefix destination)))
    (destination_of ws)

-- ---- rules

abbrev pub rule_priority : List Word → Option ℕ
rule_priority [] = None
rule_priority (w ∷ ws) = option_and_then number (priority_of w)
