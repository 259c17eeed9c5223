-- What becomes of one word of a line.
use Rattle.std.specs.Prelude.{ℕ, Bool, true, false, ◌||◌, ◌==◌, if◌then◌else◌, List, [], ◌∷◌, Option, Some, None, Result, Ok, Err, bytes_eq, codes}
use Rattle.std.specs.List.{list_any}
use Rattle.std.specs.Option.{ok_or}
use Rattle.prt_addr.specs.Number.{number}
use Rattle.prt_addr.specs.Word.{Word, is_one_of}
use Rattle.prt_route.specs.Names.{number_in, protocol, table}
use Rattle.prt_refusals.specs.declared.refusal.Refusal.{Refusal}
use Rattle.prt_refusals.specs.declared.refusal.Refusal.TheVariants.{BadNumber, BadTable}
use Rattle.prt_import.specs.Known.{meaning_of}
use Rattle.prt_import.specs.TableNames.{KnownNames}
use Rattle.prt_import.specs.Then.{map_ok}
use Rattle.prt_import.specs.declared.known.Object.{Object}
use Rattle.prt_import.specs.declared.known.Role.{Role}
use Rattle.prt_import.specs.declared.known.Role.TheVariants as roles
use Rattle.prt_import.specs.declared.known.Meaning.{Meaning}
use Rattle.prt_import.specs.declared.known.Meaning.TheVariants.{Alone, Before, State, Told, Out}
use Rattle.prt_import.specs.declared.reason.Reason.{Reason}
use Rattle.prt_import.specs.declared.reason.Reason.TheVariants as reasons
use Rattle.prt_import.specs.declared.step.Place.{Place}
use Rattle.prt_import.specs.declared.step.Place.TheVariants.{Destination, Item, Value}
use Rattle.prt_import.specs.declared.step.Step.{Step}
use Rattle.prt_import.specs.declared.step.Written.{Written}
use Rattle.prt_import.specs.declared.step.Written.TheVariants.{Nothing, Same, WithMask, Number}

-- ---- what is written

abbrev pub before : Place → Written → Step
before next written = record { written = written; next = next; settles_scope = false }

abbrev pub ends_item : Written → Step
ends_item written = before Item written

-- the scope is implied from there on: it was said, or is global here as it is there
abbrev pub settles_scope : Place → Written → Step
settles_scope next written = record { written = written; next = next; settles_scope = true }

-- ---- values

-- the protocols for which a line has numbers alone
abbrev pub other_protocols : List (Word × ℕ)
other_protocols = (codes "unspec", 0) ∷ (codes "redirect", 1) ∷ (codes "gated", 8) ∷ (codes "mrt", 10) ∷ (codes "dnrouted", 13)
    ∷ (codes "xorp", 14) ∷ (codes "ntk", 15) ∷ (codes "keepalived", 18) ∷ (codes "babel", 42) ∷ (codes "openr", 99) ∷ (codes "eigrp", 192) ∷ []

-- a table: by the names of the host, and else as a line would say it
abbrev pub table_by : Option ℕ → Result ℕ Refusal → Word → Result Written Reason
table_by (Some n) (Ok same) w = if same == n then Ok Same else Ok (Number n)
table_by (Some n) (Err e) w = Ok (Number n)
table_by None (Ok n) w = Ok Same
table_by None (Err e) w = if bytes_eq (codes "[l3mdev-table]") w then Err reasons.Selector else Err reasons.UnknownTable

abbrev pub table_value : KnownNames → Word → Result Written Reason
table_value names w = table_by (number_in names.tables w) (ok_or (table w) BadTable) w

abbrev pub other_protocol : Option ℕ → Result Written Reason
other_protocol (Some n) = Ok (Number n)
other_protocol None = Err reasons.UnknownProtocol

-- a protocol: by the names of the host, and else as a line would say it, or as every host names it
abbrev pub protocol_by : Option ℕ → Result ℕ Refusal → Word → Result Written Reason
protocol_by (Some n) (Ok same) w = if same == n then Ok Same else Ok (Number n)
protocol_by (Some n) (Err e) w = Ok (Number n)
protocol_by None (Ok n) w = Ok Same
protocol_by None (Err e) w = other_protocol (number_in other_protocols w)

abbrev pub protocol_value : KnownNames → Word → Result Written Reason
protocol_value names w = protocol_by (number_in names.protocols w) (ok_or (protocol w) BadNumber) w

-- 0 without a mask is printed of a rule for marks of which each bit is 0; in a line of `ip` it would be for any mark
abbrev pub mark_by : Option ℕ → Written
mark_by (Some n) = if n == 0 then WithMask else Same
mark_by None = Same

abbrev pub mark_value : Word → Written
mark_value w = mark_by (number w)

-- an address of IPv4 has no colon, and the other families of gateways are named
abbrev pub is_other_family : Word → Bool
is_other_family w = bytes_eq (codes "inet6") w || list_any (λ b. b == 58) w

abbrev pub address_value : Word → Result Written Reason
address_value w = if is_other_family w then Err reasons.Family else Ok Same

abbrev pub value_step : KnownNames → Role → Word → Result Step Reason
value_step names roles.Same w = Ok (ends_item Same)
value_step names roles.Mark w = Ok (ends_item (mark_value w))
value_step names roles.Address w = map_ok ends_item (address_value w)
value_step names roles.Gateway w = map_ok (settles_scope Item) (address_value w)
value_step names roles.Table w = map_ok ends_item (table_value names w)
value_step names roles.Protocol w = map_ok ends_item (protocol_value names w)
value_step names roles.Scope w = Ok (settles_scope Item Same)
value_step names roles.RuleProtocol w = Ok (ends_item Nothing)
value_step names roles.Metric w = if bytes_eq (codes "lock") w then Ok (before (Value roles.Metric) Nothing) else Ok (ends_item Nothing)

-- ---- first words of items

-- the word before a value is kept with it, or left off with it
abbrev pub is_kept : Role → Bool
is_kept roles.RuleProtocol = false
is_kept roles.Metric = false
is_kept role = true

abbrev pub item_by : Option Meaning → Result Step Reason
item_by None = Err reasons.UnknownWord
item_by (Some Alone) = Ok (ends_item Same)
item_by (Some (Before role)) = Ok (before (Value role) (if is_kept role then Same else Nothing))
item_by (Some State) = Ok (ends_item Nothing)
item_by (Some (Told reason)) = Ok (ends_item Nothing)
item_by (Some (Out reason)) = Err reason

abbrev pub item_step : Object → Word → Result Step Reason
item_step object w = item_by (meaning_of object w)

-- ---- types of routes, and destinations

abbrev pub dropping_types : List Word
dropping_types = codes "blackhole" ∷ codes "unreachable" ∷ codes "prohibit" ∷ codes "throw" ∷ []

abbrev pub other_types : List Word
other_types = codes "local" ∷ codes "broadcast" ∷ codes "anycast" ∷ codes "multicast" ∷ codes "nat" ∷ codes "xresolve" ∷ codes "unspec" ∷ []

-- a line that begins so is JSON: with [ ] { } or "
abbrev pub is_json : Word → Bool
is_json [] = false
is_json (b ∷ bs) = b == 91 || b == 93 || b == 123 || b == 125 || b == 34

abbrev pub destination_step : Word → Result Step Reason
destination_step w =
    if is_one_of w dropping_types then Ok (settles_scope Destination Same) else
    (if bytes_eq (codes "unicast") w then Ok (before Destination Same) else
    (if is_one_of w other_types then Err reasons.Type else
    (if is_json w then Err reasons.Json else
    map_ok ends_item (address_value w))))

-- ---- any word

-- what becomes of a word at this place, or why its line is left out
abbrev pub step_of : KnownNames → Object → Place → Word → Result Step Reason
step_of names object Destination w = destination_step w
step_of names object Item w = item_step object w
step_of names object (Value role) w = value_step names role w
