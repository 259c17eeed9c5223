-- What the steps of reading a line return.
use Rattle.std.specs.Prelude.{Bool, true, false, List, Result}
use Rattle.prt_addr.specs.Word.{Word}
use Rattle.prt_refusals.specs.declared.refusal.Refusal.{Refusal}
use Rattle.prt_command.specs.Items.{put}
use Rattle.prt_command.specs.LineKinds.{LineKind}
use Rattle.prt_command.specs.Scan.{Scanned, items_after}
use Rattle.prt_command.specs.Then.{◌>>=◌}
use Rattle.prt_command.specs.declared.item.Items.{Items}
use Rattle.prt_command.specs.declared.item.Slot.{Slot}
use Rattle.prt_command.specs.declared.item.Slot.TheVariants.{Range, Tables, OfKind, Address, Source, Iif, Mark, Inverted, From, To, Fwmark, Priority}
use Rattle.prt_command.specs.declared.item.Slot.TheVariants.{Action, Suppress}

-- an item that was read and the items after it, or its fault
abbrev pub and_items : LineKind → Items → Scanned → List Word → Result Items Refusal
and_items line given taken ws = taken >>= λ t. items_after line t.1 (put t.0 given) ws

-- the items of rules
abbrev pub is_of_rules : Slot → Bool
is_of_rules Inverted = true
is_of_rules From = true
is_of_rules To = true
is_of_rules Fwmark = true
is_of_rules Priority = true
is_of_rules Action = true
is_of_rules Suppress = true
is_of_rules slot = false

-- the items of lines that list or flush routes, or ask for one
abbrev pub is_of_queries : Slot → Bool
is_of_queries Range = true
is_of_queries Tables = true
is_of_queries OfKind = true
is_of_queries Address = true
is_of_queries Source = true
is_of_queries Iif = true
is_of_queries Mark = true
is_of_queries slot = false
