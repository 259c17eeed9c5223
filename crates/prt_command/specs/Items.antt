-- The items of lines, and a set of them.
use Rattle.std.specs.Prelude.{Bool, true, false, not, List, [], ◌∷◌, Some, None, is_some}
use Rattle.std.specs.List.{list_any}
use Rattle.prt_command.specs.declared.item.Item.{Item}
use Rattle.prt_command.specs.declared.item.Item.TheVariants as item
use Rattle.prt_command.specs.declared.item.Items.{Items}
use Rattle.prt_command.specs.declared.item.Slot.{Slot}
use Rattle.prt_command.specs.declared.item.Slot.TheVariants.{Destination, Via, Dev, Table, Proto, Scope, Src, Metric, Range, Tables, OfKind, Address}
use Rattle.prt_command.specs.declared.item.Slot.TheVariants.{Source, Iif, Mark, Inverted, From, To, Fwmark, Priority, Action, Suppress}

-- which item it is
abbrev pub slot_of : Item → Slot
slot_of (item.Destination target) = Destination
slot_of (item.Via addr) = Via
slot_of (item.Dev name) = Dev
slot_of (item.Table table) = Table
slot_of (item.Proto proto) = Proto
slot_of (item.Scope scope) = Scope
slot_of (item.Src addr) = Src
slot_of (item.Metric metric) = Metric
slot_of (item.Range range) = Range
slot_of (item.Tables tables) = Tables
slot_of (item.OfKind kind) = OfKind
slot_of (item.Address addr) = Address
slot_of (item.Source addr) = Source
slot_of (item.Iif name) = Iif
slot_of (item.Mark mark) = Mark
slot_of item.Inverted = Inverted
slot_of (item.From prefix) = From
slot_of (item.To prefix) = To
slot_of (item.Fwmark mark) = Fwmark
slot_of (item.Priority priority) = Priority
slot_of (item.Action action) = Action
slot_of (item.Suppress len) = Suppress

abbrev pub no_items : Items
no_items = record {
  destination = None;
  via = None;
  dev = None;
  table = None;
  proto = None;
  scope = None;
  src = None;
  metric = None;
  range = None;
  tables = None;
  of_kind = None;
  address = None;
  source = None;
  iif = None;
  mark = None;
  inverted = false;
  from = None;
  to = None;
  fwmark = None;
  priority = None;
  action = None;
  suppress = None;
}

-- whether the item is among these
abbrev pub has : Slot → Items → Bool
has Destination items = is_some items.destination
has Via items = is_some items.via
has Dev items = is_some items.dev
has Table items = is_some items.table
has Proto items = is_some items.proto
has Scope items = is_some items.scope
has Src items = is_some items.src
has Metric items = is_some items.metric
has Range items = is_some items.range
has Tables items = is_some items.tables
has OfKind items = is_some items.of_kind
has Address items = is_some items.address
has Source items = is_some items.source
has Iif items = is_some items.iif
has Mark items = is_some items.mark
has Inverted items = items.inverted
has From items = is_some items.from
has To items = is_some items.to
has Fwmark items = is_some items.fwmark
has Priority items = is_some items.priority
has Action items = is_some items.action
has Suppress items = is_some items.suppress

-- every item that there may be
abbrev pub every_slot : List Slot
every_slot = Destination ∷ Via ∷ Dev ∷ Table ∷ Proto ∷ Scope ∷ Src ∷ Metric ∷ Range ∷ Tables ∷ OfKind ∷ Address ∷ Source ∷ Iif ∷ Mark
    ∷ Inverted ∷ From ∷ To ∷ Fwmark ∷ Priority ∷ Action ∷ Suppress ∷ []

-- whether none is among these
abbrev pub is_empty : Items → Bool
is_empty items = not (list_any (λ slot. has slot items) every_slot)

-- these items, with one more
abbrev pub put : Item → Items → Items
put (item.Destination target) items = record items { destination = Some target }
put (item.Via addr) items = record items { via = Some addr }
put (item.Dev name) items = record items { dev = Some name }
put (item.Table table) items = record items { table = Some table }
put (item.Proto proto) items = record items { proto = Some proto }
put (item.Scope scope) items = record items { scope = Some scope }
put (item.Src addr) items = record items { src = Some addr }
put (item.Metric metric) items = record items { metric = Some metric }
put (item.Range range) items = record items { range = Some range }
put (item.Tables tables) items = record items { tables = Some tables }
put (item.OfKind kind) items = record items { of_kind = Some kind }
put (item.Address addr) items = record items { address = Some addr }
put (item.Source addr) items = record items { source = Some addr }
put (item.Iif name) items = record items { iif = Some name }
put (item.Mark mark) items = record items { mark = Some mark }
put item.Inverted items = record items { inverted = true }
put (item.From prefix) items = record items { from = Some prefix }
put (item.To prefix) items = record items { to = Some prefix }
put (item.Fwmark mark) items = record items { fwmark = Some mark }
put (item.Priority priority) items = record items { priority = Some priority }
put (item.Action action) items = record items { action = Some action }
put (item.Suppress len) items = record items { suppress = Some len }
