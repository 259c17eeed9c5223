-- Compiled tables for all packets.
use Rattle.std.specs.Prelude.{ℕ, ◌≡◌, ◌⊎◌, ◌<◌, Bool, not, if◌then◌else◌, List, length, Some}
use Rattle.std.specs.List.{slice_get, Contains, IsDistinct, AllByRecursion as Each}
use Rattle.prt_refusals.specs.declared.refusal.Refusal.{Refusal}
use Rattle.prt_refusals.specs.declared.refusal.Refusal.TheVariants.{Full, NoMemory}
use Rattle.prt_rule.specs.declared.packet.Packet.{Packet}
use Rattle.prt_rule.specs.declared.rule.Rule.{Rule}
use Rattle.prt_version.specs.Change.{put}
use Rattle.prt_version.specs.State.{State}
use Rattle.prt_version.specs.declared.change.Change.{Change}
use Rattle.prt_partition.specs.Boxes.{AreTooMany}
use Rattle.prt_partition.specs.Classes.{IsPacket, are_alike, takes_apart}
use Rattle.prt_fib.specs.Fib.{HasTooMany, Table}
use Rattle.prt_fib.specs.declared.class_tree.Class.{Class}
use Rattle.prt_fib.specs.declared.class_tree.ClassTree.{ClassTree}
use Rattle.prt_fib.specs.declared.class_tree.ClassTree.TheVariants as tree
use Rattle.prt_fib.specs.declared.policy.TheConstants.{MOST_CLASSES}

-- each rule takes both or neither, whatever their destinations
abbrev pub AreTakenAlike : List Rule → Packet → Packet → Type 0
AreTakenAlike rules packet other = Each (λ (rule : Rule). takes_apart rule packet ≡ takes_apart rule other) rules

-- ---- the class of a packet

abbrev pub is_taken : Rule → Class → Bool
is_taken rule class = takes_apart rule class.packet

abbrev pub is_left : Rule → Class → Bool
is_left rule class = not (takes_apart rule class.packet)

-- the class that the questions lead to
abbrev pub class_of : ClassTree → Packet → ℕ
class_of (tree.Class number) packet = number
class_of (tree.Split' rule p taken q left) packet = if takes_apart rule packet then class_of taken packet else class_of left packet

-- the class of this number, which the rules take as they take the packet
pub record IsAlike (rules : List Rule) (classes : List Class) (packet : Packet) (number : ℕ) : Type 0 where
  pub class : Class
  pub one : Contains classes class
  pub its : class.number ≡ number
  pub alike : AreTakenAlike rules packet class.packet

-- a packet that is taken as one of the classes is led to such a class
abbrev pub FindsClass : List Rule → List Class → ClassTree → Type 0
FindsClass rules classes tree = (packet : Packet) (class : Class) → Contains classes class → AreTakenAlike rules packet class.packet →
    IsAlike rules classes packet (class_of tree packet)

-- each class has the number of its place
pub record AreNumberedOff (packets : List Packet) (classes : List Class) : Type 0 where
  pub numbers : (class : Class) → Contains classes class → slice_get packets class.number ≡ Some class.packet
  pub all : (packet : Packet) → Contains packets packet → (class : Class) × Contains classes class × (class.packet ≡ packet)

-- ---- the tables

-- each is that of the state and of the packet at its place
pub record AreTablesOf (state : State) (packets : List Packet) (tables : List Table) : Type 0 where
  pub size : length tables ≡ length packets
  pub each : (k : ℕ) (table : Table) → slice_get tables k ≡ Some table → (table.state ≡ state) × (slice_get packets k ≡ Some table.packet)

-- the state is the one after the change of the state of each table
abbrev pub AreFollowed : State → Change → List Table → Type 0
AreFollowed next change tables = (k : ℕ) (table : Table) → slice_get tables k ≡ Some table → next ≡ put table.state change

-- all tables are of the state, and each packet is led to that of its class
pub record IsWhole (state : State) (tables : List Table) (by : ClassTree) : Type 0 where
  pub of : (k : ℕ) (table : Table) → slice_get tables k ≡ Some table → table.state ≡ state
  pub finds : (packet : Packet) → IsPacket packet →
      (table : Table) × (slice_get tables (class_of by packet) ≡ Some table) × AreTakenAlike state.rules packet table.packet

-- ---- why there are none

-- there are more packets that the rules take in different ways, whatever their destinations, than there are tables for
abbrev pub HasManyClasses : List Rule → Type 0
HasManyClasses rules = (packets : List Packet) × IsDistinct (are_alike rules) packets × (MOST_CLASSES < length packets)

-- memory is refused, or there are too many classes, boxes or outcomes
abbrev pub IsUnfit : State → Refusal → Type 0
IsUnfit state reason = (reason ≡ NoMemory)
    ⊎ ((reason ≡ Full) × (AreTooMany state.rules ⊎ (HasManyClasses state.rules ⊎ ((packet : Packet) × HasTooMany state packet))))
