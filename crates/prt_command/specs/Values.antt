-- The values of items, and the words that may come before a prefix.
use Rattle.std.specs.Prelude.{ℕ, nat_le, if◌then◌else◌, List, [], ◌∷◌, map, find, Option, Some, None, Result, Ok, bytes_eq, codes}
use Rattle.std.specs.Option.{ok_or}
use Rattle.prt_addr.specs.Addr.{address}
use Rattle.prt_addr.specs.Block.{Block}
use Rattle.prt_addr.specs.Number.{number}
use Rattle.prt_addr.specs.Prefix.{net, prefix}
use Rattle.prt_addr.specs.Word.{Word, keep}
use Rattle.prt_refusals.specs.declared.refusal.Refusal.{Refusal}
use Rattle.prt_refusals.specs.declared.refusal.Refusal.TheVariants.{UnknownWord, BadAddress, BadName, BadNumber, BadPrefix, BadTable}
use Rattle.prt_route.specs.Dev.{device}
use Rattle.prt_route.specs.Kind.{kind_name}
use Rattle.prt_route.specs.Names.{protocol, scope, table}
use Rattle.prt_route.specs.declared.choice.Range as ranges
use Rattle.prt_route.specs.declared.choice.Range.TheVariants.{Root, Covering, Exact}
use Rattle.prt_route.specs.declared.kind.Kind.{Kind}
use Rattle.prt_route.specs.declared.kind.Kind.TheVariants as kinds
use Rattle.prt_rule.specs.declared.rule.Action as rule
use Rattle.prt_rule.specs.declared.rule.Action.TheVariants as actions
use Rattle.prt_command.specs.Mark.{mark}
use Rattle.prt_command.specs.Then.{map_ok}
use Rattle.prt_command.specs.declared.item.Item.{Item}
use Rattle.prt_command.specs.declared.item.Item.TheVariants as item
use Rattle.prt_command.specs.declared.item.Slot.{Slot}
use Rattle.prt_command.specs.declared.item.Slot.TheVariants.{Destination, Via, Dev, Table, Proto, Scope, Src, Metric, Range, Tables, OfKind, Address}
use Rattle.prt_command.specs.declared.item.Slot.TheVariants.{Source, Iif, Mark, Inverted, From, To, Fwmark, Priority, Action, Suppress}
use Rattle.prt_command.specs.declared.item.PrefixWord.{PrefixWord}
use Rattle.prt_command.specs.declared.item.PrefixWord.TheVariants as before
use Rattle.prt_command.specs.declared.item.Target.{Target}
use Rattle.prt_command.specs.declared.item.WhichTables.{WhichTables}
use Rattle.prt_command.specs.declared.item.WhichTables.TheVariants.{One, All}

-- ---- words before a prefix

abbrev pub every_kind : List Kind
every_kind = kinds.Unicast ∷ kinds.Blackhole ∷ kinds.Unreachable ∷ kinds.Prohibit ∷ kinds.Throw ∷ []

-- the kind that the word is
abbrev pub kind_of : Word → Option Kind
kind_of w = find (λ kind. bytes_eq (kind_name kind) w) every_kind

abbrev pub spelling : PrefixWord → Word
spelling (before.Kind kind) = kind_name kind
spelling before.Root = codes "root"
spelling before.Match = codes "match"
spelling before.Exact = codes "exact"

-- the words that may come before the prefix of each item
abbrev pub prefix_words : Slot → List PrefixWord
prefix_words Destination = map before.Kind every_kind
prefix_words Range = before.Root ∷ before.Match ∷ before.Exact ∷ []
prefix_words slot = []

-- the word that w is, if one such may come before the prefix of this item
abbrev pub prefix_word : Slot → Word → Option PrefixWord
prefix_word slot w = find (λ b. bytes_eq (spelling b) w) (prefix_words slot)

-- ---- values

abbrev pub kind_before : Option PrefixWord → Option Kind
kind_before (Some (before.Kind kind)) = Some kind
kind_before other = None

-- a prefix without host bits, and the kind that comes before it if one does
abbrev pub target : Option PrefixWord → Word → Result Target Refusal
target b w = map_ok (λ prefix. record { kind = kind_before b; prefix = prefix }) (prefix w)

-- `root`: the prefixes within the block; `match`: those that it is within; `exact` or no word: the block alone
abbrev pub range_by : Option PrefixWord → Block → ranges.Range
range_by (Some before.Root) block = Root block
range_by (Some before.Match) block = Covering block
range_by other block = Exact block

-- a prefix, whose host bits are cleared
abbrev pub range : Option PrefixWord → Word → Result ranges.Range Refusal
range b w = map_ok (range_by b) (ok_or (net w) BadPrefix)

-- `all`, or one table
abbrev pub which_tables : Word → Result WhichTables Refusal
which_tables w = if bytes_eq (codes "all") w then Ok All else map_ok One (ok_or (table w) BadTable)

-- a table to look up
abbrev pub lookup : Word → Result rule.Action Refusal
lookup w = map_ok actions.Lookup (ok_or (table w) BadTable)

-- the length of a prefix, as a number
abbrev pub length_number : Word → Option ℕ
length_number w = keep (λ n. nat_le n 32) (number w)

-- the item that a word expresses as its value, after the word before its prefix if there is one; `not` has no value
abbrev pub value : Slot → Option PrefixWord → Word → Result Item Refusal
value Destination b w = map_ok item.Destination (target b w)
value Via b w = map_ok item.Via (ok_or (address w) BadAddress)
value Dev b w = map_ok item.Dev (ok_or (device w) BadName)
value Table b w = map_ok item.Table (ok_or (table w) BadTable)
value Proto b w = map_ok item.Proto (ok_or (protocol w) BadNumber)
value Scope b w = map_ok item.Scope (ok_or (scope w) BadNumber)
value Src b w = map_ok item.Src (ok_or (address w) BadAddress)
value Metric b w = map_ok item.Metric (ok_or (number w) BadNumber)
value Range b w = map_ok item.Range (range b w)
value Tables b w = map_ok item.Tables (which_tables w)
value OfKind b w = map_ok item.OfKind (ok_or (kind_of w) UnknownWord)
value Address b w = map_ok item.Address (ok_or (address w) BadAddress)
value Source b w = map_ok item.Source (ok_or (address w) BadAddress)
value Iif b w = map_ok item.Iif (ok_or (device w) BadName)
value Mark b w = map_ok item.Mark (ok_or (number w) BadNumber)
value Inverted b w = Ok item.Inverted
value From b w = map_ok item.From (ok_or (net w) BadPrefix)
value To b w = map_ok item.To (ok_or (net w) BadPrefix)
value Fwmark b w = map_ok item.Fwmark (mark w)
value Priority b w = map_ok item.Priority (ok_or (number w) BadNumber)
value Action b w = map_ok item.Action (lookup w)
value Suppress b w = map_ok item.Suppress (ok_or (length_number w) BadNumber)
