-- The items of each kind of line, with the words that express them.
use Rattle.std.specs.Prelude.{Bool, if◌then◌else◌, List, [], ◌∷◌, ◌++◌, Option, Some, None, bytes_eq, codes}
use Rattle.prt_addr.specs.Word.{Word, is_one_of}
use Rattle.prt_rule.specs.declared.rule.Action.TheVariants as actions
use Rattle.prt_command.specs.declared.item.Item.TheVariants as item
use Rattle.prt_command.specs.declared.item.ItemWord.{ItemWord}
use Rattle.prt_command.specs.declared.item.ItemWord.TheVariants.{Keyword, Alone}
use Rattle.prt_command.specs.declared.item.Slot.{Slot}
use Rattle.prt_command.specs.declared.item.Slot.TheVariants.{Destination, Via, Dev, Table, Proto, Scope, Src, Metric, Range, Tables, OfKind, Address}
use Rattle.prt_command.specs.declared.item.Slot.TheVariants.{Source, Iif, Mark, From, To, Fwmark, Priority, Action, Suppress}

-- the spellings of a word, and what it begins
abbrev pub Entry : Type 0
Entry = List Word × ItemWord

-- The items of a kind of line: those with a word of their own, and at most one without: [to] [word before its prefix] prefix, or [to] address.
pub record LineKind : Type 0 where
  pub entries : List Entry
  pub plain : Option Slot

-- what a word begins
abbrev pub word_in : List Entry → Word → Option ItemWord
word_in [] w = None
word_in (entry ∷ entries) w = if is_one_of w entry.0 then Some entry.1 else word_in entries w

abbrev pub is_to : Word → Bool
is_to w = bytes_eq (codes "to") w

-- ---- the words of each kind

-- add, change, replace and del of routes
abbrev pub route_edit_words : List Entry
route_edit_words =
    (codes "via" ∷ [], Keyword Via)
    ∷ (codes "dev" ∷ [], Keyword Dev)
    ∷ (codes "table" ∷ [], Keyword Table)
    ∷ (codes "proto" ∷ codes "protocol" ∷ [], Keyword Proto)
    ∷ (codes "scope" ∷ [], Keyword Scope)
    ∷ (codes "src" ∷ [], Keyword Src)
    ∷ (codes "metric" ∷ codes "priority" ∷ codes "preference" ∷ [], Keyword Metric)
    ∷ []

-- show and flush of routes
abbrev pub route_list_words : List Entry
route_list_words =
    (codes "table" ∷ [], Keyword Tables)
    ∷ (codes "type" ∷ [], Keyword OfKind)
    ∷ (codes "proto" ∷ codes "protocol" ∷ [], Keyword Proto)
    ∷ (codes "scope" ∷ [], Keyword Scope)
    ∷ (codes "dev" ∷ [], Keyword Dev)
    ∷ []

abbrev pub route_get_words : List Entry
route_get_words =
    (codes "from" ∷ [], Keyword Source)
    ∷ (codes "iif" ∷ [], Keyword Iif)
    ∷ (codes "mark" ∷ [], Keyword Mark)
    ∷ []

-- which packets a rule matches, and when it is tried
abbrev pub selector_words : List Entry
selector_words =
    (codes "not" ∷ [], Alone item.Inverted)
    ∷ (codes "from" ∷ [], Keyword From)
    ∷ (codes "to" ∷ [], Keyword To)
    ∷ (codes "iif" ∷ codes "dev" ∷ [], Keyword Iif)
    ∷ (codes "fwmark" ∷ [], Keyword Fwmark)
    ∷ (codes "priority" ∷ codes "preference" ∷ codes "pref" ∷ codes "order" ∷ [], Keyword Priority)
    ∷ []

-- what a rule does
abbrev pub action_words : List Entry
action_words =
    (codes "table" ∷ codes "lookup" ∷ [], Keyword Action)
    ∷ (codes "blackhole" ∷ [], Alone (item.Action actions.Blackhole))
    ∷ (codes "unreachable" ∷ [], Alone (item.Action actions.Unreachable))
    ∷ (codes "prohibit" ∷ [], Alone (item.Action actions.Prohibit))
    ∷ []

-- which prefixes its lookup suppresses
abbrev pub suppress_words : List Entry
suppress_words = (codes "suppress_prefixlength" ∷ [], Keyword Suppress) ∷ []

-- what becomes of the packets that a rule matches
abbrev pub outcome_words : List Entry
outcome_words = action_words ++ suppress_words

abbrev pub route_edit_line : LineKind
route_edit_line = record { entries = route_edit_words; plain = Some Destination }

abbrev pub route_list_line : LineKind
route_list_line = record { entries = route_list_words; plain = Some Range }

abbrev pub route_get_line : LineKind
route_get_line = record { entries = route_get_words; plain = Some Address }

-- add and del of rules
abbrev pub rule_edit_line : LineKind
rule_edit_line = record { entries = selector_words ++ outcome_words; plain = None }

-- flush and show of rules
abbrev pub bare_line : LineKind
bare_line = record { entries = []; plain = None }
