-- The items of a line, or its first fault, as a function. What it returns is said by the definitions of the grammar (the laws `first_faults` and `readings`).
use Rattle.std.specs.Prelude.{ℕ, zero, suc, Bool, true, false, if◌then◌else◌, List, [], ◌∷◌, Option, Some, None, Result, Ok, Err}
use Rattle.prt_addr.specs.Word.{Word}
use Rattle.prt_refusals.specs.declared.refusal.Refusal.{Refusal}
use Rattle.prt_refusals.specs.declared.refusal.Refusal.TheVariants.{UnknownWord, MissingValue, Repeated}
use Rattle.prt_command.specs.Items.{slot_of, has, put}
use Rattle.prt_command.specs.LineKinds.{LineKind, word_in, is_to}
use Rattle.prt_command.specs.Then.{◌>>=◌}
use Rattle.prt_command.specs.Values.{prefix_word, value}
use Rattle.prt_command.specs.declared.item.Item.{Item}
use Rattle.prt_command.specs.declared.item.Items.{Items}
use Rattle.prt_command.specs.declared.item.ItemWord.{ItemWord}
use Rattle.prt_command.specs.declared.item.ItemWord.TheVariants.{Keyword, Alone}
use Rattle.prt_command.specs.declared.item.PrefixWord.{PrefixWord}
use Rattle.prt_command.specs.declared.item.Slot.{Slot}

-- An item that was read, and how many of the words after its first are its own; or its fault.
abbrev pub Scanned : Type 0
Scanned = Result (Item × ℕ) Refusal

-- an item that was read, after which no word is its own
abbrev pub item_ends : Result Item Refusal → Scanned
item_ends read = read >>= λ x. Ok (x, 0)

-- one word more is the item's own
abbrev pub one_more : Scanned → Scanned
one_more scanned = scanned >>= λ t. Ok (t.0, suc t.1)

-- After a word that something must follow: MissingValue at the end of the line, else Repeated if the item was given, else what follows is read.
abbrev pub what_follows : Bool → (Word → List Word → Scanned) → List Word → Scanned
what_follows repeated reads [] = Err MissingValue
what_follows true reads (v ∷ vs) = Err Repeated
what_follows false reads (v ∷ vs) = one_more (reads v vs)

-- after the item's word, or after the word before its prefix
abbrev pub value_item : Slot → Option PrefixWord → Items → List Word → Scanned
value_item slot b given ws = what_follows (has slot given) (λ v vs. item_ends (value slot b v)) ws

-- the item that a word begins, before the words ws
abbrev pub word_item : ItemWord → Items → List Word → Scanned
word_item (Keyword slot) given ws = value_item slot None given ws
word_item (Alone x) given ws = if has (slot_of x) given then Err Repeated else Ok (x, 0)

-- the item at w, by the word before a prefix that w is
abbrev pub plain_by : Slot → Option PrefixWord → Items → Word → List Word → Scanned
plain_by slot (Some b) given w ws = value_item slot (Some b) given ws
plain_by slot None given w ws = if has slot given then Err UnknownWord else item_ends (value slot None w)

-- from the word after `to` on, or from the first if that isn't `to`
abbrev pub plain_from : Slot → Items → Word → List Word → Scanned
plain_from slot given w ws = plain_by slot (prefix_word slot w) given w ws

-- the item that needs no word of its own
abbrev pub plain_item : Option Slot → Items → Word → List Word → Scanned
plain_item None given w ws = Err UnknownWord
plain_item (Some slot) given w ws = if is_to w then what_follows (has slot given) (plain_from slot given) ws else plain_from slot given w ws

-- by what the word begins
abbrev pub item_by : Option ItemWord → Option Slot → Items → Word → List Word → Scanned
item_by (Some begun) plain given w ws = word_item begun given ws
item_by None plain given w ws = plain_item plain given w ws

-- the item that begins at the word w, before the words ws, or its fault
abbrev pub item_or_fault : LineKind → Items → Word → List Word → Scanned
item_or_fault line given w ws = item_by (word_in line.entries w) line.plain given w ws

-- ---- all items of a line

-- n words are skipped, which belong to the item just read, and then items are read
abbrev pub items_after : LineKind → ℕ → Items → List Word → Result Items Refusal
items_after line n given [] = Ok given
items_after line (suc n) given (w ∷ ws) = items_after line n given ws
items_after line zero given (w ∷ ws) = item_or_fault line given w ws >>= λ t. items_after line t.1 (put t.0 given) ws

abbrev pub items_of : LineKind → Items → List Word → Result Items Refusal
items_of line given ws = items_after line zero given ws
