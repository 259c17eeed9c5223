-- Lines of items in any order, each at most once, and the first fault of one.
use Rattle.std.specs.Prelude.{◌≡◌, true, false, List, [], ◌∷◌, ◌++◌, Option, Some, None, Ok, Err}
use Rattle.prt_addr.specs.Word.{Word}
use Rattle.prt_refusals.specs.declared.refusal.Refusal.{Refusal}
use Rattle.prt_refusals.specs.declared.refusal.Refusal.TheVariants.{UnknownWord, MissingValue, Repeated}
use Rattle.prt_command.specs.Items.{slot_of, has, put}
use Rattle.prt_command.specs.LineKinds.{LineKind, is_to, word_in}
use Rattle.prt_command.specs.Values.{prefix_word, value}
use Rattle.prt_command.specs.declared.item.Item.{Item}
use Rattle.prt_command.specs.declared.item.Items.{Items}
use Rattle.prt_command.specs.declared.item.ItemWord.TheVariants.{Keyword, Alone}
use Rattle.prt_command.specs.declared.item.PrefixWord.{PrefixWord}
use Rattle.prt_command.specs.declared.item.Slot.{Slot}

-- ---- words at their places

-- Where a word is: at the start of an item, after `to`, or where the value of an item has to come. The value comes after the word
-- before its prefix if there is one.
pub data ItemPlace : Type 0 where
  start : ItemPlace
  after_to : Slot → ItemPlace
  at_value : Slot → Option PrefixWord → ItemPlace

-- At this place the item needs no word of its own. The word w is no keyword of the line and not `to`, or comes after `to`.
pub data IsPlain (line : LineKind) (w : Word) (slot : Slot) : ItemPlace → Type 0 where
  no_word : line.plain ≡ Some slot → word_in line.entries w ≡ None → is_to w ≡ false → IsPlain line w slot start
  word_after_to : IsPlain line w slot (after_to slot)

-- The word w, at the first place, is one of this item that something must follow, which comes at the second place.
pub data MustBeFollowed (line : LineKind) (w : Word) (slot : Slot) : ItemPlace → ItemPlace → Type 0 where
  -- a keyword
  keyword : word_in line.entries w ≡ Some (Keyword slot) → MustBeFollowed line w slot start (at_value slot None)
  -- `to`
  to_word : line.plain ≡ Some slot → word_in line.entries w ≡ None → is_to w ≡ true → MustBeFollowed line w slot start (after_to slot)
  -- a kind, `root`, `match` or `exact`
  before_prefix : (place : ItemPlace) (b : PrefixWord) → IsPlain line w slot place → prefix_word slot w ≡ Some b →
      MustBeFollowed line w slot place (at_value slot (Some b))

-- The word w, at this place, is taken as the value of this item, after the word b before its prefix if there is one.
pub data IsValue (line : LineKind) (w : Word) (slot : Slot) : ItemPlace → Option PrefixWord → Type 0 where
  -- none of the line's item words
  bare : (place : ItemPlace) → IsPlain line w slot place → prefix_word slot w ≡ None → IsValue line w slot place None
  -- whatever word it is, after one that a value must follow
  any_word : (b : Option PrefixWord) → IsValue line w slot (at_value slot b) b

-- ---- how an item is written

-- An item of the line extends from the word w at this place on, with the words own after it. This is what it says.
pub data IsItem (line : LineKind) : ItemPlace → Word → List Word → Item → Type 0 where
  -- a word that says the item alone
  alone : (w : Word) (x : Item) → word_in line.entries w ≡ Some (Alone x) → IsItem line start w [] x
  -- a value
  valued : (place : ItemPlace) (w : Word) (slot : Slot) (b : Option PrefixWord) (x : Item) → IsValue line w slot place b →
      value slot b w ≡ Ok x → IsItem line place w [] x
  -- a word that something must follow, and what follows
  followed : (place next : ItemPlace) (w v : Word) (own : List Word) (slot : Slot) (x : Item) → MustBeFollowed line w slot place next →
      IsItem line next v own x → IsItem line place w (v ∷ own) x

-- The words are these items, one after another.
pub data AreItems (line : LineKind) : List Word → List Item → Type 0 where
  none : AreItems line [] []
  more : (w : Word) (own rest : List Word) (item : Item) (others : List Item) → IsItem line start w own item → AreItems line rest others →
      AreItems line (w ∷ (own ++ rest)) (item ∷ others)

-- these items, with more put in from left to right
abbrev pub put_all : List Item → Items → Items
put_all [] items = items
put_all (item ∷ others) items = put_all others (put item items)

-- None of these items is among those given, and none comes twice.
abbrev pub EachOnce : Items → List Item → Type 0
EachOnce given [] = Unit {0}
EachOnce given (item ∷ others) = (has (slot_of item) given ≡ false) × EachOnce (put item given) others

-- After items that were given, the words are whole items, each at most once.
pub record Good (line : LineKind) (given : Items) (ws : List Word) (taken : List Item) : Type 0 where
  pub spelled : AreItems line ws taken
  pub once : EachOnce given taken

-- ---- the first fault

-- After items that were given, an item extends from the word w at this place on, before the words ws. This is its first fault.
pub data IsFault (line : LineKind) (given : Items) : ItemPlace → Word → List Word → Refusal → Type 0 where
  -- A word that is none of the line's item words, if the line has no item without a word of its own,
  unknown_word : (w : Word) (ws : List Word) → line.plain ≡ None → word_in line.entries w ≡ None → IsFault line given start w ws UnknownWord
  -- or if that item was given: a second bare prefix or address.
  second_bare : (w : Word) (ws : List Word) (slot : Slot) → IsValue line w slot start None → has slot given ≡ true → IsFault line given start w ws UnknownWord
  -- Nothing after a keyword, `to`, a kind, `root`, `match` or `exact`, whether its item was given or not.
  nothing_after : (place next : ItemPlace) (w : Word) (slot : Slot) → MustBeFollowed line w slot place next → IsFault line given place w [] MissingValue
  -- An item that was given: by such a word, which something follows,
  given_before : (place next : ItemPlace) (w v : Word) (ws : List Word) (slot : Slot) → MustBeFollowed line w slot place next →
      has slot given ≡ true → IsFault line given place w (v ∷ ws) Repeated
  -- or by a word that says the item alone.
  alone_before : (w : Word) (ws : List Word) (x : Item) → word_in line.entries w ≡ Some (Alone x) → has (slot_of x) given ≡ true →
      IsFault line given start w ws Repeated
  -- A bad value.
  bad_value : (place : ItemPlace) (w : Word) (ws : List Word) (slot : Slot) (b : Option PrefixWord) (fault : Refusal) →
      IsValue line w slot place b → has slot given ≡ false → value slot b w ≡ Err fault → IsFault line given place w ws fault
  -- The words are looked at from left to right: the fault of what follows, after a word of an item that was not given.
  further : (place next : ItemPlace) (w v : Word) (ws : List Word) (slot : Slot) (fault : Refusal) → MustBeFollowed line w slot place next →
      has slot given ≡ false → IsFault line given next v ws fault → IsFault line given place w (v ∷ ws) fault

-- After good words comes an item with this fault; there is only one such place (the law `first_faults`).
pub record FirstFault (line : LineKind) (given : Items) (ws : List Word) (fault : Refusal) : Type 0 where
  pub front : List Word
  pub taken : List Item
  pub w : Word
  pub rest : List Word
  pub splits : ws ≡ front ++ w ∷ rest
  pub good : Good line given front taken
  pub first : IsFault line (put_all taken given) start w rest fault
