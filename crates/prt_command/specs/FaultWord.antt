-- The word that the first fault of a line is about.
use Rattle.std.specs.Prelude.{◌≡◌, ℕ, ◌≤◌, ◌-◌, ◌||◌, Bool, true, false, if◌then◌else◌, List, [], ◌∷◌, length, take, drop, Option, Some, None}
use Rattle.std.specs.Prelude.{Result, Ok, Err, codes}
use Rattle.prt_addr.specs.Word.{Word}
use Rattle.prt_refusals.specs.declared.refusal.Refusal.{Refusal}
use Rattle.prt_command.specs.Grammar.{ItemPlace, FirstFault, IsFault, further}
use Rattle.prt_command.specs.Items.{slot_of, has, no_items, put}
use Rattle.prt_command.specs.LineKinds.{LineKind, is_to, word_in}
use Rattle.prt_command.specs.Reading.{line_words, meaning_of, object_of, skip_word, verb_of, words}
use Rattle.prt_command.specs.Values.{prefix_word, value}
use Rattle.prt_command.specs.declared.word_at_fault.WordRole.{WordRole}
use Rattle.prt_command.specs.declared.word_at_fault.WordRole.TheVariants.{Opens, Ends, Says, Unknown}
use Rattle.prt_command.specs.declared.word_at_fault.Place.{Place}
use Rattle.prt_command.specs.declared.word_at_fault.Place.TheVariants.{Start, AfterTo, AtValue}
use Rattle.prt_command.specs.declared.word_at_fault.WordPlace.{WordPlace}
use Rattle.prt_command.specs.declared.item.Item.{Item}
use Rattle.prt_command.specs.declared.item.Items.{Items}
use Rattle.prt_command.specs.declared.item.ItemWord.{ItemWord}
use Rattle.prt_command.specs.declared.item.ItemWord.TheVariants.{Keyword, Alone}
use Rattle.prt_command.specs.declared.item.PrefixWord.{PrefixWord}
use Rattle.prt_command.specs.declared.item.Slot.{Slot}
use Rattle.prt_command.specs.declared.verb.Object.{Object}
use Rattle.prt_command.specs.declared.verb.ObjectVerb.{ObjectVerb}

-- ---- in the words of the grammar

-- The words from the one on that the fault of an item is about: it is the item's first, or one behind words that something had to follow.
abbrev pub about : {line : LineKind} → {given : Items} → {place : ItemPlace} → {fault : Refusal} → (w : Word) → (ws : List Word) →
    IsFault line given place w ws fault → List Word
about w ws (further place next w2 v vs slot fault is new more) = about v vs more
about w ws other = w ∷ ws

-- the words of a line from its object on
abbrev pub from_object : List Word → List Word
from_object ws = skip_word (codes "-4") (skip_word (codes "ip") ws)

-- The first fault of a line is about the first of these words, which run from there to its end.
pub data IsAbout (ws : List Word) : List Word → Type 0 where
  -- The word where an object has to come is none,
  of_object : (w : Word) (rest : List Word) → from_object ws ≡ w ∷ rest → object_of w ≡ None → IsAbout ws (w ∷ rest)
  -- or the word after an object is none of its verbs,
  of_verb : (o w : Word) (rest : List Word) (object : Object) → from_object ws ≡ o ∷ w ∷ rest → object_of o ≡ Some object →
      verb_of object w ≡ None → IsAbout ws (w ∷ rest)
  -- or an item has a fault.
  of_item : (o v : Word) (rest : List Word) (object : Object) (verb : ObjectVerb) (fault : Refusal) → from_object ws ≡ o ∷ v ∷ rest →
      object_of o ≡ Some object → verb_of object v ≡ Some verb
      → (found : FirstFault (meaning_of verb).line no_items rest fault) → IsAbout ws (about found.w found.rest found.first)

-- ---- as a function

-- what a word is, by the word before a prefix that it may be
abbrev pub prefix_role : Slot → Option PrefixWord → WordRole
prefix_role slot (Some b) = Opens slot (AtValue slot (Some b))
prefix_role slot None = Ends slot None

abbrev pub plain_role : Slot → Word → WordRole
plain_role slot w = prefix_role slot (prefix_word slot w)

-- what a word is that is none of the line's item words
abbrev pub bare_role : Option Slot → Word → WordRole
bare_role None w = Unknown
bare_role (Some slot) w = if is_to w then Opens slot (AfterTo slot) else plain_role slot w

-- what a word is at the start of an item, by what it begins
abbrev pub first_role : Option ItemWord → Option Slot → Word → WordRole
first_role (Some (Keyword slot)) plain w = Opens slot (AtValue slot None)
first_role (Some (Alone item)) plain w = Says item
first_role None plain w = bare_role plain w

-- what a word is at this place
abbrev pub role_of : LineKind → Place → Word → WordRole
role_of line Start w = first_role (word_in line.entries w) line.plain w
role_of line (AfterTo slot) w = plain_role slot w
role_of line (AtValue slot b) w = Ends slot b

-- The place of the next word, and the items that are given before it.
abbrev pub Step : Type 0
Step = Option (Place × Items)

-- after a value, if it is one
abbrev pub value_step : Result Item Refusal → Items → Step
value_step (Ok item) given = Some (Start, put item given)
value_step (Err fault) given = None

-- after a word that is the last of the line or not; none if the fault is about it
abbrev pub step : Items → Word → Bool → WordRole → Step
step given w last (Opens slot next) = if last || has slot given then None else Some (next, given)
step given w last (Ends slot b) = if has slot given then None else value_step (value slot b w) given
step given w last (Says item) = if has (slot_of item) given then None else Some (Start, put item given)
step given w last Unknown = None

abbrev pub is_last : List Word → Bool
is_last [] = true
is_last (v ∷ vs) = false

-- the words from the one on that a step stopped at, or what the words after it return
abbrev pub stop_or : Step → List Word → (Place → Items → List Word) → List Word
stop_or None ws more = ws
stop_or (Some t) ws more = more t.0 t.1

-- the words from the one on that the first fault of the items is about; none if each item is good
abbrev pub items_fault : LineKind → Place → Items → List Word → List Word
items_fault line place given [] = []
items_fault line place given (w ∷ ws) = stop_or (step given w (is_last ws) (role_of line place w)) (w ∷ ws) (λ next more. items_fault line next more ws)

abbrev pub verb_fault_by : Option ObjectVerb → Word → List Word → List Word
verb_fault_by None w ws = w ∷ ws
verb_fault_by (Some verb) w ws = items_fault (meaning_of verb).line Start no_items ws

abbrev pub verb_fault : Object → List Word → List Word
verb_fault object [] = []
verb_fault object (w ∷ ws) = verb_fault_by (verb_of object w) w ws

abbrev pub object_fault_by : Option Object → Word → List Word → List Word
object_fault_by None w ws = w ∷ ws
object_fault_by (Some object) w ws = verb_fault object ws

abbrev pub object_fault : List Word → List Word
object_fault [] = []
object_fault (w ∷ ws) = object_fault_by (object_of w) w ws

-- the words of a line from the one on that its first fault is about; none if it is about none
abbrev pub words_fault : List Word → List Word
words_fault ws = object_fault (from_object ws)

-- ---- places

-- the bytes at a place
abbrev pub bytes_at : List ℕ → WordPlace → List ℕ
bytes_at text at = take (at.end - at.start) (drop at.start text)

-- the place is within the text
abbrev pub IsIn : List ℕ → WordPlace → Type 0
IsIn text at = (at.start ≤ at.end) × (at.end ≤ length text)

-- the words of a text from a place on
abbrev pub words_from : List ℕ → Option WordPlace → List Word
words_from text None = []
words_from text (Some at) = bytes_at text at ∷ words (drop at.end text)

-- the words of a line before its comment; none of one that is too long, or has other bytes than text there
abbrev pub words_or_none : Result (List Word) Refusal → List Word
words_or_none (Ok ws) = ws
words_or_none (Err fault) = []

-- the words of a line from the one on that its first fault is about
abbrev pub line_fault : List ℕ → List Word
line_fault line = words_fault (words_or_none (line_words line))

abbrev pub first_of : List Word → Option Word
first_of [] = None
first_of (w ∷ ws) = Some w

-- the word that the first fault of a line is about
abbrev pub fault_word : List ℕ → Option Word
fault_word line = first_of (line_fault line)
