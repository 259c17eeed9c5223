-- Objects of fields, some of which may be left out: RFC 8259.
use Rattle.std.specs.Prelude.{◌≡◌, ℕ, List, [], ◌∷◌, ◌++◌, Option, Some, None, option_map, codes, decimal}
use Rattle.std.specs.Str.Lossy.{utf8_lossy}
use Rattle.json.specs.Json.{Json, document, string, number, array, object, Items, no_items, item, Members, no_members, member}
use Rattle.json.specs.Print.{print}
use Rattle.json.specs.Tree.{json_tokens}

-- a name and a value
abbrev pub Member : Type 0
Member = List ℕ × Json

-- a field with a text, if there is one
abbrev pub text_field : List ℕ → Option (List ℕ) → Option Member
text_field name text = option_map (λ text. (name, string text)) text

-- a field with a number, if there is one
abbrev pub number_field : List ℕ → Option ℕ → Option Member
number_field name n = option_map (λ n. (name, number (decimal n))) n

-- a field with an interface, if there is one; U+FFFD is written for what is no UTF-8 in its name
abbrev pub dev_field : List ℕ → Option (List ℕ) → Option Member
dev_field name dev = text_field name (option_map utf8_lossy dev)

-- a field with an empty array
abbrev pub empty_field : List ℕ → Option Member
empty_field name = Some (name, array no_items)

abbrev pub members : List (Option Member) → Members
members [] = no_members
members (None ∷ fields) = members fields
members (Some field ∷ fields) = member field.0 field.1 (members fields)

-- the fields that are there, in order
abbrev pub object_of : List (Option Member) → Json
object_of fields = object (members fields)

abbrev pub items : List Json → Items
items [] = no_items
items (value ∷ values) = item value (items values)

-- the values, in order
abbrev pub array_of : List Json → Json
array_of values = array (items values)

-- the text of a value, without spaces
abbrev pub json_text : Json → List ℕ
json_text value = print (json_tokens value)

-- the same, and a newline
abbrev pub json_line : Json → List ℕ
json_line value = json_text value ++ codes "\n"

-- the text of the value is JSON, and reads as the value
abbrev pub ReadsBack : Json → Type 0
ReadsBack value = document (json_text value) ≡ Some value
