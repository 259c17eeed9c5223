-- The lines that `ip` prints, of the values that it prints with `-j`.
use Rattle.std.specs.Prelude.{ℕ, Bool, true, false, if◌then◌else◌, List, [], ◌∷◌, ◌++◌, Option, Some, None, unwrap_or, bytes_eq, codes}
use Rattle.json.specs.Json.{Json, null, boolean, number, string, array, object, Items, no_items, item, Members, no_members, member}
use Rattle.prt_addr.specs.Word.{Word}
use Rattle.prt_import.specs.IpJson.Words.{between_in, inside, item_end, item_start, joints, label, null_labels, text_in, unsaid, word}
use Rattle.prt_import.specs.declared.ip_json.naming.Naming.{Naming}
use Rattle.prt_import.specs.declared.ip_json.naming.Naming.TheVariants.{Rule, Route}

-- ---- one value

-- What comes before a number or a text: nothing before a type or a destination that begins a route, a mark between two values that
-- belong together, and else the label of the name and a space.
abbrev pub opening : Naming → Option Word → Word → List ℕ
opening naming None name = if bytes_eq (codes "type") name then [] else (if bytes_eq (codes "dst") name then [] else label naming name ++ codes " ")
opening naming (Some previous) name = unwrap_or (between_in joints previous name) (label naming name ++ codes " ")

abbrev pub truth : Bool → List ℕ
truth true = codes " true"
truth false = codes " false"

abbrev pub null_text : Naming → Word → List ℕ
null_text naming name = unwrap_or (text_in null_labels name) (label naming name ++ codes " " ++ unsaid)

-- the name to which the next value may be joined
abbrev pub joinable : Word → Json → Word
joinable name (number s) = name
joinable name (string s) = name
joinable name value = []

abbrev mutual
  -- a member: its label and its value
  pub member_text : Naming → Option Word → Word → Json → List ℕ
  member_text naming previous name null = null_text naming name
  member_text naming previous name (boolean b) = label naming name ++ truth b
  member_text naming previous name (number s) = opening naming previous name ++ s
  member_text naming previous name (string s) = opening naming previous name ++ word s
  member_text naming previous name (array js) = label naming name ++ items_text (inside naming name) (item_start naming name) js ++ item_end naming name
  member_text naming previous name (object ms) = label naming name ++ members_text (inside naming name) (Some []) ms ++ item_end naming name

  -- members after one of this name, or at the start of a line
  pub members_text : Naming → Option Word → Members → List ℕ
  members_text naming previous no_members = []
  members_text naming previous (member name value ms) = member_text naming previous name value ++ members_text naming (Some (joinable name value)) ms

  -- a value in an array
  pub item_text : Naming → Json → List ℕ
  item_text naming null = codes " " ++ unsaid
  item_text naming (boolean b) = truth b
  item_text naming (number s) = codes " " ++ s
  item_text naming (string s) = codes " " ++ word s
  item_text naming (array js) = items_text naming [] js ++ codes " " ++ unsaid
  item_text naming (object ms) = members_text naming (Some []) ms

  -- the values of an array, each after this
  pub items_text : Naming → List ℕ → Items → List ℕ
  items_text naming start no_items = []
  items_text naming start (item value js) = start ++ item_text naming value ++ items_text naming start js

-- ---- lines

-- the priority of a rule, if this member is one
abbrev pub priority : Word → Json → Option (List ℕ)
priority name (number s) = if bytes_eq (codes "priority") name then Some s else None
priority name value = None

abbrev pub line_by : Option (List ℕ) → Word → Json → Members → List ℕ
line_by None name value ms = members_text Route None (member name value ms)
line_by (Some s) name value ms = s ++ codes ":" ++ members_text Rule (Some []) ms

-- an object that begins with a priority is a rule, and any other is a route
abbrev pub object_text : Members → List ℕ
object_text no_members = []
object_text (member name value ms) = line_by (priority name value) name value ms

-- a value that is no object yields a line that is no rule and no route
abbrev pub line_text : Json → List ℕ
line_text (object ms) = object_text ms
line_text value = unsaid

abbrev pub line : Json → List ℕ
line value = line_text value ++ codes "\n"

abbrev pub lines : Items → List ℕ
lines no_items = []
lines (item value js) = line value ++ lines js

-- a line for each value of an array, or for any other value
abbrev pub document_lines : Json → List ℕ
document_lines (array js) = lines js
document_lines value = line value

-- the lines of these, one after the other
abbrev pub listing : List Json → List ℕ
listing [] = []
listing (document ∷ documents) = document_lines document ++ listing documents
