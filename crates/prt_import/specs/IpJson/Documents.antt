-- Texts of several JSON documents, one after the other: RFC 8259.
use Rattle.std.specs.Prelude.{ℕ, ◌+◌, ◌-◌, Bool, false, ◌&&◌, ◌||◌, ◌==◌, nat_le, if◌then◌else◌, List, [], ◌∷◌, Option, Some, None, option_and_then, option_map}
use Rattle.std.specs.List.{list_all, onto_first}
use Rattle.std.specs.Str.{is_utf8}
use Rattle.json.specs.Json.{Json, document}
use Rattle.json.specs.Word.{is_space}
use Rattle.prt_import.specs.declared.ip_json.cut.Mode.{Mode}
use Rattle.prt_import.specs.declared.ip_json.cut.Mode.TheVariants.{Between, InString, AfterBackslash}

-- ---- where a document ends

abbrev pub opens : ℕ → Bool
opens b = b == 91 || b == 123

abbrev pub closes : ℕ → Bool
closes b = b == 93 || b == 125

-- this byte closes the first of the brackets that are open
abbrev pub ends : ℕ → Mode → ℕ → Bool
ends depth Between b = nat_le depth 1 && closes b
ends depth mode b = false

-- how many brackets are open after this byte
abbrev pub depth_after : ℕ → Mode → ℕ → ℕ
depth_after depth Between b = if opens b then depth + 1 else (if closes b then depth - 1 else depth)
depth_after depth mode b = depth

-- brackets in strings don't count, and a quote after a backslash ends no string
abbrev pub mode_after : Mode → ℕ → Mode
mode_after Between b = if b == 34 then InString else Between
mode_after InString b = if b == 34 then Between else (if b == 92 then AfterBackslash else InString)
mode_after AfterBackslash b = InString

-- the parts of a text, each up to the bracket that closes its first one, and what follows the last
abbrev pub parts_from : ℕ → Mode → List ℕ → List (List ℕ)
parts_from depth mode [] = []
parts_from depth mode (b ∷ bs) =
    if ends depth mode b then (b ∷ []) ∷ parts_from 0 Between bs else onto_first b (parts_from (depth_after depth mode b) (mode_after mode b) bs)

abbrev pub parts : List ℕ → List (List ℕ)
parts text = parts_from 0 Between text

-- ---- documents

abbrev pub is_blank : List ℕ → Bool
is_blank text = list_all is_space text

-- the document that a part is, which is UTF-8
abbrev pub document_of : List ℕ → Option Json
document_of part = if is_utf8 part then document part else None

-- those of the parts, except for white space
abbrev pub documents_of : List (List ℕ) → Option (List Json)
documents_of [] = Some []
documents_of (part ∷ others) =
    if is_blank part then documents_of others else option_and_then (λ first. option_map (λ more. first ∷ more) (documents_of others)) (document_of part)

-- the documents that a text is
abbrev pub documents : List ℕ → Option (List Json)
documents text = documents_of (parts text)

-- the first byte that is no white space opens an array or an object
abbrev pub is_json : List ℕ → Bool
is_json [] = false
is_json (b ∷ bs) = if is_space b then is_json bs else opens b
