-- A text that prt prints, with the names of tables in place of their numbers.
use Rattle.std.specs.Prelude.{ℕ, Bool, ◌||◌, ◌==◌, if◌then◌else◌, List, [], ◌∷◌, ◌++◌, Option, Some, None, option_and_then, bytes_eq, codes}
use Rattle.std.specs.List.{flat_map}
use Rattle.std.specs.Option.{option_or}
use Rattle.prt_addr.specs.Decimal.{at_most, decimal_value}
use Rattle.prt_addr.specs.Word.{Word, is_one_of}
use Rattle.prt_command.specs.Reading.{has_bytes}
use Rattle.prt_import.specs.TableNames.{TableNames}
use Rattle.prt_import.specs.declared.naming.Text.{Text}
use Rattle.prt_import.specs.declared.naming.Text.TheVariants.{Lines, Json}

-- ---- pieces

-- in lines space, tab, newline and `:`, in JSON `"` and `:`
abbrev pub is_separator : Text → ℕ → Bool
is_separator Lines b = b == 32 || b == 9 || b == 10 || b == 58
is_separator Json b = b == 34 || b == 58

-- What is between two separators, and the separator that ends it, or nothing at the end of the text.
pub record Piece : Type 0 where
  pub word : Word
  pub ended : List ℕ

-- a byte before the first piece
abbrev pub onto_piece : ℕ → List Piece → List Piece
onto_piece b [] = record { word = b ∷ []; ended = [] } ∷ []
onto_piece b (piece ∷ pieces) = record { word = b ∷ piece.word; ended = piece.ended } ∷ pieces

-- the pieces of a text, empty ones too
abbrev pub pieces : Text → List ℕ → List Piece
pieces form [] = record { word = []; ended = [] } ∷ []
pieces form (b ∷ bs) = if is_separator form b then record { word = []; ended = b ∷ [] } ∷ pieces form bs else onto_piece b (pieces form bs)

-- ---- names

-- of several names of a number the one that was read last, as iproute2 shows it
abbrev pub last_name : TableNames → ℕ → Option Word
last_name [] n = None
last_name (row ∷ rows) n = option_or (last_name rows n) (if row.1 == n then Some row.0 else None)

-- the name of the table whose number a word is in decimal digits
abbrev pub name_of : TableNames → Word → Option Word
name_of names w = option_and_then (last_name names) (at_most 4294967295 (decimal_value w))

-- in JSON `\` comes before `"` and `\`: RFC 8259
abbrev pub escaped : ℕ → List ℕ
escaped b = if b == 34 || b == 92 then codes "\\" ++ b ∷ [] else b ∷ []

abbrev pub name_text : Text → Word → List ℕ
name_text Lines name = name
name_text Json name = flat_map escaped name

-- ---- the text

-- the words that a table follows
abbrev pub table_words : Text → List Word
table_words Lines = codes "table" ∷ codes "lookup" ∷ []
table_words Json = codes "table" ∷ []

abbrev pub or_name : Text → Word → Option Word → List ℕ
or_name form w None = w
or_name form w (Some name) = name_text form name

-- after such a word the name of the table, if it has one; all else stays as it was
abbrev pub shown : Text → TableNames → Word → Word → List ℕ
shown form names before w = if is_one_of before (table_words form) then or_name form w (name_of names w) else w

-- the last piece of a line that is not empty, after this one more; a newline begins with none
abbrev pub last_word : Word → Piece → Word
last_word before piece = if bytes_eq piece.ended (codes "\n") then [] else (if has_bytes piece.word then piece.word else before)

-- these pieces, after this word
abbrev pub shown_from : Text → TableNames → Word → List Piece → List ℕ
shown_from form names before [] = []
shown_from form names before (piece ∷ pieces) = shown form names before piece.word ++ piece.ended ++ shown_from form names (last_word before piece) pieces

-- the text with names
abbrev pub with_names : Text → TableNames → List ℕ → List ℕ
with_names form names text = shown_from form names [] (pieces form text)
