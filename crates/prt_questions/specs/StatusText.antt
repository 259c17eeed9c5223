-- What is shown of what a server says of itself.
use Rattle.std.specs.Prelude.{ℕ, ◌==◌, ◌+◌, ◌&&◌, ◌||◌, Bool, true, false, List, [], ◌∷◌, ◌++◌, Option, Some, None, codes, drop, flat_map}
use Rattle.std.specs.Prelude.{if◌then◌else◌, length, map, nat_eq, option_map, position, take}
use Rattle.std.specs.Char.{is_ascii_digit}
use Rattle.std.specs.Int.{is_in_range}
use Rattle.std.specs.List.{list_all, list_any, starts_with}
use Rattle.std.specs.Str.{bytes_eq}
use Rattle.prt_import.specs.Lines.{lines_of}
use Rattle.prt_args.specs.declared.service.StatusForm.{StatusForm}
use Rattle.prt_args.specs.declared.service.StatusForm.TheVariants.{Json, Lines, Metrics}

-- the parts of a text before and after the first byte that is this one
abbrev pub parts_at : ℕ → List ℕ → Option (List ℕ × List ℕ)
parts_at byte text = option_map (λ at. (take at text, drop (at + 1) text)) (position (λ b. b == byte) text)

-- ---- numbers

abbrev pub is_digits : List ℕ → Bool
is_digits text = if length text == 0 then false else list_all is_ascii_digit text

-- digits, and perhaps a point and decimals
abbrev pub is_number_by : Option (List ℕ × List ℕ) → List ℕ → Bool
is_number_by (Some parts) value = is_digits parts.0 && is_digits parts.1
is_number_by None value = is_digits value

abbrev pub is_number : List ℕ → Bool
is_number value = is_number_by (parts_at 46 value) value

-- ---- a figure, by its name and its value

-- for a person
abbrev pub line_byte : ℕ → ℕ
line_byte b = if b == 95 then 32 else b

abbrev pub figure_line : (name value : List ℕ) → List ℕ
figure_line name value = map line_byte name ++ (codes ": " ++ (value ++ codes "\n"))

-- for Prometheus: only what is a number, and whether the server is open
abbrev pub sample : (name value : List ℕ) → List ℕ
sample name value = codes "prt_" ++ (name ++ (codes " " ++ (value ++ codes "\n")))

abbrev pub open_value : List ℕ → List ℕ
open_value value = if bytes_eq value (codes "open") then codes "1" else codes "0"

abbrev pub metric : (name value : List ℕ) → List ℕ
metric name value = if bytes_eq name (codes "state") then sample (codes "open") (open_value value) else (if is_number value then sample name value else [])

-- a member of an object of JSON
abbrev pub shown_byte : ℕ → ℕ
shown_byte b = if is_in_range 32 126 b then b else 63

abbrev pub string_byte : ℕ → List ℕ
string_byte b = if (b == 34) || (b == 92) then 92 ∷ b ∷ [] else shown_byte b ∷ []

abbrev pub string_text : List ℕ → List ℕ
string_text text = codes "\"" ++ (flat_map string_byte text ++ codes "\"")

abbrev pub json_value : List ℕ → List ℕ
json_value value = if is_number value then value else (if bytes_eq value (codes "-") then codes "null" else string_text value)

abbrev pub member : (name value : List ℕ) → List ℕ
member name value = codes "\"" ++ (name ++ (codes "\":" ++ json_value value))

-- ---- all figures

abbrev pub figure_text : StatusForm → (is_first : Bool) → (name value : List ℕ) → List ℕ
figure_text Lines is_first name value = figure_line name value
figure_text Metrics is_first name value = metric name value
figure_text Json true name value = member name value
figure_text Json false name value = codes "," ++ member name value

-- the text of lines, of which each that has a space is a figure
abbrev pub figure_then : StatusForm → (is_first : Bool) → Option (List ℕ × List ℕ) → (rest : Bool → List ℕ) → List ℕ
figure_then form is_first None rest = rest is_first
figure_then form is_first (Some parts) rest = figure_text form is_first parts.0 parts.1 ++ rest false

abbrev pub figures_text : StatusForm → (is_first : Bool) → List (List ℕ) → List ℕ
figures_text form is_first [] = []
figures_text form is_first (line ∷ lines) = figure_then form is_first (parts_at 32 line) (λ first. figures_text form first lines)

abbrev pub status_text : StatusForm → List ℕ → List ℕ
status_text Lines said = figures_text Lines true (lines_of said)
status_text Metrics said = figures_text Metrics true (lines_of said)
status_text Json said = codes "{" ++ (figures_text Json true (lines_of said) ++ codes "}\n")

-- a line says that the server takes no command any more
abbrev pub is_closed : List ℕ → Bool
is_closed said = list_any (λ line. starts_with nat_eq line (codes "state closed")) (lines_of said)
