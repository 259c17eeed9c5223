-- Texts made of parts, some of which may be left out.
use Rattle.std.specs.Prelude.{ℕ, ◌^◌, ◌-◌, Bool, false, ◌&&◌, ◌==◌, if◌then◌else◌, List, [], ◌++◌, Option, Some, None, option_map, unwrap_or, codes, decimal}
use Rattle.std.specs.Fmt.{digits}
use Rattle.std.specs.List.{filter_map, join_with_byte}
use Rattle.prt_addr.specs.Block.{Block}
use Rattle.prt_addr.specs.Prefix.{prefix_text}
use Rattle.prt_addr.specs.Word.{Word}
use Rattle.prt_route.specs.Names.{name_in, tables}
use Rattle.prt_rule.specs.declared.rule.Mark.{Mark}

-- the parts that are there, with one space between each two
abbrev pub spaced : List (Option (List ℕ)) → List ℕ
spaced parts = join_with_byte 32 (filter_map (λ text. text) parts)

-- a word and a value, if there is a value
abbrev pub part : List ℕ → Option (List ℕ) → Option (List ℕ)
part word value = option_map (λ text. word ++ codes " " ++ text) value

-- the text, except for the number that is implied
abbrev pub unless : ℕ → ℕ → List ℕ → Option (List ℕ)
unless unsaid n text = if n == unsaid then None else Some text

-- the name of a number, or the number
abbrev pub name_or_number : List (Word × ℕ) → ℕ → List ℕ
name_or_number names n = unwrap_or (name_in names n) (decimal n)

-- `local`, `main` or `default`, or the number
abbrev pub table_text : ℕ → List ℕ
table_text table = name_or_number tables table

-- whether it is 0.0.0.0/0
abbrev pub is_everything : Block → Bool
is_everything prefix = prefix.bits == 0 && prefix.len == 0

-- this word for 0.0.0.0/0, else the prefix
abbrev pub prefix_or : List ℕ → Block → List ℕ
prefix_or word prefix = if is_everything prefix then word else prefix_text prefix

-- `0x` and lower-case hexadecimal digits
abbrev pub hex_text : ℕ → List ℕ
hex_text n = codes "0x" ++ digits 16 false n

-- MARK[/MASK]: a mask of which every bit counts is implied
abbrev pub mark_text : Mark → List ℕ
mark_text m = hex_text m.mark ++ (if m.mask == 2 ^ 32 - 1 then [] else codes "/" ++ hex_text m.mask)
