-- What the parts of the program denote.
use Rattle.std.specs.Prelude.{ℕ, List, ◌++◌, Option, option_map, codes, decimal}
use Rattle.prt_addr.specs.Addr.{addr_text}
use Rattle.prt_addr.specs.Prefix.{prefix_text}
use Rattle.prt_listing.specs.Parts.{mark_text}
use Rattle.prt_listing.specs.declared.part.Part.{Part}
use Rattle.prt_listing.specs.declared.part.Part.TheVariants.{Alone, Named}
use Rattle.prt_listing.specs.declared.part.Value.{Value}
use Rattle.prt_listing.specs.declared.part.Value.TheVariants as value

-- the text of a value
abbrev pub value_text : Value → List ℕ
value_text (value.Text text) = text.now
value_text (value.Number n) = decimal n
value_text (value.Mark mark) = mark_text mark
value_text (value.Addr addr) = addr_text addr
value_text (value.Prefix prefix) = prefix_text prefix
value_text (value.Dev name) = name

-- the text of a part
abbrev pub part_text : Part → List ℕ
part_text (Alone value) = value_text value
part_text (Named word value) = word.now ++ codes " " ++ value_text value

abbrev pub part_of : Option Part → Option (List ℕ)
part_of part = option_map part_text part
