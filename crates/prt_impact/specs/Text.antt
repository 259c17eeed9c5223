-- The line of each group, in the words of ip-route(8) and ip-rule(8).
use Rattle.std.specs.Prelude.{ℕ, ◌+◌, ◌-◌, ◌^◌, Bool, ◌&&◌, ◌==◌, if◌then◌else◌, List, [], ◌∷◌, ◌++◌, Option, Some, None, codes, flat_map, length}
use Rattle.std.specs.Prelude.{map, zero, suc}
use Rattle.prt_addr.specs.Addr.{addr_text}
use Rattle.prt_addr.specs.Block.{Block}
use Rattle.prt_addr.specs.Prefix.{masked, prefix_text}
use Rattle.prt_rule.specs.declared.rule.Mark.{Mark}
use Rattle.prt_version.specs.declared.answer.Verdict.{Verdict}
use Rattle.prt_version.specs.declared.answer.Verdict.TheVariants.{Route, RuleSays, NoRoute}
use Rattle.prt_listing.specs.AnswerText.{rule_part}
use Rattle.prt_listing.specs.Parts.{mark_text, table_text}
use Rattle.prt_listing.specs.QueryText.{lines_text}
use Rattle.prt_listing.specs.RouteText.{route_text}
use Rattle.prt_listing.specs.RuleText.{action_text}
use Rattle.prt_listing.specs.declared.route.TablePart.TheVariants.{LeftOut}
use Rattle.prt_impact.specs.declared.group.AddrRange.{AddrRange}
use Rattle.prt_impact.specs.declared.group.Group.{Group}
use Rattle.prt_impact.specs.declared.group.InterfaceSet.{InterfaceSet}
use Rattle.prt_impact.specs.declared.group.InterfaceSet.TheVariants.{Named, AllOthers, All}
use Rattle.prt_impact.specs.declared.mark_set.MarkSet.{MarkSet}

-- ---- ranges

-- the block of this length that has the first address of the range
abbrev pub block_of : AddrRange → ℕ → Block
block_of range len = masked (record { bits = range.first.0; len = len })

-- the block has exactly the addresses of the range
abbrev pub is_all_of : AddrRange → Block → Bool
is_all_of range block = block.bits == range.first.0 && block.bits + 2 ^ (32 - block.len) == range.last.0 + 1

-- the same, of the lengths from 33 less this number on
unfoldable pub prefix_from : ℕ → AddrRange → Option Block
prefix_from zero range = None
prefix_from (suc n) range = if is_all_of range (block_of range (32 - n)) then Some (block_of range (32 - n)) else prefix_from n range

-- the prefix that has exactly the addresses of the range, if there is one
abbrev pub prefix_of : AddrRange → Option Block
prefix_of range = prefix_from 33 range

abbrev pub range_or : AddrRange → Option Block → List ℕ
range_or range (Some block) = prefix_text block
range_or range None = addr_text range.first ++ codes "-" ++ addr_text range.last

-- PREFIX, or FIRST-LAST
abbrev pub range_text : AddrRange → List ℕ
range_text range = range_or range (prefix_of range)

abbrev pub is_everything : AddrRange → Bool
is_everything range = range.first.0 == 0 && range.last.0 == 4294967295

-- ---- groups

-- the sources, unless they are all
abbrev pub from_text : AddrRange → List ℕ
from_text range = if is_everything range then [] else codes " from " ++ range_text range

-- the interfaces, unless they are all
abbrev pub iif_text : InterfaceSet → List ℕ
iif_text (Named name) = codes " iif " ++ name
iif_text AllOthers = codes " iif any other"
iif_text All = []

-- each of the blocks behind a comma
abbrev pub more_text : List Mark → List ℕ
more_text blocks = flat_map (λ block. codes "," ++ mark_text block) blocks

-- MARK[/MASK],MARK[/MASK]..
abbrev pub blocks_text : List Mark → List ℕ
blocks_text [] = []
blocks_text (block ∷ blocks) = mark_text block ++ more_text blocks

-- all but the marks of no block
abbrev pub is_every_mark : MarkSet → Bool
is_every_mark marks = marks.inverted && length marks.blocks == 0

abbrev pub not_text : Bool → List ℕ
not_text inverted = if inverted then codes "not " else []

-- the marks, unless they are all
abbrev pub fwmark_text : MarkSet → List ℕ
fwmark_text marks = if is_every_mark marks then [] else codes " fwmark " ++ not_text marks.inverted ++ blocks_text marks.blocks

-- to RANGE [from RANGE] [iif NAME|iif any other] [fwmark [not] MARK[/MASK],MARK[/MASK]..]
abbrev pub packets_text : Group → List ℕ
packets_text group = codes "to " ++ range_text group.to ++ from_text group.from ++ iif_text group.interfaces ++ fwmark_text group.marks

-- rule P table TABLE ROUTE, rule P ACTION, or none
abbrev pub verdict_text : Verdict → List ℕ
verdict_text (Route priority route) = rule_part priority ++ (codes " table " ++ table_text route.table ++ codes " " ++ route_text route LeftOut)
verdict_text (RuleSays priority action) = rule_part priority ++ (codes " " ++ action_text action)
verdict_text NoRoute = codes "none"

-- the packets, what became of them before, and what becomes of them after
abbrev pub group_text : Group → List ℕ
group_text group = packets_text group ++ codes ": " ++ verdict_text group.was ++ codes " -> " ++ verdict_text group.is

-- a line for each group
abbrev pub groups_text : List Group → List ℕ
groups_text groups = lines_text (map group_text groups)
