-- Groups as JSON: RFC 8259.
use Rattle.std.specs.Prelude.{ℕ, if◌then◌else◌, not, ◌||◌, List, [], ◌∷◌, Option, Some, None, codes, map}
use Rattle.json.specs.Json.{Json}
use Rattle.prt_json.specs.Fields.{Member, array_of, dev_field, object_of}
use Rattle.prt_impact.specs.Text.{blocks_text, is_every_mark, is_everything, range_text, verdict_text}
use Rattle.prt_impact.specs.declared.group.AddrRange.{AddrRange}
use Rattle.prt_impact.specs.declared.group.Group.{Group}
use Rattle.prt_impact.specs.declared.group.InterfaceSet.{InterfaceSet}
use Rattle.prt_impact.specs.declared.group.InterfaceSet.TheVariants.{Named, AllOthers, All}
use Rattle.prt_impact.specs.declared.mark_set.MarkSet.{MarkSet}

-- the sources, unless they are all
abbrev pub shown_from : AddrRange → Option (List ℕ)
shown_from range = if is_everything range then None else Some (range_text range)

-- the interfaces, unless they are all; no name has a space
abbrev pub shown_iif : InterfaceSet → Option (List ℕ)
shown_iif (Named name) = Some name
shown_iif AllOthers = Some (codes "any other")
shown_iif All = None

-- the marks, unless they are all others
abbrev pub shown_fwmark : MarkSet → Option (List ℕ)
shown_fwmark marks = if marks.inverted then None else Some (blocks_text marks.blocks)

-- the marks that the others are not, unless there are none
abbrev pub shown_fwmark_not : MarkSet → Option (List ℕ)
shown_fwmark_not marks = if not marks.inverted || is_every_mark marks then None else Some (blocks_text marks.blocks)

-- in the words of the lines
abbrev pub group_fields : Group → List (Option Member)
group_fields group =
    dev_field (codes "to") (Some (range_text group.to))
    ∷ dev_field (codes "from") (shown_from group.from)
    ∷ dev_field (codes "iif") (shown_iif group.interfaces)
    ∷ dev_field (codes "fwmark") (shown_fwmark group.marks)
    ∷ dev_field (codes "fwmark_not") (shown_fwmark_not group.marks)
    ∷ dev_field (codes "was") (Some (verdict_text group.was))
    ∷ dev_field (codes "is") (Some (verdict_text group.is))
    ∷ []

abbrev pub group_json : Group → Json
group_json group = object_of (group_fields group)

-- an object for each group
abbrev pub groups_json : List Group → Json
groups_json groups = array_of (map group_json groups)
