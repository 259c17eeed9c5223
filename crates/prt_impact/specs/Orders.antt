-- The orders that bring together the groups that may be joined.
use Rattle.std.specs.Prelude.{ℕ, ◌+◌, ◌-◌, if◌then◌else◌, length, Option, Some, None, slice_get, unwrap_or}
use Rattle.std.specs.Cmp.Lexicographic.{slice_cmp}
use Rattle.std.specs.Option.{option_cmp}
use Rattle.std.specs.Ordering.{nat_cmp, ordering_then}
use Rattle.std.specs.declared.cmp.Ordering.{Ordering}
use Rattle.prt_addr.specs.Word.{Word}
use Rattle.prt_rule.specs.declared.rule.Mark.{Mark}
use Rattle.prt_version.specs.declared.answer.Verdict.{Verdict}
use Rattle.prt_version.specs.declared.answer.Verdict.TheVariants.{Route, RuleSays, NoRoute}
use Rattle.prt_impact.specs.Padded.{no_mark}
use Rattle.prt_impact.specs.declared.group.Group.{Group}
use Rattle.prt_impact.specs.declared.group.InterfaceSet.{InterfaceSet}
use Rattle.prt_impact.specs.declared.group.InterfaceSet.TheVariants.{Named, AllOthers, All}
use Rattle.prt_impact.specs.declared.mark_set.MarkSet.{MarkSet}
use Rattle.prt_impact.specs.declared.mark_set.TheConstants.{MOST_BLOCKS}

-- ---- interfaces

-- the name, if it is one interface
abbrev pub name_of : InterfaceSet → Option Word
name_of (Named name) = Some name
name_of AllOthers = None
name_of All = None

-- those without a name first
abbrev pub interfaces_cmp : InterfaceSet → InterfaceSet → Ordering
interfaces_cmp a b = option_cmp (slice_cmp nat_cmp) (name_of a) (name_of b)

-- ---- marks

abbrev pub mark_cmp : Mark → Mark → Ordering
mark_cmp a b = ordering_then (nat_cmp a.mark b.mark) (nat_cmp a.mask b.mask)

-- the first block, or that of all marks if there is none
abbrev pub first_of : MarkSet → Mark
first_of marks = unwrap_or (slice_get marks.blocks 0) no_mark

abbrev pub last_of : MarkSet → Mark
last_of marks = unwrap_or (slice_get marks.blocks (length marks.blocks - 1)) no_mark

-- inverted sets first, and sets of few blocks before those of more
abbrev pub rank_of : MarkSet → ℕ
rank_of marks = if marks.inverted then length marks.blocks else length marks.blocks + MOST_BLOCKS + 1

-- by the number of blocks, the first one and the last one
abbrev pub marks_cmp : MarkSet → MarkSet → Ordering
marks_cmp a b =
    ordering_then (ordering_then
    (nat_cmp (rank_of a) (rank_of b))
    (mark_cmp (first_of a) (first_of b)))
    (mark_cmp (last_of a) (last_of b))

-- ---- verdicts

-- the priority of the rule that decides, or a number above all
abbrev pub priority_of : Verdict → ℕ
priority_of (Route priority route) = priority
priority_of (RuleSays priority action) = priority
priority_of NoRoute = 4294967296

-- the place of the route in listings, or zeros
abbrev pub place_of : Verdict → ℕ × ℕ × ℕ × ℕ
place_of (Route priority route) = (route.table, route.prefix.bits, route.prefix.len, route.metric)
place_of (RuleSays priority action) = (0, 0, 0, 0)
place_of NoRoute = (0, 0, 0, 0)

-- by the rule and the route that decide
abbrev pub verdict_cmp : Verdict → Verdict → Ordering
verdict_cmp a b =
    ordering_then (ordering_then (ordering_then (ordering_then
    (nat_cmp (priority_of a) (priority_of b))
    (nat_cmp (place_of a).0 (place_of b).0))
    (nat_cmp (place_of a).1 (place_of b).1))
    (nat_cmp (place_of a).2 (place_of b).2))
    (nat_cmp (place_of a).3 (place_of b).3)

-- ---- groups

-- by destinations, then by sources
abbrev pub by_place : Group → Group → Ordering
by_place a b = ordering_then (nat_cmp a.to.first.0 b.to.first.0) (nat_cmp a.from.first.0 b.from.first.0)

-- by all but the marks
abbrev pub by_verdicts : Group → Group → Ordering
by_verdicts a b =
    ordering_then (ordering_then (ordering_then (ordering_then
    (by_place a b)
    (nat_cmp a.to.last.0 b.to.last.0))
    (interfaces_cmp a.interfaces b.interfaces))
    (verdict_cmp a.was b.was))
    (verdict_cmp a.is b.is)

-- by destinations, sources, marks and interfaces
abbrev pub by_interface : Group → Group → Ordering
by_interface a b = ordering_then (ordering_then (by_place a b) (marks_cmp a.marks b.marks)) (interfaces_cmp a.interfaces b.interfaces)

-- by destinations, interfaces, marks and sources
abbrev pub by_source : Group → Group → Ordering
by_source a b =
    ordering_then (ordering_then (ordering_then
    (nat_cmp a.to.first.0 b.to.first.0)
    (interfaces_cmp a.interfaces b.interfaces))
    (marks_cmp a.marks b.marks))
    (nat_cmp a.from.first.0 b.from.first.0)
