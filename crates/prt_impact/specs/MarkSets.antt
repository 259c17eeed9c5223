-- Sets of marks, as blocks of them.
use Rattle.std.specs.Prelude.{ℕ, ◌≡◌, ◌+◌, ◌^◌, ◌<◌, Bool, true, false, not, ◌&&◌, ◌==◌, if◌then◌else◌, List, length, slice_index_or, Some, count_by}
use Rattle.std.specs.List.{list_any, AllByRecursion as Each}
use Rattle.prt_rule.specs.Rule.{takes_mark}
use Rattle.prt_rule.specs.declared.rule.Mark.{Mark}
use Rattle.prt_impact.specs.Padded.{no_mark}
use Rattle.prt_impact.specs.declared.mark_set.MarkSet.{MarkSet}

abbrev pub in_block : ℕ → Mark → Bool
in_block mark block = takes_mark (Some block) mark

-- the mark is in one of the blocks
abbrev pub in_blocks : List Mark → ℕ → Bool
in_blocks blocks mark = list_any (in_block mark) blocks

-- the mark is in one of the blocks, or in none of them if the set is inverted
abbrev pub takes_marks : MarkSet → ℕ → Bool
takes_marks marks mark = if marks.inverted then not (in_blocks marks.blocks mark) else in_blocks marks.blocks mark

-- the marks of these blocks
abbrev pub only : List Mark → MarkSet
only blocks = record { inverted = false; blocks = blocks }

-- all other marks
abbrev pub except : List Mark → MarkSet
except blocks = record { inverted = true; blocks = blocks }

-- a mark of 32 bits is in the set
abbrev pub HasMark : MarkSet → Type 0
HasMark marks = (mark : ℕ) × (mark < 2 ^ 32) × (takes_marks marks mark ≡ true)

-- ---- how they are made

-- the same marks are in a block
abbrev pub AreSameMarks : List Mark → List Mark → Type 0
AreSameMarks blocks others = (mark : ℕ) → in_blocks blocks mark ≡ in_blocks others mark

-- how many of the blocks have the mark
abbrev pub count_of : List Mark → ℕ → ℕ
count_of blocks mark = count_by (in_block mark) blocks

-- each mark is in exactly one block
abbrev pub HasEachOnce : List Mark → Type 0
HasEachOnce blocks = (mark : ℕ) → mark < 2 ^ 32 → count_of blocks mark ≡ 1

-- the blocks are those of both lists
abbrev pub AreDivided : List Mark → List Mark → List Mark → Type 0
AreDivided all blocks others = (mark : ℕ) → count_of all mark ≡ count_of blocks mark + count_of others mark

-- each mark is in one of the blocks or in one of the others, and in one of both only
abbrev pub AreOpposite : List Mark → List Mark → Type 0
AreOpposite blocks others = (mark : ℕ) → mark < 2 ^ 32 → in_blocks blocks mark ≡ not (in_blocks others mark)

-- there is one block, and it doesn't have all marks
abbrev pub is_single : List Mark → Bool
is_single blocks = length blocks == 1 && not ((slice_index_or blocks 0 no_mark).mask == 0)

-- the mark is in one of the sets
abbrev pub in_sets : List MarkSet → ℕ → Bool
in_sets sets mark = list_any (λ set. takes_marks set mark) sets

-- the sets of the marks of the blocks
pub record AreSets (blocks : List Mark) (sets : List MarkSet) : Type 0 where
  -- they have the same marks
  pub same : (mark : ℕ) → mark < 2 ^ 32 → in_sets sets mark ≡ in_blocks blocks mark
  -- none of them is empty, if the blocks have a mark
  pub some : HasMark (only blocks) → Each HasMark sets
