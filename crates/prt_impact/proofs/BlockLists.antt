-- Lists of blocks that have the same marks, and lists of the blocks that others are not among.
use Rattle.std.proofs.Common.{◌≡◌, ℕ, zero, suc, ◌+◌, ◌-◌, ◌^◌, ◌<◌, ◌≤◌, Bool, true, false, not, ◌&&◌, ◌||◌, cond, List, [], ◌∷◌, ◌++◌, Some, length, take, get_or, eqb, refl, sym, ap, ◌∙◌, subst, arith, append_assoc}
use Rattle.std.specs.Prelude.{count_by}
use Rattle.std.specs.List.{IsLastAndRest, list_any, AllByRecursion as Each}
use Rattle.std.specs.List.Sorted.{IsPermutation}
use Rattle.std.proofs.lemmas.Bool.{eqb-true}
use Rattle.std.proofs.lemmas.List.{take-append-le, take_all, take_more}
use Rattle.std.proofs.lemmas.List.Folds.{list_any-append}
use Rattle.std.proofs.lemmas.List.Sorted.{list_any-IsPermutation}
use Rattle.prt_rule.specs.Rule.{takes_mark}
use Rattle.prt_rule.specs.declared.rule.Mark.{Mark}
use Rattle.prt_partition.specs.Marks.{bit, flipped, kept}
use Rattle.prt_addr.proofs.Each.{each_append, each_fails}
use Rattle.prt_partition.proofs.Counts.{any_counted, count_append, count_cons, count_none}
use Rattle.prt_partition.proofs.MarkBlocks.{in_halves, takes_itself}
use Rattle.prt_impact.specs.MarkSets.{AreDivided, AreOpposite, AreSameMarks, AreSets, HasEachOnce, HasMark, count_of, except, in_block, in_blocks, in_sets, only, takes_marks}
use Rattle.prt_impact.specs.Padded.{no_mark}
use Rattle.prt_impact.specs.Steps.{are_halves, is_same_mark}
use Rattle.prt_impact.specs.declared.mark_set.MarkSet.{MarkSet}
use Rattle.prt_impact.proofs.Equals.{same_marks}
use Rattle.prt_impact.proofs.Replaced.{either_by, left_of}

-- ---- tests

both_true : (a b : Bool) → (a && b) ≡ true → (a ≡ true) × (b ≡ true)
both_true true b h = (refl, h)
both_true false b h = absurd cc

or_nothing : (a : Bool) → (a || false) ≡ a
or_nothing true = refl
or_nothing false = refl

or_turned : (a b : Bool) → (a || b) ≡ (b || a)
or_turned true true = refl
or_turned true false = refl
or_turned false true = refl
or_turned false false = refl

regrouped : (a b c : Bool) → ((a || (b || false)) || c) ≡ (a || (b || c))
regrouped true b c = refl
regrouped false true c = refl
regrouped false false c = refl

-- ---- halves

-- the halves of a block have its marks
half_marks : (place : ℕ) (block a b : Mark) → bit block.mask place ≡ 0 → (is_same_mark a (kept place block) && is_same_mark b (flipped place block)) ≡ true → (mark : ℕ) → in_block mark block ≡ (in_block mark a || in_block mark b)
half_marks place block a b clear are mark =
    let parts = both_true (is_same_mark a (kept place block)) (is_same_mark b (flipped place block)) are in
    in_halves place block mark clear
    ∙ ap (λ (m : Mark). takes_mark (Some m) mark || takes_mark (Some (flipped place block)) mark) (sym (same_marks a (kept place block) parts.0))
    ∙ ap (λ (m : Mark). takes_mark (Some a) mark || takes_mark (Some m) mark) (sym (same_marks b (flipped place block) parts.1))

both_marks : (place : ℕ) (block a b : Mark) → are_halves place block a b ≡ true → (mark : ℕ) → in_block mark block ≡ (in_block mark a || in_block mark b)
both_marks place block a b are mark =
    let one : Bool = is_same_mark a (kept place block) && is_same_mark b (flipped place block) in
    let other : Bool = is_same_mark b (kept place block) && is_same_mark a (flipped place block) in
    let parts = both_true (eqb (bit block.mask place) 0) (one || other) are in
    let clear : bit block.mask place ≡ 0 = eqb-true (bit block.mask place) 0 parts.0 in
    either_by one other (in_block mark block ≡ (in_block mark a || in_block mark b)) parts.1
    (λ h. half_marks place block a b clear h mark)
    (λ h. half_marks place block b a clear h mark ∙ or_turned (in_block mark b) (in_block mark a))

pub halves_joined : (place : ℕ) (block a b : Mark) → are_halves place block a b ≡ true → AreSameMarks (a ∷ b ∷ []) (block ∷ [])
halves_joined place block a b are mark =
    ap (λ c. in_block mark a || c) (or_nothing (in_block mark b)) ∙ sym (both_marks place block a b are mark) ∙ sym (or_nothing (in_block mark block))

-- ---- parts of lists

pub then_same : (a b c : List Mark) → AreSameMarks a b → AreSameMarks b c → AreSameMarks a c
then_same a b c first second mark = first mark ∙ second mark

behind : (others a b : List Mark) → AreSameMarks a b → AreSameMarks (others ++ a) (others ++ b)
behind others a b same mark =
    list_any-append (in_block mark) others a ∙ ap (λ c. in_blocks others mark || c) (same mark) ∙ sym (list_any-append (in_block mark) others b)

before_others : (others a b : List Mark) → AreSameMarks a b → AreSameMarks (a ++ others) (b ++ others)
before_others others a b same mark =
    list_any-append (in_block mark) a others ∙ ap (λ c. c || in_blocks others mark) (same mark) ∙ sym (list_any-append (in_block mark) b others)

-- the last of the blocks and one more
pub last_same : (blocks rest : List Mark) (last block joined : Mark) → IsLastAndRest blocks last rest → AreSameMarks (last ∷ block ∷ []) (joined ∷ []) → AreSameMarks (blocks ++ block ∷ []) (take (length blocks - 1) blocks ++ joined ∷ [])
last_same blocks rest last block joined are same =
    let long : length rest + 1 ≡ length blocks = are.1 in
    let short : length blocks - 1 ≡ length rest = omega arith in
    let front : take (length blocks - 1) blocks ≡ rest =
    ap (λ n. take n blocks) short ∙ ap (take (length rest)) are.0 ∙ take-append-le (length rest) rest (last ∷ []) (omega arith) ∙ take_all (length rest) rest (omega arith) in
    let whole : blocks ++ block ∷ [] ≡ rest ++ (last ∷ block ∷ []) = ap (λ bs. bs ++ block ∷ []) are.0 ∙ append_assoc rest (last ∷ []) (block ∷ []) in
    subst (λ bs. AreSameMarks bs (take (length blocks - 1) blocks ++ joined ∷ [])) (sym whole)
    (subst (λ bs. AreSameMarks (rest ++ (last ∷ block ∷ [])) (bs ++ joined ∷ [])) (sym front) (behind rest (last ∷ block ∷ []) (joined ∷ []) same))

-- the last block is taken off, and the one that it is joined to takes its place
pub shortened_same : (view items short : List Mark) (n : ℕ) (whole joined : Mark) → view ≡ items → n ≡ length view → short ≡ take (n - 1) items →
    AreSameMarks (view ++ whole ∷ []) (take (length view - 1) view ++ joined ∷ []) → AreSameMarks (items ++ whole ∷ []) (short ++ joined ∷ [])
shortened_same view items short n whole joined same long cut marks =
    let front : short ≡ take (length view - 1) view = cut ∙ ap (λ k. take (k - 1) items) long ∙ ap (take (length view - 1)) (sym same) in
    subst (λ bs. AreSameMarks (items ++ whole ∷ []) (bs ++ joined ∷ [])) (sym front) (subst (λ bs. AreSameMarks (bs ++ whole ∷ []) (take (length view - 1) view ++ joined ∷ [])) same marks)

-- in another order
pub sorted_same : (blocks joined sorted : List Mark) → AreSameMarks blocks joined → IsPermutation joined sorted → AreSameMarks blocks sorted
sorted_same blocks joined sorted same moved mark = same mark ∙ list_any-IsPermutation (in_block mark) joined sorted moved

-- one block more
pub more_same : (blocks : List Mark) (i : ℕ) (default : Mark) (old new : List Mark) → i < length blocks →
    AreSameMarks (old ++ get_or blocks i default ∷ []) new → AreSameMarks (take i blocks) old → AreSameMarks (take (i + 1) blocks) new
more_same blocks i default old new lt pushed held =
    let block : Mark = get_or blocks i default in
    subst (λ bs. AreSameMarks bs new) (sym (take_more blocks i default lt))
    (then_same (take i blocks ++ block ∷ []) (old ++ block ∷ []) new (before_others (block ∷ []) (take i blocks) old held) pushed)

-- ---- the other blocks

-- so far
pub IsWalked : List Mark → List Mark → List Mark → List Mark → Type 0
IsWalked done rest blocks others = (mark : ℕ) → count_of done mark + count_of rest mark ≡ count_of blocks mark + count_of others mark

count_more : (all : List Mark) (i : ℕ) (default : Mark) (mark : ℕ) → i < length all → count_of (take (i + 1) all) mark ≡ count_of (take i all) mark + count_of (get_or all i default ∷ []) mark
count_more all i default mark lt =
    ap (λ bs. count_of bs mark) (take_more all i default lt) ∙ count_append (in_block mark) (take i all) (get_or all i default ∷ [])

-- the next block is the first of those that are left
pub one_of_them : (all : List Mark) (i : ℕ) (default : Mark) (rest more blocks others : List Mark) → i < length all → rest ≡ get_or all i default ∷ more → IsWalked (take i all) rest blocks others → IsWalked (take (i + 1) all) more blocks others
unfolding IsWalked
one_of_them all i default rest more blocks others lt first held mark =
    let block : Mark = get_or all i default in
    let before : count_of (take i all) mark + count_of rest mark ≡ count_of blocks mark + count_of others mark = held mark in
    let next : count_of (take (i + 1) all) mark ≡ count_of (take i all) mark + count_of (block ∷ []) mark = count_more all i default mark lt in
    let left : count_of rest mark ≡ count_of (block ∷ []) mark + count_of more mark = ap (λ bs. count_of bs mark) first ∙ count_append (in_block mark) (block ∷ []) more in
    omega arith

-- or it is one of the others
pub one_other : (all : List Mark) (i : ℕ) (default : Mark) (rest blocks others new : List Mark) → i < length all → new ≡ others ++ get_or all i default ∷ [] → IsWalked (take i all) rest blocks others → IsWalked (take (i + 1) all) rest blocks new
unfolding IsWalked
one_other all i default rest blocks others new lt pushed held mark =
    let block : Mark = get_or all i default in
    let before : count_of (take i all) mark + count_of rest mark ≡ count_of blocks mark + count_of others mark = held mark in
    let next : count_of (take (i + 1) all) mark ≡ count_of (take i all) mark + count_of (block ∷ []) mark = count_more all i default mark lt in
    let more : count_of new mark ≡ count_of others mark + count_of (block ∷ []) mark = ap (λ bs. count_of bs mark) pushed ∙ count_append (in_block mark) others (block ∷ []) in
    omega arith

pub none_walked : (blocks : List Mark) → IsWalked [] blocks blocks []
unfolding IsWalked
none_walked blocks mark = omega arith

-- all blocks, of which none of those is left
pub all_walked : (all : List Mark) (i : ℕ) (rest blocks others : List Mark) → length all ≤ i → length rest ≡ 0 → IsWalked (take i all) rest blocks others → AreDivided all blocks others
unfolding IsWalked
all_walked all i (block ∷ rest) blocks others end empty held mark = absurd (omega arith)
all_walked all i [] blocks others end empty held mark =
    let before : count_of (take i all) mark + count_of [] mark ≡ count_of blocks mark + count_of others mark = held mark in
    let whole : count_of (take i all) mark ≡ count_of all mark = ap (λ bs. count_of bs mark) (take_all i all end) in
    omega arith

none_by : (p : Mark → Bool) (x : Mark) (xs : List Mark) (b : Bool) → p x ≡ b → cond b 1 0 + count_by p xs ≡ 0 → (count_by p xs ≡ 0 → list_any p xs ≡ false) → list_any p (x ∷ xs) ≡ false
none_by p x xs true e h rest = absurd (omega arith)
none_by p x xs false e h rest = ap (λ c. c || list_any p xs) e ∙ rest (omega arith)

none_counted : (p : Mark → Bool) (xs : List Mark) → count_by p xs ≡ 0 → list_any p xs ≡ false
none_counted p [] h = refl
none_counted p (x ∷ xs) h = none_by p x xs (p x) refl (sym (count_cons p x xs) ∙ h) (none_counted p xs)

one_side : (mark : ℕ) (blocks others : List Mark) (b : Bool) → in_blocks others mark ≡ b → count_of blocks mark + count_of others mark ≡ 1 → (count_of others mark ≡ 0 → b ≡ false) → (b ≡ false → count_of others mark ≡ 0) → in_blocks blocks mark ≡ not b
one_side mark blocks others true e one none some = none_counted (in_block mark) blocks (elim_count (count_of blocks mark) (count_of others mark) one (λ z. let f : true ≡ false = none z in cc))
  where
    elim_count : (m n : ℕ) → m + n ≡ 1 → (n ≡ 0 → m ≡ 0) → m ≡ 0
    elim_count m zero h k = k refl
    elim_count m (suc n) h k = omega arith
one_side mark blocks others false e one none some = let z : count_of others mark ≡ 0 = some refl in any_counted (in_block mark) blocks (omega arith)

none_there : (p : Mark → Bool) (xs : List Mark) → list_any p xs ≡ false → count_by p xs ≡ 0
none_there p xs h = count_none p xs (each_fails p xs h)

pub opposite : (all blocks others : List Mark) → HasEachOnce all → AreDivided all blocks others → AreOpposite blocks others
opposite all blocks others once divided mark less =
    let one : count_of blocks mark + count_of others mark ≡ 1 = sym (divided mark) ∙ once mark less in
    one_side mark blocks others (in_blocks others mark) refl one (none_counted (in_block mark) others) (none_there (in_block mark) others)

pub opposite_joined : (blocks others joined : List Mark) → AreOpposite blocks others → AreSameMarks others joined → AreOpposite blocks joined
opposite_joined blocks others joined are same mark less = are mark less ∙ ap not (same mark)

-- ---- sets

pub inverted_sets : (blocks others : List Mark) → AreOpposite blocks others → AreSets blocks (except others ∷ [])
inverted_sets blocks others are = record {
  same = λ mark less. or_nothing (not (in_blocks others mark)) ∙ sym (are mark less);
  some = λ has. ((has.0, has.1, sym (are has.0 has.1) ∙ has.2), tt);
}

pub sets_of_same : (blocks joined : List Mark) (sets : List MarkSet) → AreSameMarks blocks joined → AreSets joined sets → AreSets blocks sets
sets_of_same blocks joined sets same are = record {
  same = λ mark less. are.same mark less ∙ sym (same mark);
  some = λ has. are.some (has.0, has.1, sym (same has.0) ∙ has.2);
}

-- the sets so far, and the blocks that are left
pub record ArePieces (blocks : List Mark) (sets : List MarkSet) (rest : List Mark) : Type 0 where
  pub same : (mark : ℕ) → (in_sets sets mark || in_blocks rest mark) ≡ in_blocks blocks mark
  pub some : Each HasMark sets

pub no_pieces : (blocks : List Mark) → ArePieces blocks [] blocks
no_pieces blocks = record { same = λ mark. refl; some = tt }

pub piece_more : (blocks : List Mark) (sets new : List MarkSet) (rest piece more : List Mark) → rest ≡ piece ++ more → new ≡ sets ++ only piece ∷ [] → HasMark (only piece) → ArePieces blocks sets rest → ArePieces blocks new more
piece_more blocks sets new rest piece more parts pushed has held = record {
  same = λ mark.
      ap (λ ss. in_sets ss mark || in_blocks more mark) pushed
      ∙ ap (λ b. b || in_blocks more mark) (list_any-append (λ set. takes_marks set mark) sets (only piece ∷ []))
      ∙ regrouped (in_sets sets mark) (in_blocks piece mark) (in_blocks more mark)
      ∙ ap (λ b. in_sets sets mark || b) (sym (list_any-append (in_block mark) piece more))
      ∙ ap (λ bs. in_sets sets mark || in_blocks bs mark) (sym parts)
      ∙ held.same mark;
  some = subst (λ ss. Each HasMark ss) (sym pushed) (each_append HasMark sets (only piece ∷ []) held.some (has, tt));
}

pub all_pieces : (blocks : List Mark) (sets : List MarkSet) (rest : List Mark) → length rest ≡ 0 → ArePieces blocks sets rest → AreSets blocks sets
all_pieces blocks sets (block ∷ rest) empty held = absurd (omega arith)
all_pieces blocks sets [] empty held = record { same = λ mark less. sym (or_nothing (in_sets sets mark)) ∙ held.same mark; some = λ has. held.some }

-- the mark of the first block is in the set of them
pub first_mark : (blocks : List Mark) → 0 < length blocks → (get_or blocks 0 no_mark).mark < 2 ^ 32 → HasMark (only blocks)
first_mark [] some fits = absurd (omega arith)
first_mark (block ∷ blocks) some fits = (block.mark, fits, left_of (in_block block.mark block) (in_blocks blocks block.mark) (takes_itself block))
