-- Groups that are equal in every part are one.
use Rattle.std.proofs.Common.{◌≡◌, ℕ, Bool, true, false, ◌&&◌, List, [], ◌∷◌, eqb, refl, ap, ◌∙◌}
use Rattle.std.proofs.lemmas.Bool.{eqb-true}
use Rattle.std.proofs.lemmas.Slice.Eq.{bytes_eq-Decides}
use Rattle.std.specs.Cmp.Lexicographic.{pointwise}
use Rattle.prt_rule.specs.Same.{is_same_flag}
use Rattle.prt_rule.specs.declared.rule.Mark.{Mark}
use Rattle.prt_version.specs.declared.answer.Verdict.{Verdict}
use Rattle.prt_partition.specs.Sameness.{is_same_verdict}
use Rattle.prt_partition.proofs.Verdicts.{verdicts_same}
use Rattle.prt_impact.specs.Steps.{is_same_group, is_same_interfaces, is_same_mark, is_same_marks, is_same_range}
use Rattle.prt_impact.specs.declared.group.AddrRange.{AddrRange}
use Rattle.prt_impact.specs.declared.group.Group.{Group}
use Rattle.prt_impact.specs.declared.group.InterfaceSet.{InterfaceSet}
use Rattle.prt_impact.specs.declared.group.InterfaceSet.TheVariants.{Named, AllOthers, All}
use Rattle.prt_impact.specs.declared.mark_set.MarkSet.{MarkSet}

both_true : (a b : Bool) → (a && b) ≡ true → (a ≡ true) × (b ≡ true)
both_true true b h = (refl, h)
both_true false b h = absurd cc

abbrev range_of : ℕ → ℕ → AddrRange
range_of first last = record { first = record { 0 = first }; last = record { 0 = last } }

same_ranges : (a b : AddrRange) → is_same_range a b ≡ true → a ≡ b
same_ranges a b h =
    let parts = both_true (eqb a.first.0 b.first.0) (eqb a.last.0 b.last.0) h in
    ap (λ n. range_of n a.last.0) (eqb-true a.first.0 b.first.0 parts.0) ∙ ap (λ n. range_of b.first.0 n) (eqb-true a.last.0 b.last.0 parts.1)

same_interfaces : (a b : InterfaceSet) → is_same_interfaces a b ≡ true → a ≡ b
same_interfaces (Named a) (Named b) h = ap (λ n. Named n) ((bytes_eq-Decides a b).0 h)
same_interfaces (Named a) AllOthers h = absurd cc
same_interfaces (Named a) All h = absurd cc
same_interfaces AllOthers (Named b) h = absurd cc
same_interfaces AllOthers AllOthers h = refl
same_interfaces AllOthers All h = absurd cc
same_interfaces All (Named b) h = absurd cc
same_interfaces All AllOthers h = absurd cc
same_interfaces All All h = refl

abbrev mark_of : ℕ → ℕ → Mark
mark_of mark mask = record { mark = mark; mask = mask }

pub same_marks : (a b : Mark) → is_same_mark a b ≡ true → a ≡ b
same_marks a b h =
    let parts = both_true (eqb a.mark b.mark) (eqb a.mask b.mask) h in
    ap (λ n. mark_of n a.mask) (eqb-true a.mark b.mark parts.0) ∙ ap (λ n. mark_of b.mark n) (eqb-true a.mask b.mask parts.1)

same_flags : (a b : Bool) → is_same_flag a b ≡ true → a ≡ b
same_flags true true h = refl
same_flags true false h = absurd cc
same_flags false true h = absurd cc
same_flags false false h = refl

same_blocks : (a b : List Mark) → pointwise is_same_mark a b ≡ true → a ≡ b
same_blocks [] [] h = refl
same_blocks [] (y ∷ ys) h = absurd cc
same_blocks (x ∷ xs) [] h = absurd cc
same_blocks (x ∷ xs) (y ∷ ys) h =
    let parts = both_true (is_same_mark x y) (pointwise is_same_mark xs ys) h in
    ap (λ m. m ∷ xs) (same_marks x y parts.0) ∙ ap (λ ms. y ∷ ms) (same_blocks xs ys parts.1)

abbrev set_of : Bool → List Mark → MarkSet
set_of inverted blocks = record { inverted = inverted; blocks = blocks }

same_sets : (a b : MarkSet) → is_same_marks a b ≡ true → a ≡ b
same_sets a b h =
    let parts = both_true (is_same_flag a.inverted b.inverted) (pointwise is_same_mark a.blocks b.blocks) h in
    ap (λ f. set_of f a.blocks) (same_flags a.inverted b.inverted parts.0) ∙ ap (λ ms. set_of b.inverted ms) (same_blocks a.blocks b.blocks parts.1)

same_verdicts : (a b : Verdict) → is_same_verdict a b ≡ true → a ≡ b
same_verdicts a b h = (verdicts_same a b).0 h

abbrev group_of : AddrRange → AddrRange → InterfaceSet → MarkSet → Verdict → Verdict → Group
group_of to from interfaces marks was is = record { to = to; from = from; interfaces = interfaces; marks = marks; was = was; is = is }

pub same_groups : (a b : Group) → is_same_group a b ≡ true → a ≡ b
same_groups a b h =
    let to = is_same_range a.to b.to in
    let from = is_same_range a.from b.from in
    let interfaces = is_same_interfaces a.interfaces b.interfaces in
    let marks = is_same_marks a.marks b.marks in
    let was = is_same_verdict a.was b.was in
    let five = both_true (to && from && interfaces && marks && was) (is_same_verdict a.is b.is) h in
    let four = both_true (to && from && interfaces && marks) was five.0 in
    let three = both_true (to && from && interfaces) marks four.0 in
    let two = both_true (to && from) interfaces three.0 in
    let one = both_true to from two.0 in
    ap (λ x. group_of x a.from a.interfaces a.marks a.was a.is) (same_ranges a.to b.to one.0)
    ∙ ap (λ x. group_of b.to x a.interfaces a.marks a.was a.is) (same_ranges a.from b.from one.1)
    ∙ ap (λ x. group_of b.to b.from x a.marks a.was a.is) (same_interfaces a.interfaces b.interfaces two.1)
    ∙ ap (λ x. group_of b.to b.from b.interfaces x a.was a.is) (same_sets a.marks b.marks three.1)
    ∙ ap (λ x. group_of b.to b.from b.interfaces b.marks x a.is) (same_verdicts a.was b.was four.1)
    ∙ ap (λ x. group_of b.to b.from b.interfaces b.marks b.was x) (same_verdicts a.is b.is five.1)
