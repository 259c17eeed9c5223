-- Two groups that one group replaces: neighbours in sources.
use Rattle.std.proofs.Common.{◌≡◌, ℕ, ◌+◌, ◌-◌, ◌<◌, ◌≤◌, Bool, true, false, ◌&&◌, ◌||◌, List, [], ◌∷◌, ◌++◌, Option, Some, None, length, take, leb, refl, sym, ap, ◌∙◌, subst, arith, ⊎_elim, append_assoc}
use Rattle.std.specs.Prelude.{IfSome}
use Rattle.std.specs.List.{IsLastAndRest}
use Rattle.std.proofs.lemmas.Bool.{cases_Bool, le-leb, leb-false, leb-true}
use Rattle.std.proofs.lemmas.List.{take-append-le, take_all}
use Rattle.prt_rule.specs.declared.packet.Packet.{Packet}
use Rattle.prt_version.specs.Select.{select}
use Rattle.prt_version.specs.State.{State}
use Rattle.prt_partition.specs.Boxes.{is_between}
use Rattle.prt_partition.specs.declared.sameness.Sameness.{Sameness}
use Rattle.prt_impact.specs.Groups.{IsGroup, in_group, is_in, rules_of, takes_interface}
use Rattle.prt_impact.specs.MarkSets.{takes_marks}
use Rattle.prt_impact.specs.Replacing.{AlwaysReplaces, Replaces}
use Rattle.prt_impact.specs.Steps.{is_same_group, up_to}
use Rattle.prt_impact.specs.declared.group.AddrRange.{AddrRange}
use Rattle.prt_impact.specs.declared.group.Group.{Group}
use Rattle.prt_impact.proofs.Equals.{same_groups}
use Rattle.prt_impact.proofs.Replaced.{behind, either_by, left_of, right_of}

-- ---- tests

both_true : (a b : Bool) → (a && b) ≡ true → (a ≡ true) × (b ≡ true)
both_true true b h = (refl, h)
both_true false b h = absurd cc

both_are : (a b : Bool) → a ≡ true → b ≡ true → (a && b) ≡ true
both_are true b h k = k
both_are false b h k = absurd cc

same_tests : (a b : Bool) → (a ≡ true → b ≡ true) → (b ≡ true → a ≡ true) → a ≡ b
same_tests true b f g = sym (f refl)
same_tests false true f g = g refl
same_tests false false f g = refl

or_nothing : (a : Bool) → (a || false) ≡ a
or_nothing true = refl
or_nothing false = refl

spread : (t x y i m : Bool) → (t && (x || y) && i && m) ≡ ((t && x && i && m) || (t && y && i && m))
spread false false false false false = refl
spread false false false false true = refl
spread false false false true false = refl
spread false false false true true = refl
spread false false true false false = refl
spread false false true false true = refl
spread false false true true false = refl
spread false false true true true = refl
spread false true false false false = refl
spread false true false false true = refl
spread false true false true false = refl
spread false true false true true = refl
spread false true true false false = refl
spread false true true false true = refl
spread false true true true false = refl
spread false true true true true = refl
spread true false false false false = refl
spread true false false false true = refl
spread true false false true false = refl
spread true false false true true = refl
spread true false true false false = refl
spread true false true false true = refl
spread true false true true false = refl
spread true false true true true = refl
spread true true false false false = refl
spread true true false false true = refl
spread true true false true false = refl
spread true true false true true = refl
spread true true true false false = refl
spread true true true false true = refl
spread true true true true false = refl
spread true true true true true = refl

pub some_weaker : {X : Type 0} (P Q : X → Type 0) → ((x : X) → P x → Q x) → (o : Option X) → IfSome o P → IfSome o Q
some_weaker P Q gives None h = h
some_weaker P Q gives (Some x) h = gives x h

-- ---- ranges

within : (first last n : ℕ) → is_between first last n ≡ true → (first ≤ n) × (n ≤ last)
within first last n h =
    let parts = both_true (leb first n) (leb n last) h in
    (leb-true first n parts.0, leb-true n last parts.1)

between : (first last n : ℕ) → first ≤ n → n ≤ last → is_between first last n ≡ true
between first last n low high = both_are (leb first n) (leb n last) (le-leb first n low) (le-leb n last high)

-- a number of both ranges is one of the first or of the second
of_either : (a b c d n : ℕ) → a ≤ b → b + 1 ≡ c → c ≤ d → is_between a d n ≡ (is_between a b n || is_between c d n)
of_either a b c d n some next more =
    same_tests (is_between a d n) (is_between a b n || is_between c d n)
    (λ h.
    let inside = within a d n h in
    let low : a ≤ n = inside.0 in
    let high : n ≤ d = inside.1 in
    ⊎_elim
    (λ (is : leb n b ≡ true). left_of (is_between a b n) (is_between c d n) (between a b n low (leb-true n b is)))
    (λ (not : leb n b ≡ false). let above : b < n = leb-false n b not in right_of (is_between a b n) (is_between c d n) (between c d n (omega arith) high))
    (cases_Bool (leb n b)))
    (λ h.
    either_by (is_between a b n) (is_between c d n) (is_between a d n ≡ true) h
    (λ is. let inside = within a b n is in let low : a ≤ n = inside.0 in let high : n ≤ b = inside.1 in between a d n low (omega arith))
    (λ is. let inside = within c d n is in let low : c ≤ n = inside.0 in let high : n ≤ d = inside.1 in between a d n (omega arith) high))

-- ---- two groups

abbrev pub from_range : Group → AddrRange → Group
from_range group range = record group { from = range }

module _ (sameness : Sameness) (before after : State) where
  abbrev Good : Group → Type 0
  Good group = IsGroup sameness before after group

  abbrev Has : Packet → Group → Bool
  Has packet group = in_group (rules_of before after) packet group

  sources : (a : Group) (n : AddrRange) → a.from.last.0 + 1 ≡ n.first.0 → Replaces sameness before after (a ∷ from_range a n ∷ []) (from_range a (up_to a.from n) ∷ [])
  sources a n next =
      let covers : Good a → Good (from_range a n) → (packet : Packet) → Has packet (from_range a (up_to a.from n)) ≡ (Has packet a || Has packet (from_range a n)) =
      λ ga gb packet.
      let some : a.from.first.0 ≤ a.from.last.0 = ga.some_from in
      let more : n.first.0 ≤ n.last.0 = gb.some_from in
      let t : Bool = is_in a.to packet.dst.0 in
      let i : Bool = takes_interface (rules_of before after) a.interfaces packet.iif in
      let m : Bool = takes_marks a.marks packet.mark in
      ap (λ b. t && b && i && m) (of_either a.from.first.0 a.from.last.0 n.first.0 n.last.0 packet.src.0 some next more)
      ∙ spread t (is_in a.from packet.src.0) (is_in n packet.src.0) i m in
      record {
        sound = λ good.
            let ga : Good a = good.0 in
            let gb : Good (from_range a n) = good.1.0 in
            let some : a.from.first.0 ≤ a.from.last.0 = ga.some_from in
            let more : n.first.0 ≤ n.last.0 = gb.some_from in
            let whole : Good (from_range a (up_to a.from n)) = record {
              some_to = ga.some_to;
              some_from = omega arith;
              some_mark = ga.some_mark;
              differs = ga.differs;
              was = λ packet is inside. either_by (Has packet a) (Has packet (from_range a n)) (select before packet ≡ a.was) (sym (covers ga gb packet) ∙ inside) (λ h. ga.was packet is h) (λ h. gb.was packet is h);
              is = λ packet is inside. either_by (Has packet a) (Has packet (from_range a n)) (select after packet ≡ a.is) (sym (covers ga gb packet) ∙ inside) (λ h. ga.is packet is h) (λ h. gb.is packet is h);
            } in
            (whole, tt);
        complete = λ good packet is h.
            or_nothing (Has packet (from_range a (up_to a.from n)))
            ∙ covers good.0 good.1.0 packet
            ∙ ap (λ b. Has packet a || b) (sym (or_nothing (Has packet (from_range a n))))
            ∙ h;
      }

-- the sources of the next group follow, and all else is equal
pub sources_joined : (group next : Group) → (group.from.last.0 + 1 ≡ next.from.first.0) → is_same_group (from_range next group.from) group ≡ true → AlwaysReplaces (group ∷ next ∷ []) (from_range group (up_to group.from next.from) ∷ [])
sources_joined group next follows same sameness before after =
    let moved : from_range next group.from ≡ group = same_groups (from_range next group.from) group same in
    let is : next ≡ from_range group next.from = ap (λ (g : Group). from_range g next.from) moved in
    subst (λ (g : Group). Replaces sameness before after (group ∷ g ∷ []) (from_range group (up_to group.from next.from) ∷ [])) (sym is) (sources sameness before after group next.from follows)

-- the last of the groups and one more
pub last_joined : (groups rest : List Group) (last group joined : Group) → IsLastAndRest groups last rest → AlwaysReplaces (last ∷ group ∷ []) (joined ∷ []) → AlwaysReplaces (groups ++ group ∷ []) (take (length groups - 1) groups ++ joined ∷ [])
last_joined groups rest last group joined are replaces sameness before after =
    let long : length rest + 1 ≡ length groups = are.1 in
    let short : length groups - 1 ≡ length rest = omega arith in
    let front : take (length groups - 1) groups ≡ rest =
    ap (λ n. take n groups) short ∙ ap (take (length rest)) are.0 ∙ take-append-le (length rest) rest (last ∷ []) (omega arith) ∙ take_all (length rest) rest (omega arith) in
    let whole : groups ++ group ∷ [] ≡ rest ++ (last ∷ group ∷ []) = ap (λ gs. gs ++ group ∷ []) are.0 ∙ append_assoc rest (last ∷ []) (group ∷ []) in
    subst (λ gs. Replaces sameness before after gs (take (length groups - 1) groups ++ joined ∷ [])) (sym whole)
    (subst (λ gs. Replaces sameness before after (rest ++ (last ∷ group ∷ [])) (gs ++ joined ∷ [])) (sym front) (behind sameness before after rest (last ∷ group ∷ []) (joined ∷ []) (replaces sameness before after)))
