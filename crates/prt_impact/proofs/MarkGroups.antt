-- Groups that differ in their marks alone, and groups of sets of marks that replace them.
use Rattle.std.proofs.Common.{◌≡◌, ℕ, ◌+◌, ◌<◌, Bool, true, false, ◌&&◌, ◌||◌, List, [], ◌∷◌, ◌++◌, length, take, drop, get_or, inl, inr, refl, sym, ap, ◌∙◌, subst, arith, append_assoc}
use Rattle.std.specs.Prelude.{map}
use Rattle.std.specs.List.{list_any, AllByRecursion as Each}
use Rattle.std.proofs.lemmas.List.{append-nil, length-append, map-append, take-append-drop, take_more}
use Rattle.prt_addr.proofs.Each.{any_none}
use Rattle.prt_trie.proofs.Filters.{any_same_tests, each_of}
use Rattle.prt_rule.specs.declared.packet.Packet.{Packet}
use Rattle.prt_rule.specs.declared.rule.Mark.{Mark}
use Rattle.prt_version.specs.State.{State}
use Rattle.prt_partition.specs.Classes.{IsPacket}
use Rattle.prt_partition.specs.declared.sameness.Sameness.{Sameness}
use Rattle.prt_partition.proofs.Starts.{IsIn, any_found, each_in, in_map}
use Rattle.prt_impact.specs.Groups.{IsGroup, in_group, is_in, rules_of, takes_interface}
use Rattle.prt_impact.specs.MarkSets.{AreSets, HasMark, in_block, in_blocks, in_sets, only, takes_marks}
use Rattle.prt_impact.specs.Replacing.{AlwaysReplaces, Replaces}
use Rattle.prt_impact.specs.Steps.{with_block, with_marks}
use Rattle.prt_impact.specs.declared.group.Group.{Group}
use Rattle.prt_impact.specs.declared.mark_set.MarkSet.{MarkSet}
use Rattle.prt_impact.proofs.Replaced.{before_others, behind, left_of, right_of, then_always}

-- ---- tests

any_map : {X Y : Type 0} (q : Y → Bool) (f : X → Y) (xs : List X) → list_any q (map f xs) ≡ list_any (λ x. q (f x)) xs
any_map q f [] = refl
any_map q f (x ∷ xs) = ap (λ b. q (f x) || b) (any_map q f xs)

any_and : {X : Type 0} (b : Bool) (p : X → Bool) (xs : List X) → list_any (λ x. b && p x) xs ≡ (b && list_any p xs)
any_and true p xs = refl
any_and false p xs = any_none (λ x. false) xs (each_of (λ x. false ≡ false) xs (λ x. refl))

any_in : {X : Type 0} (p : X → Bool) (x : X) (xs : List X) → IsIn x xs → p x ≡ true → list_any p xs ≡ true
any_in p x [] within h = absurd within
any_in p x (y ∷ ys) (inl is) h = left_of (p y) (list_any p ys) (ap p (sym is) ∙ h)
any_in p x (y ∷ ys) (inr within) h = right_of (p y) (list_any p ys) (any_in p x ys within h)

or_nothing : (a : Bool) → (a || false) ≡ a
or_nothing true = refl
or_nothing false = refl

each_made : {X Y : Type 0} (P : Y → Type 0) (f : X → Y) (xs : List X) → ((x : X) → IsIn x xs → P (f x)) → Each P (map f xs)
each_made P f [] gives = tt
each_made P f (x ∷ xs) gives = (gives x (inl refl), each_made P f xs (λ y within. gives y (inr within)))

-- ---- sets of the marks of blocks

module _ (sameness : Sameness) (before after : State) (like : Group) (first : Mark) (more : List Mark) (sets : List MarkSet) (are : AreSets (first ∷ more) sets) where
  abbrev blocks : List Mark
  blocks = first ∷ more

  abbrev Good : Group → Type 0
  Good group = IsGroup sameness before after group

  abbrev Has : Packet → Group → Bool
  Has packet group = in_group (rules_of before after) packet group

  -- the packet is in the group, its mark apart
  abbrev fits : Packet → Bool
  fits packet = is_in like.to packet.dst.0 && is_in like.from packet.src.0 && takes_interface (rules_of before after) like.interfaces packet.iif

  of_sets : (packet : Packet) → list_any (Has packet) (map (with_marks like) sets) ≡ (fits packet && in_sets sets packet.mark)
  of_sets packet = any_map (Has packet) (with_marks like) sets ∙ any_and (fits packet) (λ set. takes_marks set packet.mark) sets

  of_blocks : (packet : Packet) → list_any (λ block. Has packet (with_block like block)) blocks ≡ (fits packet && in_blocks blocks packet.mark)
  of_blocks packet =
      any_and (fits packet) (λ block. takes_marks (only (block ∷ [])) packet.mark) blocks
      ∙ ap (λ b. fits packet && b) (any_same_tests (λ block. takes_marks (only (block ∷ [])) packet.mark) (in_block packet.mark) blocks (each_of (λ block. takes_marks (only (block ∷ [])) packet.mark ≡ in_block packet.mark block) blocks (λ block. or_nothing (in_block packet.mark block))))

  same_packets : (packet : Packet) → IsPacket packet → list_any (λ block. Has packet (with_block like block)) blocks ≡ list_any (Has packet) (map (with_marks like) sets)
  same_packets packet is = of_blocks packet ∙ ap (λ b. fits packet && b) (sym (are.same packet.mark is.mark)) ∙ sym (of_sets packet)

  good_block : Each Good (map (with_block like) blocks) → (block : Mark) → IsIn block blocks → Good (with_block like block)
  good_block good block within = each_in Good (with_block like block) (map (with_block like) blocks) good (in_map (with_block like) block blocks within)

  found : (set : MarkSet) → IsIn set sets → (packet : Packet) → IsPacket packet → Has packet (with_marks like set) ≡ true → (block : Mark) × IsIn block blocks × (Has packet (with_block like block) ≡ true)
  found set within packet is inside =
      any_found (λ block. Has packet (with_block like block)) blocks
      (same_packets packet is ∙ any_in (Has packet) (with_marks like set) (map (with_marks like) sets) (in_map (with_marks like) set sets within) inside)

  -- the blocks have the mark that the first of them has
  has_mark : Good (with_block like first) → HasMark (only blocks)
  has_mark good =
      let mark : HasMark (only (first ∷ [])) = good.some_mark in
      (mark.0, mark.1, left_of (in_block mark.0 first) (in_blocks more mark.0) (sym (or_nothing (in_block mark.0 first)) ∙ mark.2))

  good_set : Each Good (map (with_block like) blocks) → (set : MarkSet) → IsIn set sets → Good (with_marks like set)
  good_set good set within =
      let one : Good (with_block like first) = good.0 in
      record {
        some_to = one.some_to;
        some_from = one.some_from;
        some_mark = each_in HasMark set sets (are.some (has_mark one)) within;
        differs = one.differs;
        was = λ packet is inside. let block = found set within packet is inside in let held : Good (with_block like block.0) = good_block good block.0 block.1 in held.was packet is block.2;
        is = λ packet is inside. let block = found set within packet is inside in let held : Good (with_block like block.0) = good_block good block.0 block.1 in held.is packet is block.2;
      }

  pub some_replaced : Replaces sameness before after (map (with_block like) blocks) (map (with_marks like) sets)
  some_replaced = record {
    sound = λ good. each_made Good (with_marks like) sets (good_set good);
    complete = λ good packet is h. sym (same_packets packet is) ∙ sym (any_map (Has packet) (with_block like) blocks) ∙ h;
  }

sets_replace : (like : Group) (blocks : List Mark) (sets : List MarkSet) → 0 < length blocks → AreSets blocks sets → AlwaysReplaces (map (with_block like) blocks) (map (with_marks like) sets)
sets_replace like [] sets some are sameness before after = absurd (omega arith)
sets_replace like (first ∷ more) sets some are sameness before after = some_replaced sameness before after like first more sets are

-- ---- the groups at the front

pub long_more : (blocks new : List Mark) (block : Mark) (i : ℕ) → new ≡ blocks ++ block ∷ [] → length blocks ≡ i → length new ≡ i + 1
long_more blocks new block i pushed held = ap length pushed ∙ length-append blocks (block ∷ []) ∙ ap (λ n. n + 1) held

-- one group more
pub front_more : (groups : List Group) (like : Group) (i : ℕ) (group : Group) (block : Mark) (blocks new : List Mark) → i < length groups → group ≡ get_or groups i group → group ≡ with_block like block → new ≡ blocks ++ block ∷ [] →
    take i groups ≡ map (with_block like) blocks → take (i + 1) groups ≡ map (with_block like) new
front_more groups like i group block blocks new lt is of_block pushed held =
    take_more groups i group lt
    ∙ ap (λ (g : Group). take i groups ++ g ∷ []) (sym is ∙ of_block)
    ∙ ap (λ gs. gs ++ with_block like block ∷ []) held
    ∙ sym (map-append (with_block like) blocks (block ∷ []))
    ∙ ap (map (with_block like)) (sym pushed)

pub front_replaced : (old groups : List Group) (like : Group) (blocks : List Mark) (sets : List MarkSet) (new : List Group) → 0 < length blocks → take (length blocks) groups ≡ map (with_block like) blocks → AreSets blocks sets → new ≡ old ++ map (with_marks like) sets →
    AlwaysReplaces (old ++ take (length blocks) groups) new
front_replaced old groups like blocks sets new some front are pushed sameness before after =
    subst (λ gs. Replaces sameness before after (old ++ gs) new) (sym front)
    (subst (λ gs. Replaces sameness before after (old ++ map (with_block like) blocks) gs) (sym pushed)
    (behind sameness before after old (map (with_block like) blocks) (map (with_marks like) sets) (sets_replace like blocks sets some are sameness before after)))

-- the groups at the front are replaced, and the others are left
pub front_then : (groups old rest new left : List Group) (count : ℕ) → left ≡ drop count rest → AlwaysReplaces (old ++ take count rest) new → AlwaysReplaces groups (old ++ rest) → AlwaysReplaces groups (new ++ left)
front_then groups old rest new left count cut replaced held =
    then_always groups (old ++ rest) (new ++ left) held
    (λ sameness before after.
    let parts : (old ++ take count rest) ++ left ≡ old ++ rest = ap (λ gs. (old ++ take count rest) ++ gs) cut ∙ append_assoc old (take count rest) (drop count rest) ∙ ap (λ gs. old ++ gs) (take-append-drop count rest) in
    subst (λ gs. Replaces sameness before after gs (new ++ left)) parts (before_others sameness before after left (old ++ take count rest) new (replaced sameness before after)))

-- none is left
pub all_taken : (groups joined rest : List Group) → length rest ≡ 0 → AlwaysReplaces groups (joined ++ rest) → AlwaysReplaces groups joined
all_taken groups joined (group ∷ rest) none held sameness before after = absurd (omega arith)
all_taken groups joined [] none held sameness before after = subst (λ gs. Replaces sameness before after groups gs) (append-nil joined) (held sameness before after)
