-- Groups of each interface, which one group of all interfaces replaces.
use Rattle.std.proofs.Common.{◌≡◌, ℕ, ◌+◌, ◌<◌, Bool, true, false, not, ◌&&◌, ◌||◌, List, [], ◌∷◌, ◌++◌, drop, length, take, get_or, refl, sym, ap, ◌∙◌, subst}
use Rattle.std.specs.Prelude.{bytes_eq, map}
use Rattle.std.specs.List.{list_any, AllByRecursion as Each}
use Rattle.std.specs.List.Sorted.{IsPermutation}
use Rattle.std.proofs.lemmas.Bool.Decides.{Decides-like, same_from_decides}
use Rattle.std.proofs.lemmas.List.{map-append, take-append-drop, take_more}
use Rattle.std.proofs.lemmas.List.Folds.{list_any-append}
use Rattle.std.proofs.lemmas.List.Sorted.{list_any-IsPermutation}
use Rattle.std.proofs.lemmas.Slice.Eq.{bytes_eq-Decides}
use Rattle.prt_addr.specs.Word.{Word}
use Rattle.prt_rule.specs.declared.packet.Packet.{Packet}
use Rattle.prt_rule.specs.declared.rule.Rule.{Rule}
use Rattle.prt_trie.proofs.Filters.{any_same_tests, each_of}
use Rattle.prt_version.specs.State.{State}
use Rattle.prt_partition.specs.Boxes.{AreNames}
use Rattle.prt_partition.specs.Classes.{is_named}
use Rattle.prt_partition.specs.declared.sameness.Sameness.{Sameness}
use Rattle.prt_partition.proofs.Starts.{IsIn, any_found, each_in, in_map}
use Rattle.prt_impact.specs.Groups.{IsGroup, in_group, is_in, rules_of, takes_interface}
use Rattle.prt_impact.specs.MarkSets.{takes_marks}
use Rattle.prt_impact.specs.Replacing.{AreAll, Replaces, ReplacesIfAll}
use Rattle.prt_impact.specs.Steps.{is_same_group, with_interfaces}
use Rattle.prt_impact.specs.declared.group.Group.{Group}
use Rattle.prt_impact.specs.declared.group.InterfaceSet.{InterfaceSet}
use Rattle.prt_impact.specs.declared.group.InterfaceSet.TheVariants.{Named, AllOthers, All}
use Rattle.prt_impact.proofs.Equals.{same_groups}
use Rattle.prt_impact.proofs.Replaced.{behind}

-- ---- all interfaces

any_map : {X Y : Type 0} (q : Y → Bool) (f : X → Y) (xs : List X) → list_any q (map f xs) ≡ list_any (λ x. q (f x)) xs
any_map q f [] = refl
any_map q f (x ∷ xs) = ap (λ b. q (f x) || b) (any_map q f xs)

bytes_both_ways : (a b : Word) → bytes_eq a b ≡ bytes_eq b a
bytes_both_ways a b = same_from_decides (bytes_eq a b) (bytes_eq b a) (bytes_eq-Decides a b) (Decides-like (bytes_eq b a) (λ e. sym e) (λ e. sym e) (bytes_eq-Decides b a))

or_not : (b : Bool) → (b || not b || false) ≡ true
or_not true = refl
or_not false = refl

regroup : (a b : Bool) → (a || (b || false)) ≡ (a || b || false)
regroup true b = refl
regroup false true = refl
regroup false false = refl

-- the names of the rules and the others, in any order
pub all_there : (rules : List Rule) (names : List Word) (turned : List InterfaceSet) → AreNames rules names → IsPermutation (map Named names ++ AllOthers ∷ []) turned → AreAll rules turned
all_there rules names turned are moved iif =
    let takes : InterfaceSet → Bool = λ one. takes_interface rules one iif in
    sym (list_any-IsPermutation takes (map Named names ++ AllOthers ∷ []) turned moved)
    ∙ list_any-append takes (map Named names) (AllOthers ∷ [])
    ∙ ap (λ b. b || (not (is_named rules iif) || false))
    (any_map takes Named names
    ∙ any_same_tests (λ name. bytes_eq name iif) (bytes_eq iif) names (each_of (λ name. bytes_eq name iif ≡ bytes_eq iif name) names (λ name. bytes_both_ways name iif))
    ∙ are.all iif)
    ∙ regroup (is_named rules iif) (not (is_named rules iif))
    ∙ or_not (is_named rules iif)

-- ---- one group of all

unpack : (t s i m : Bool) → (t && s && i && m) ≡ true → (i ≡ true) × ((t && s && true && m) ≡ true)
unpack true true true true h = (refl, refl)
unpack true true true false h = absurd cc
unpack true true false m h = absurd cc
unpack true false i m h = absurd cc
unpack false s i m h = absurd cc

pack : (t s i m : Bool) → i ≡ true → (t && s && true && m) ≡ true → (t && s && i && m) ≡ true
pack t s true m h k = k
pack t s false m h k = absurd cc

module _ (sameness : Sameness) (before after : State) (group : Group) (interfaces : List InterfaceSet) (all : AreAll (rules_of before after) interfaces) where
  abbrev Good : Group → Type 0
  Good group = IsGroup sameness before after group

  abbrev Has : Packet → Group → Bool
  Has packet group = in_group (rules_of before after) packet group

  one_has : (packet : Packet) → Has packet (with_interfaces group All) ≡ true → (one : InterfaceSet) × IsIn one interfaces × (Has packet (with_interfaces group one) ≡ true)
  one_has packet inside =
      let found = any_found (λ one. takes_interface (rules_of before after) one packet.iif) interfaces (all packet.iif) in (
        found.0,
        found.1,
        pack (is_in group.to packet.dst.0) (is_in group.from packet.src.0) (takes_interface (rules_of before after) found.0 packet.iif) (takes_marks group.marks packet.mark) found.2 inside,
      )

  each_good : Each Good (map (with_interfaces group) interfaces) → (one : InterfaceSet) → IsIn one interfaces → Good (with_interfaces group one)
  each_good good one there = each_in Good (with_interfaces group one) (map (with_interfaces group) interfaces) good (in_map (with_interfaces group) one interfaces there)

  pub as_one : Replaces sameness before after (map (with_interfaces group) interfaces) (with_interfaces group All ∷ [])
  as_one = record {
    sound = λ good.
        let some = any_found (λ one. takes_interface (rules_of before after) one []) interfaces (all []) in
        let first : Good (with_interfaces group some.0) = each_good good some.0 some.1 in
        let whole : Good (with_interfaces group All) = record {
          some_to = first.some_to;
          some_from = first.some_from;
          some_mark = first.some_mark;
          differs = first.differs;
          was = λ packet is inside. let one = one_has packet inside in let held : Good (with_interfaces group one.0) = each_good good one.0 one.1 in held.was packet is one.2;
          is = λ packet is inside. let one = one_has packet inside in let held : Good (with_interfaces group one.0) = each_good good one.0 one.1 in held.is packet is one.2;
        } in
        (whole, tt);
    complete = λ good packet is h.
        let found = any_found (λ one. Has packet (with_interfaces group one)) interfaces (sym (any_map (Has packet) (with_interfaces group) interfaces) ∙ h) in
        let taken = unpack (is_in group.to packet.dst.0) (is_in group.from packet.src.0) (takes_interface (rules_of before after) found.0 packet.iif) (takes_marks group.marks packet.mark) found.2 in
        ap (λ b. b || false) taken.1;
  }

-- the last groups are those of each interface
pub last_whole : (interfaces : List InterfaceSet) (group : Group) (groups : List Group) (start : ℕ) → drop start groups ≡ map (with_interfaces group) interfaces → ReplacesIfAll interfaces groups (take start groups ++ with_interfaces group All ∷ [])
last_whole interfaces group groups start are sameness before after all =
    let parts : take start groups ++ map (with_interfaces group) interfaces ≡ groups = ap (λ gs. take start groups ++ gs) (sym are) ∙ take-append-drop start groups in
    subst (λ gs. Replaces sameness before after gs (take start groups ++ with_interfaces group All ∷ [])) parts
    (behind sameness before after (take start groups) (map (with_interfaces group) interfaces) (with_interfaces group All ∷ []) (as_one sameness before after group interfaces all))

-- one interface more
pub same_so_far : (groups : List Group) (interfaces : List InterfaceSet) (like : Group) (i : ℕ) (group : Group) (one : InterfaceSet) → i < length groups → i < length interfaces → group ≡ get_or groups i group → one ≡ get_or interfaces i one →
    is_same_group group (with_interfaces like one) ≡ true → take i groups ≡ map (with_interfaces like) (take i interfaces) → take (i + 1) groups ≡ map (with_interfaces like) (take (i + 1) interfaces)
same_so_far groups interfaces like i group one lt less is is_one same held =
    take_more groups i group lt
    ∙ ap (λ (g : Group). take i groups ++ g ∷ []) (sym is ∙ same_groups group (with_interfaces like one) same)
    ∙ ap (λ gs. gs ++ with_interfaces like one ∷ []) held
    ∙ sym (map-append (with_interfaces like) (take i interfaces) (one ∷ []))
    ∙ ap (map (with_interfaces like)) (ap (λ (o : InterfaceSet). take i interfaces ++ o ∷ []) is_one ∙ sym (take_more interfaces i one less))

-- a group is appended, and the last ones are those of each interface
pub whole_pushed : (interfaces : List InterfaceSet) (group : Group) (old one short new last : List Group) (start n : ℕ) → one ≡ old ++ group ∷ [] → last ≡ drop n one → start ≡ n → last ≡ map (with_interfaces group) interfaces →
    short ≡ take start one → new ≡ short ++ with_interfaces group All ∷ [] → ReplacesIfAll interfaces (old ++ group ∷ []) new
whole_pushed interfaces group old one short new last start n pushed behind_n same are cut whole sameness before after all =
    let end : drop n one ≡ map (with_interfaces group) interfaces = sym behind_n ∙ are in
    let is : new ≡ take n one ++ with_interfaces group All ∷ [] = whole ∙ ap (λ gs. gs ++ with_interfaces group All ∷ []) (cut ∙ ap (λ k. take k one) same) in
    subst (λ gs. Replaces sameness before after gs new) pushed
    (subst (λ gs. Replaces sameness before after one gs) (sym is) (last_whole interfaces group one n end sameness before after all))
