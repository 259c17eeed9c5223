-- The groups of boxes: what they say is so, and no packet of a box is missing.
use Rattle.std.proofs.Common.{◌≡◌, ℕ, ◌+◌, ◌^◌, ◌<◌, ◌≤◌, Bool, true, false, ◌&&◌, ◌||◌, List, [], ◌∷◌, ◌++◌, length, take, get_or, Some, refl, sym, ap, ◌∙◌, subst, arith, lit<}
use Rattle.std.specs.Prelude.{map}
use Rattle.std.specs.List.{list_any, AllByRecursion as Each}
use Rattle.std.proofs.lemmas.List.{take_more}
use Rattle.std.proofs.lemmas.List.Elements.{Contains-get_or}
use Rattle.std.proofs.lemmas.List.Folds.{list_any-append}
use Rattle.prt_addr.specs.Word.{Word}
use Rattle.prt_addr.proofs.Each.{each_append}
use Rattle.prt_trie.proofs.Filters.{any_implies}
use Rattle.prt_rule.specs.Rule.{matches, takes_mark}
use Rattle.prt_rule.specs.declared.packet.Packet.{Packet}
use Rattle.prt_rule.specs.declared.rule.Rule.{Rule}
use Rattle.prt_version.specs.Select.{select}
use Rattle.prt_version.specs.State.{State}
use Rattle.prt_version.specs.declared.answer.Verdict.{Verdict}
use Rattle.prt_partition.specs.Boxes.{AreBoxes, AreTakenAlike, IsBox, has_interface, has_packet, is_between, packet_of}
use Rattle.prt_partition.specs.Classes.{IsPacket, is_named}
use Rattle.prt_partition.specs.Cuts.{to}
use Rattle.prt_partition.specs.Sameness.{AreSame}
use Rattle.prt_partition.specs.Spans.{AreDifferences, IsDifference, has}
use Rattle.prt_partition.specs.declared.differences.Difference.{Difference}
use Rattle.prt_partition.specs.declared.packet_box.Interfaces.{Interfaces as BoxInterfaces}
use Rattle.prt_partition.specs.declared.packet_box.Interfaces.TheVariants as of_box
use Rattle.prt_partition.specs.declared.packet_box.PacketBox.{PacketBox}
use Rattle.prt_partition.specs.declared.sameness.Sameness.{Sameness}
use Rattle.prt_partition.proofs.Alike.{same_select}
use Rattle.prt_partition.proofs.Between.{each_left, each_refl, each_right}
use Rattle.prt_partition.proofs.BoxList.{packet_inside}
use Rattle.prt_partition.proofs.Counts.{any_counted}
use Rattle.prt_partition.proofs.MarkBlocks.{takes_itself}
use Rattle.prt_partition.proofs.Starts.{IsIn, contains_in, each_in}
use Rattle.prt_impact.specs.Groups.{AreGroups, IsGroup, in_group, rules_of, takes_interface}
use Rattle.prt_impact.specs.Steps.{AddsBox, group_of, interfaces_of}
use Rattle.prt_impact.specs.declared.group.Group.{Group}

-- ---- tests

both_true : (a b : Bool) → (a && b) ≡ true → (a ≡ true) × (b ≡ true)
both_true true b h = (refl, h)
both_true false b h = absurd cc

both_are : (a b : Bool) → a ≡ true → b ≡ true → (a && b) ≡ true
both_are true b h k = k
both_are false b h k = absurd cc

regroup : (a b c d : Bool) → (a && b && c && d) ≡ (a && (b && c && d))
regroup true b c d = refl
regroup false b c d = refl

either_by : (a b : Bool) (X : Type 0) → (a || b) ≡ true → (a ≡ true → X) → (b ≡ true → X) → X
either_by true b X h f g = f refl
either_by false b X h f g = g h

left_of : (a b : Bool) → a ≡ true → (a || b) ≡ true
left_of true b h = refl
left_of false b h = absurd cc

right_of : (a b : Bool) → b ≡ true → (a || b) ≡ true
right_of true b h = refl
right_of false b h = h

or_nothing : (a : Bool) → (a || false) ≡ a
or_nothing true = refl
or_nothing false = refl

any_map : {X Y : Type 0} (q : Y → Bool) (f : X → Y) (xs : List X) → list_any q (map f xs) ≡ list_any (λ x. q (f x)) xs
any_map q f [] = refl
any_map q f (x ∷ xs) = ap (λ b. q (f x) || b) (any_map q f xs)

each_map : {X Y : Type 0} (Q : X → Type 0) (P : Y → Type 0) (f : X → Y) → ((x : X) → Q x → P (f x)) → (xs : List X) → Each Q xs → Each P (map f xs)
each_map Q P f gives [] h = tt
each_map Q P f gives (x ∷ xs) h = (gives x h.0, each_map Q P f gives xs h.1)

-- ---- the group of a difference

same_interfaces : (rules : List Rule) (one : BoxInterfaces) (iif : Word) → takes_interface rules (interfaces_of one) iif ≡ has_interface rules one iif
same_interfaces rules (of_box.Named name) iif = refl
same_interfaces rules of_box.AllOthers iif = refl

-- it has the packets of the box to the destinations of the difference
in_both : (rules : List Rule) (packet : Packet) (box : PacketBox) (difference : Difference) → in_group rules packet (group_of box difference) ≡ (has packet.dst.0 difference && has_packet rules packet box)
in_both rules packet box difference =
    let source : Bool = is_between box.first.0 box.last.0 packet.src.0 in
    let mark : Bool = takes_mark (Some box.mark) packet.mark in
    let interface : Bool = takes_interface rules (interfaces_of box.interfaces) packet.iif in
    ap (λ b. has packet.dst.0 difference && source && interface && b) (or_nothing mark)
    ∙ regroup (has packet.dst.0 difference) source interface mark
    ∙ ap (λ b. has packet.dst.0 difference && (source && b && mark)) (same_interfaces rules box.interfaces packet.iif)

-- the groups of the boxes so far
pub record Cover (sameness : Sameness) (before after : State) (done : List PacketBox) (groups : List Group) : Type 0 where
  pub sound : Each (IsGroup sameness before after) groups
  pub complete : (packet : Packet) → IsPacket packet → list_any (has_packet (rules_of before after) packet) done ≡ true → ¬ AreSame sameness (select before packet) (select after packet) → list_any (in_group (rules_of before after) packet) groups ≡ true

pub no_boxes : (sameness : Sameness) (before after : State) → Cover sameness before after [] []
no_boxes sameness before after = record { sound = tt; complete = λ packet is found differs. absurd cc }

module _ (sameness : Sameness) (before after : State) (boxes : List PacketBox) (fresh : Word) (are : AreBoxes (rules_of before after) boxes) (unnamed : is_named (rules_of before after) fresh ≡ false) where
  abbrev rules : List Rule
  rules = rules_of before after

  abbrev Good : Group → Type 0
  Good group = IsGroup sameness before after group

  alike : (box : PacketBox) → IsIn box boxes → (packet : Packet) → IsPacket packet → has_packet rules packet box ≡ true → AreTakenAlike rules packet (packet_of fresh box)
  alike box inside packet is found =
      let is_box : IsBox box = each_in IsBox box boxes are.each inside in
      let first : box.first.0 ≤ box.last.0 = is_box.some in
      let last : box.last.0 < 2 ^ 32 = is_box.last in
      let class : Packet = packet_of fresh box in
      let class_is : IsPacket class = record { dst = lit< tt; src = omega arith; mark = is_box.mark } in
      each_in (λ box. (packet other : Packet) → IsPacket packet → IsPacket other → has_packet rules packet box ≡ true → has_packet rules other box ≡ true → AreTakenAlike rules packet other)
      box boxes are.alike inside packet class is class_is found (packet_inside rules fresh box unnamed is_box)

  -- the packets of a box go as the one that represents it
  goes_before : (box : PacketBox) → IsIn box boxes → (packet : Packet) → IsPacket packet → has_packet rules packet box ≡ true → select before packet ≡ select before (to (packet_of fresh box) packet.dst.0)
  goes_before box inside packet is found =
      let class : Packet = packet_of fresh box in
      let addr : ℕ = packet.dst.0 in
      same_select before (to packet addr) (to class addr)
      (record {
        rules = each_left (λ (rule : Rule). matches rule (to packet addr) ≡ matches rule (to class addr)) before.rules after.rules (alike box inside packet is found addr);
        routes = each_refl before.routes (to packet addr);
      })

  goes_after : (box : PacketBox) → IsIn box boxes → (packet : Packet) → IsPacket packet → has_packet rules packet box ≡ true → select after packet ≡ select after (to (packet_of fresh box) packet.dst.0)
  goes_after box inside packet is found =
      let class : Packet = packet_of fresh box in
      let addr : ℕ = packet.dst.0 in
      same_select after (to packet addr) (to class addr)
      (record {
        rules = each_right (λ (rule : Rule). matches rule (to packet addr) ≡ matches rule (to class addr)) before.rules after.rules (alike box inside packet is found addr);
        routes = each_refl after.routes (to packet addr);
      })

  group_is : (box : PacketBox) → IsIn box boxes → (difference : Difference) → IsDifference sameness before after (packet_of fresh box) difference → Good (group_of box difference)
  group_is box inside difference is =
      let is_box : IsBox box = each_in IsBox box boxes are.each inside in
      let parts : (packet : Packet) → in_group rules packet (group_of box difference) ≡ true → (has packet.dst.0 difference ≡ true) × (has_packet rules packet box ≡ true) =
      λ packet within. both_true (has packet.dst.0 difference) (has_packet rules packet box) (sym (in_both rules packet box difference) ∙ within) in
      record {
        some_to = is.some;
        some_from = is_box.some;
        some_mark = (box.mark.mark, is_box.mark, or_nothing (takes_mark (Some box.mark) box.mark.mark) ∙ takes_itself box.mark);
        differs = is.differs;
        was = λ packet is_packet within. goes_before box inside packet is_packet (parts packet within).1 ∙ is.was packet.dst.0 (parts packet within).0;
        is = λ packet is_packet within. goes_after box inside packet is_packet (parts packet within).1 ∙ is.is packet.dst.0 (parts packet within).0;
      }

  -- a packet of the box whose verdicts differ is in a group of it
  in_one : (box : PacketBox) → IsIn box boxes → (differences : List Difference) → AreDifferences sameness before after (packet_of fresh box) differences →
      (packet : Packet) → IsPacket packet → has_packet rules packet box ≡ true → ¬ AreSame sameness (select before packet) (select after packet) → list_any (in_group rules packet) (map (group_of box) differences) ≡ true
  in_one box inside differences of_box packet is found differs =
      let class : Packet = packet_of fresh box in
      let addr : ℕ = packet.dst.0 in
      let apart : ¬ AreSame sameness (select before (to class addr)) (select after (to class addr)) =
      λ same. differs (subst (λ (v : Verdict). AreSame sameness v (select after packet)) (sym (goes_before box inside packet is found)) (subst (λ (w : Verdict). AreSame sameness (select before (to class addr)) w) (sym (goes_after box inside packet is found)) same)) in
      any_map (in_group rules packet) (group_of box) differences
      ∙ any_implies (has addr) (λ difference. in_group rules packet (group_of box difference)) differences
      (λ difference holds. in_both rules packet box difference ∙ both_are (has addr difference) (has_packet rules packet box) holds found)
      (of_box.complete addr is.dst apart)

  one_more : (done : List PacketBox) (box : PacketBox) → IsIn box boxes → (old new : List Group) → AddsBox sameness before after box (packet_of fresh box) old new → Cover sameness before after done old → Cover sameness before after (done ++ box ∷ []) new
  one_more done box inside old new adds cover =
      let more : List Group = map (group_of box) adds.differences in
      let found : (packet : Packet) → IsPacket packet → list_any (has_packet rules packet) (done ++ box ∷ []) ≡ true → ¬ AreSame sameness (select before packet) (select after packet) → list_any (in_group rules packet) (old ++ more) ≡ true =
      λ packet is there differs.
      list_any-append (in_group rules packet) old more
      ∙ either_by (list_any (has_packet rules packet) done) (has_packet rules packet box) ((list_any (in_group rules packet) old || list_any (in_group rules packet) more) ≡ true)
      (ap (λ b. list_any (has_packet rules packet) done || b) (sym (or_nothing (has_packet rules packet box))) ∙ sym (list_any-append (has_packet rules packet) done (box ∷ [])) ∙ there)
      (λ in_done. left_of (list_any (in_group rules packet) old) (list_any (in_group rules packet) more) (cover.complete packet is in_done differs))
      (λ in_box. right_of (list_any (in_group rules packet) old) (list_any (in_group rules packet) more) (in_one box inside adds.differences adds.are packet is in_box differs)) in
      subst (Cover sameness before after (done ++ box ∷ [])) (sym adds.whole)
      (record {
        sound = each_append Good old more cover.sound (each_map (IsDifference sameness before after (packet_of fresh box)) Good (group_of box) (group_is box inside) adds.differences adds.are.sound);
        complete = found;
      })

  -- one box more
  pub cover_more : (i : ℕ) (box : PacketBox) (old new : List Group) → i < length boxes → box ≡ get_or boxes i box → AddsBox sameness before after box (packet_of fresh box) old new → Cover sameness before after (take i boxes) old → Cover sameness before after (take (i + 1) boxes) new
  cover_more i box old new lt is adds cover =
      let inside : IsIn box boxes = subst (λ b. IsIn b boxes) (sym is) (contains_in (get_or boxes i box) boxes (Contains-get_or boxes i box lt)) in
      let more : take (i + 1) boxes ≡ take i boxes ++ box ∷ [] = take_more boxes i box lt ∙ ap (λ (b : PacketBox). take i boxes ++ b ∷ []) (sym is) in
      subst (λ bs. Cover sameness before after bs new) (sym more) (one_more (take i boxes) box inside old new adds cover)

  -- all boxes
  pub all_covered : (groups : List Group) → Cover sameness before after boxes groups → AreGroups sameness before after groups
  all_covered groups cover = record {
    sound = cover.sound;
    complete = λ packet is differs. cover.complete packet is (any_counted (has_packet rules packet) boxes (are.once packet is)) differs;
  }
