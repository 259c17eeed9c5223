-- Each packet is in exactly one box, and rules take all packets of a box alike.
use Rattle.std.proofs.Common.{◌≡◌, ◌⊎◌, inl, inr, ℕ, ◌+◌, ◌-◌, ◌*◌, ◌^◌, ◌<◌, ◌≤◌, Bool, true, false, not, ◌&&◌, ◌||◌, cond, List, [], ◌∷◌, ◌++◌, length, length-append, get_or, take, Option, Some, None, refl, sym, ap, ◌∙◌, subst, arith, ⊎_elim, leb, lit<, zero-add, add-zero}
use Rattle.std.specs.Prelude.{bytes_eq, count_by, flat_map, map, nat_lt}
use Rattle.std.specs.Cmp.{IsEquivalence}
use Rattle.std.specs.List.{list_any, All, AllByRecursion as Each, Contains, IsDistinct}
use Rattle.std.specs.List.Sorted.{IsStrictlyIncreasing}
use Rattle.std.specs.Option.{option_eq, option_to_list}
use Rattle.std.proofs.lemmas.Bool.{cases_lt, le-leb, lt-leb, leb-true}
use Rattle.std.proofs.lemmas.Bool.Decides.{Decides-like, same_from_decides}
use Rattle.std.proofs.lemmas.List.{length-map, take_more}
use Rattle.std.proofs.lemmas.List.Elements.{Contains-append_left, Contains-push, Contains-push_cases, recursion_from_All}
use Rattle.std.proofs.lemmas.List.Folds.{list_any-append}
use Rattle.std.proofs.lemmas.Map.Keys.{IsDistinct-push}
use Rattle.std.proofs.lemmas.Slice.Eq.{bytes_eq-Decides}
use Rattle.prt_addr.specs.Block.{Block}
use Rattle.prt_addr.specs.Prefix.{contains, masked}
use Rattle.prt_addr.specs.Word.{Word}
use Rattle.prt_addr.proofs.Each.{each_append, each_fails, each_implies}
use Rattle.prt_rule.specs.Rule.{matches, takes_interface, takes_mark}
use Rattle.prt_rule.specs.declared.packet.Packet.{Packet}
use Rattle.prt_rule.specs.declared.rule.Mark.{Mark}
use Rattle.prt_rule.specs.declared.rule.Rule.{Rule}
use Rattle.prt_trie.proofs.Filters.{each_of}
use Rattle.prt_version.specs.Select.{select}
use Rattle.prt_version.specs.State.{State}
use Rattle.prt_partition.specs.Boxes.{AreBoxes, AreNames, AreSourceStarts, AreTakenAlike, IsBox, all_interfaces, box_of, boxes_between, boxes_from, has_interface, has_packet, is_between, last_before, one_of, packet_of, with_name}
use Rattle.prt_partition.specs.Classes.{AreClasses, IsPacket, is_named, names}
use Rattle.prt_partition.specs.Cuts.{AreStarts, HasNoCut, cuts_of, destination_cuts, end, from_cuts, to}
use Rattle.prt_partition.specs.Marks.{AreMarkBlocks, IsMarkBlock, mark_blocks}
use Rattle.prt_partition.specs.declared.packet_box.Interfaces.{Interfaces}
use Rattle.prt_partition.specs.declared.packet_box.Interfaces.TheVariants.{Named, AllOthers}
use Rattle.prt_partition.specs.declared.packet_box.PacketBox.{PacketBox}
use Rattle.prt_partition.proofs.Alike.{same_select}
use Rattle.prt_partition.proofs.Between.{each_of_each, each_refl, same_by_destination, same_contains, same_matches}
use Rattle.prt_partition.proofs.Counts.{any_counted, count_and, count_append, count_cons, count_flat, count_map, count_none}
use Rattle.prt_partition.proofs.MarkBlocks.{each_both, takes_itself}
use Rattle.prt_partition.proofs.SpanList.{rises}
use Rattle.prt_partition.proofs.Starts.{AreMet, IsIn, Rises, any_found, begins_at_zero, contains_in, each_in, each_moved, in_contains, in_map, met_later, uncut_by}

both_true : (a b : Bool) → (a && b) ≡ true → (a ≡ true) × (b ≡ true)
both_true true b h = (refl, h)
both_true false b h = absurd cc

or_false : (a : Bool) → (a || false) ≡ a
or_false true = refl
or_false false = refl

or_true : (a : Bool) → (a || true) ≡ true
or_true true = refl
or_true false = refl

not_true : (b : Bool) → not b ≡ true → b ≡ false
not_true true h = absurd cc
not_true false h = refl

-- ---- the names of interfaces

bytes_both_ways : (a b : Word) → bytes_eq a b ≡ bytes_eq b a
bytes_both_ways a b = same_from_decides (bytes_eq a b) (bytes_eq b a) (bytes_eq-Decides a b) (Decides-like (bytes_eq b a) (λ e. sym e) (λ e. sym e) (bytes_eq-Decides b a))

bytes_laws : IsEquivalence bytes_eq
bytes_laws = record {
  refl = λ x. (bytes_eq-Decides x x).1 refl;
  symm = bytes_both_ways;
  congr = λ x y z e. ap (λ w. bytes_eq w z) ((bytes_eq-Decides x y).0 e);
}

named_more : (done : List Rule) (rule : Rule) (o : Option Word) (iif : Word) → rule.iif ≡ o → is_named (done ++ rule ∷ []) iif ≡ (is_named done iif || option_eq bytes_eq o (Some iif))
named_more done rule o iif e =
    list_any-append (names iif) done (rule ∷ [])
    ∙ ap (λ b. is_named done iif || b) (or_false (names iif rule) ∙ ap (λ p. option_eq bytes_eq p (Some iif)) e)

known_by : (done : List Rule) (known : List Word) (name iif : Word) (b : Bool) → bytes_eq name iif ≡ b → list_any (bytes_eq name) known ≡ true → list_any (bytes_eq iif) known ≡ is_named done iif → list_any (bytes_eq iif) known ≡ (is_named done iif || b)
known_by done known name iif true e there same = ap (λ w. list_any (bytes_eq w) known) (sym ((bytes_eq-Decides name iif).0 e)) ∙ there ∙ sym (or_true (is_named done iif))
known_by done known name iif false e there same = same ∙ sym (or_false (is_named done iif))

one_more_by : (done : List Rule) (rule : Rule) (known : List Word) (name : Word) (b : Bool) → rule.iif ≡ Some name → list_any (bytes_eq name) known ≡ b → AreNames done known → AreNames (done ++ rule ∷ []) (cond b known (known ++ name ∷ []))
one_more_by done rule known name true e there are = record {
  once = are.once;
  all = λ iif. known_by done known name iif (bytes_eq name iif) refl there (are.all iif) ∙ sym (named_more done rule (Some name) iif e);
}
one_more_by done rule known name false e there are = record {
  once = IsDistinct-push bytes_laws known name are.once there;
  all = λ iif.
      list_any-append (bytes_eq iif) known (name ∷ [])
      ∙ ap (λ b. b || (bytes_eq iif name || false)) (are.all iif)
      ∙ ap (λ b. is_named done iif || b) (or_false (bytes_eq iif name) ∙ bytes_both_ways iif name)
      ∙ sym (named_more done rule (Some name) iif e);
}

one_more : (done : List Rule) (rule : Rule) (known : List Word) (o : Option Word) → rule.iif ≡ o → AreNames done known → AreNames (done ++ rule ∷ []) (with_name known o)
one_more done rule known None e are = record { once = are.once; all = λ iif. are.all iif ∙ sym (or_false (is_named done iif)) ∙ sym (named_more done rule None iif e) }
one_more done rule known (Some name) e are = one_more_by done rule known name (list_any (bytes_eq name) known) e refl are

-- one rule more
pub names_step : (rules : List Rule) (i : ℕ) (rule : Rule) (known next : List Word) → i < length rules → rule ≡ get_or rules i rule → next ≡ with_name known rule.iif → AreNames (take i rules) known → AreNames (take (i + 1) rules) next
names_step rules i rule known next inside is e are =
    let more : take (i + 1) rules ≡ take i rules ++ rule ∷ [] = take_more rules i rule inside ∙ ap (λ (r : Rule). take i rules ++ r ∷ []) (sym is) in
    subst (λ ns. AreNames (take (i + 1) rules) ns) (sym e) (subst (λ rs. AreNames rs (with_name known rule.iif)) (sym more) (one_more (take i rules) rule known rule.iif refl are))

pub no_names : AreNames [] []
unfolding IsDistinct
no_names = record { once = tt; all = λ iif. refl }

-- ---- each interface is one of these

count_names_by : (name : Word) (known : List Word) (iif : Word) (b : Bool) → bytes_eq name iif ≡ b → Each (λ other. bytes_eq name other ≡ false) known → count_by (λ other. bytes_eq other iif) known ≡ cond (list_any (bytes_eq iif) known) 1 0 →
    count_by (λ other. bytes_eq other iif) (name ∷ known) ≡ cond (b || list_any (bytes_eq iif) known) 1 0
count_names_by name known iif true e apart rest =
    let none : count_by (λ other. bytes_eq other iif) known ≡ 0 =
    count_none (λ other. bytes_eq other iif) known
    (each_implies (λ other. bytes_eq name other ≡ false) (λ other. bytes_eq other iif ≡ false)
    (λ other h. bytes_both_ways other iif ∙ ap (λ w. bytes_eq w other) (sym ((bytes_eq-Decides name iif).0 e)) ∙ h) known apart) in
    count_cons (λ other. bytes_eq other iif) name known ∙ ap (λ b. cond b 1 0 + count_by (λ other. bytes_eq other iif) known) e ∙ ap (λ n. 1 + n) none
count_names_by name known iif false e apart rest =
    let this : count_by (λ other. bytes_eq other iif) (name ∷ known) ≡ 0 + count_by (λ other. bytes_eq other iif) known =
    count_cons (λ other. bytes_eq other iif) name known ∙ ap (λ b. cond b 1 0 + count_by (λ other. bytes_eq other iif) known) e in
    this ∙ zero-add (count_by (λ other. bytes_eq other iif) known) ∙ rest

count_names : (known : List Word) (iif : Word) → IsDistinct bytes_eq known → count_by (λ other. bytes_eq other iif) known ≡ cond (list_any (bytes_eq iif) known) 1 0
unfolding IsDistinct
count_names [] iif h = refl
count_names (name ∷ known) iif h =
    count_names_by name known iif (bytes_eq name iif) refl h.0 (count_names known iif h.1)
    ∙ ap (λ b. cond (b || list_any (bytes_eq iif) known) 1 0) (bytes_both_ways name iif)

one_way_only : (b : Bool) → (cond (not b) 1 0) + (cond b 1 0) ≡ 1
one_way_only true = refl
one_way_only false = refl

interfaces_once : (rules : List Rule) (known : List Word) (iif : Word) → AreNames rules known → count_by (λ one. has_interface rules one iif) (all_interfaces known) ≡ 1
interfaces_once rules known iif are =
    count_cons (λ one. has_interface rules one iif) AllOthers (map Named known)
    ∙ ap (λ n. cond (not (is_named rules iif)) 1 0 + n) (count_map (λ one. has_interface rules one iif) Named known ∙ count_names known iif are.once ∙ ap (λ b. cond b 1 0) (are.all iif))
    ∙ one_way_only (is_named rules iif)

-- ---- each packet is in one box

range_by : (c d n : ℕ) → c < d → (cond (leb c n && leb n (d - 1)) 1 0) + (cond (leb d n) 1 0) ≡ cond (leb c n) 1 0
range_by c d n less =
    ⊎_elim
    (λ (early : n < c).
    let a : leb c n ≡ false = lt-leb c n early in
    let b : leb d n ≡ false = lt-leb d n (omega arith) in
    ap (λ t. (cond (t && leb n (d - 1)) 1 0) + (cond (leb d n) 1 0)) a ∙ ap (λ t. 0 + cond t 1 0) b ∙ ap (λ t. cond t 1 0) (sym a))
    (λ (from : c ≤ n).
    let a : leb c n ≡ true = le-leb c n from in
    ap (λ t. (cond (t && leb n (d - 1)) 1 0) + (cond (leb d n) 1 0)) a
    ∙ ⊎_elim
    (λ (within : n < d).
    let b : leb n (d - 1) ≡ true = le-leb n (d - 1) (omega arith) in
    let e : leb d n ≡ false = lt-leb d n within in
    ap (λ t. (cond t 1 0) + (cond (leb d n) 1 0)) b ∙ ap (λ t. 1 + cond t 1 0) e)
    (λ (past : d ≤ n).
    let b : leb n (d - 1) ≡ false = lt-leb n (d - 1) (omega arith) in
    let e : leb d n ≡ true = le-leb d n past in
    ap (λ t. (cond t 1 0) + (cond (leb d n) 1 0)) b ∙ ap (λ t. 0 + cond t 1 0) e)
    (cases_lt n d)
    ∙ ap (λ t. cond t 1 0) (sym a))
    (cases_lt n c)

module _ (rules : List Rule) (known : List Word) (blocks : List Mark) (names_are : AreNames rules known) (marks : AreMarkBlocks rules blocks) where
  abbrev interfaces : List Interfaces
  interfaces = all_interfaces known

  marks_once : (first last : ℕ) (one : Interfaces) (packet : Packet) → packet.mark < 2 ^ 32 →
      count_by (has_packet rules packet) (map (box_of first last one) blocks) ≡ cond (is_between first last packet.src.0 && has_interface rules one packet.iif) 1 0
  marks_once first last one packet fits =
      let b : Bool = is_between first last packet.src.0 && has_interface rules one packet.iif in
      count_map (has_packet rules packet) (box_of first last one) blocks
      ∙ count_and b (λ (block : Mark). takes_mark (Some block) packet.mark) blocks
      ∙ ap (λ n. cond b n 0) (marks.once packet.mark fits)

  between_once : (first last : ℕ) (packet : Packet) → packet.mark < 2 ^ 32 → count_by (has_packet rules packet) (boxes_between first last interfaces blocks) ≡ cond (is_between first last packet.src.0) 1 0
  between_once first last packet fits =
      let b : Bool = is_between first last packet.src.0 in
      count_flat (λ one. b && has_interface rules one packet.iif) (has_packet rules packet) (λ one. map (box_of first last one) blocks) interfaces
      (each_of (λ one. count_by (has_packet rules packet) (map (box_of first last one) blocks) ≡ cond (b && has_interface rules one packet.iif) 1 0) interfaces (λ one. marks_once first last one packet fits))
      ∙ count_and b (λ one. has_interface rules one packet.iif) interfaces
      ∙ ap (λ n. cond b n 0) (interfaces_once rules known packet.iif names_are)

  from_once : (c : ℕ) (cs : List ℕ) (packet : Packet) → IsPacket packet → Rises (c ∷ cs) → count_by (has_packet rules packet) (boxes_from (c ∷ cs) interfaces blocks) ≡ cond (leb c packet.src.0) 1 0
  from_once c [] packet is rise =
      let n : ℕ = packet.src.0 in
      let most : leb n 4294967295 ≡ true = le-leb n 4294967295 (let less : n < 2 ^ 32 = is.src in omega arith) in
      let all : count_by (has_packet rules packet) (boxes_between c 4294967295 interfaces blocks) ≡ cond (leb c n && leb n 4294967295) 1 0 = between_once c 4294967295 packet is.mark in
      let here : (leb c n && leb n 4294967295) ≡ leb c n = ap (λ t. leb c n && t) most ∙ and_true (leb c n) in
      count_append (has_packet rules packet) (boxes_between c 4294967295 interfaces blocks) []
      ∙ ap (λ k. k + 0) all
      ∙ add-zero (cond (leb c n && leb n 4294967295) 1 0)
      ∙ ap (λ t. cond t 1 0) here
    where
      and_true : (a : Bool) → (a && true) ≡ a
      and_true true = refl
      and_true false = refl
  from_once c (d ∷ ds) packet is rise =
      let n : ℕ = packet.src.0 in
      count_append (has_packet rules packet) (boxes_between c (d - 1) interfaces blocks) (boxes_from (d ∷ ds) interfaces blocks)
      ∙ ap (λ k. k + count_by (has_packet rules packet) (boxes_from (d ∷ ds) interfaces blocks)) (between_once c (d - 1) packet is.mark)
      ∙ ap (λ k. cond (leb c n && leb n (d - 1)) 1 0 + k) (from_once d ds packet is rise.1)
      ∙ range_by c d n rise.0.0

  once_from : (starts : List ℕ) (packet : Packet) → IsPacket packet → Rises starts → IsIn 0 starts → count_by (has_packet rules packet) (boxes_from starts interfaces blocks) ≡ 1
  once_from [] packet is rise zero = absurd zero
  once_from (c ∷ cs) packet is rise zero =
      let start : c ≡ 0 = begins_at_zero c cs rise zero in
      from_once c cs packet is rise ∙ ap (λ t. cond t 1 0) (le-leb c packet.src.0 (omega arith))

-- ---- rules take all packets of a box alike

abbrev IsAlike : List Rule → PacketBox → Type 0
IsAlike rules box = (packet other : Packet) → IsPacket packet → IsPacket other → has_packet rules packet box ≡ true → has_packet rules other box ≡ true → AreTakenAlike rules packet other

-- no rule begins or ceases to take sources within the range
record IsRange (rules : List Rule) (first last : ℕ) : Type 0 where
  some : first ≤ last
  fits : last < 2 ^ 32
  uncut : HasNoCut (from_cuts rules) first last

shorter : (cuts : List ℕ) (first last n : ℕ) → n ≤ last → HasNoCut cuts first last → HasNoCut cuts first n
shorter cuts first last n le none = each_implies (λ cut. (cut ≤ first) ⊎ (last < cut)) (λ cut. (cut ≤ first) ⊎ (n < cut)) (λ cut h. ⊎_elim (λ (low : cut ≤ first). inl low) (λ (past : last < cut). inr (omega arith)) h) cuts none

same_sources : (rules : List Rule) (first last m n : ℕ) → IsRange rules first last → is_between first last m ≡ true → is_between first last n ≡ true →
    Each (λ (rule : Rule). contains rule.from (record { 0 = m }) ≡ contains rule.from (record { 0 = n })) rules
same_sources rules first last m n range h k =
    let low : first ≤ m = leb-true first m (both_true (leb first m) (leb m last) h).0 in
    let high : m ≤ last = leb-true m last (both_true (leb first m) (leb m last) h).1 in
    let low_n : first ≤ n = leb-true first n (both_true (leb first n) (leb n last) k).0 in
    let high_n : n ≤ last = leb-true n last (both_true (leb first n) (leb n last) k).1 in
    let fits : last < 2 ^ 32 = range.fits in
    each_implies (λ (rule : Rule). HasNoCut (cuts_of rule.from) first last) (λ (rule : Rule). contains rule.from (record { 0 = m }) ≡ contains rule.from (record { 0 = n }))
    (λ rule none.
    sym (same_contains rule.from first m low (omega arith) (shorter (cuts_of rule.from) first last m high none))
    ∙ same_contains rule.from first n low_n (omega arith) (shorter (cuts_of rule.from) first last n high_n none))
    rules (each_of_each (λ cut. (cut ≤ first) ⊎ (last < cut)) (λ (rule : Rule). cuts_of rule.from) rules range.uncut)

unnamed_by : (o : Option Word) (a b : Word) → option_eq bytes_eq o (Some a) ≡ false → option_eq bytes_eq o (Some b) ≡ false → takes_interface o a ≡ takes_interface o b
unnamed_by None a b h k = refl
unnamed_by (Some n) a b h k = h ∙ sym k

same_interfaces : (rules : List Rule) (one : Interfaces) (a b : Word) → has_interface rules one a ≡ true → has_interface rules one b ≡ true → Each (λ (rule : Rule). takes_interface rule.iif a ≡ takes_interface rule.iif b) rules
same_interfaces rules (Named name) a b h k =
    let e : a ≡ b = sym ((bytes_eq-Decides name a).0 h) ∙ (bytes_eq-Decides name b).0 k in
    each_of (λ (rule : Rule). takes_interface rule.iif a ≡ takes_interface rule.iif b) rules (λ rule. ap (takes_interface rule.iif) e)
same_interfaces rules AllOthers a b h k =
    each_both (λ (rule : Rule). names a rule ≡ false) (λ (rule : Rule). names b rule ≡ false) (λ (rule : Rule). takes_interface rule.iif a ≡ takes_interface rule.iif b)
    (λ rule out out_b. unnamed_by rule.iif a b out out_b) rules (each_fails (names a) rules (not_true (is_named rules a) h)) (each_fails (names b) rules (not_true (is_named rules b) k))

same_marks : (rules : List Rule) (block : Mark) (m n : ℕ) → IsMarkBlock rules block → m < 2 ^ 32 → n < 2 ^ 32 → takes_mark (Some block) m ≡ true → takes_mark (Some block) n ≡ true →
    Each (λ (rule : Rule). takes_mark rule.mark m ≡ takes_mark rule.mark n) rules
same_marks rules block m n is fits fits_n h k =
    each_both (λ (rule : Rule). takes_mark rule.mark m ≡ takes_mark rule.mark block.mark) (λ (rule : Rule). takes_mark rule.mark n ≡ takes_mark rule.mark block.mark) (λ (rule : Rule). takes_mark rule.mark m ≡ takes_mark rule.mark n)
    (λ rule e f. e ∙ sym f) rules (is.1 m fits h) (is.1 n fits_n k)

alike_in : (rules : List Rule) (first last : ℕ) (one : Interfaces) (block : Mark) → IsRange rules first last → IsMarkBlock rules block → IsAlike rules (box_of first last one block)
alike_in rules first last one block range of_block packet other is is_other h k =
    let outer = both_true (is_between first last packet.src.0 && has_interface rules one packet.iif) (takes_mark (Some block) packet.mark) h in
    let inner = both_true (is_between first last packet.src.0) (has_interface rules one packet.iif) outer.0 in
    let outer_k = both_true (is_between first last other.src.0 && has_interface rules one other.iif) (takes_mark (Some block) other.mark) k in
    let inner_k = both_true (is_between first last other.src.0) (has_interface rules one other.iif) outer_k.0 in
    let sources = same_sources rules first last packet.src.0 other.src.0 range inner.0 inner_k.0 in
    let iifs = same_interfaces rules one packet.iif other.iif inner.1 inner_k.1 in
    let marks = same_marks rules block packet.mark other.mark of_block is.mark is_other.mark outer.1 outer_k.1 in
    λ addr.
    each_both
    (λ (rule : Rule). (contains rule.from packet.src ≡ contains rule.from other.src) × (takes_interface rule.iif packet.iif ≡ takes_interface rule.iif other.iif))
    (λ (rule : Rule). takes_mark rule.mark packet.mark ≡ takes_mark rule.mark other.mark)
    (λ (rule : Rule). matches rule (to packet addr) ≡ matches rule (to other addr))
    (λ rule e f. same_matches rule (to packet addr) (to other addr) e.0 refl e.1 f)
    rules
    (each_both (λ (rule : Rule). contains rule.from packet.src ≡ contains rule.from other.src) (λ (rule : Rule). takes_interface rule.iif packet.iif ≡ takes_interface rule.iif other.iif)
    (λ (rule : Rule). (contains rule.from packet.src ≡ contains rule.from other.src) × (takes_interface rule.iif packet.iif ≡ takes_interface rule.iif other.iif)) (λ rule e f. (e, f)) rules sources iifs)
    marks

each_flat : {X Y : Type 0} (P : Y → Type 0) (f : X → List Y) (xs : List X) → ((x : X) → Each P (f x)) → Each P (flat_map f xs)
each_flat P f [] h = tt
each_flat P f (x ∷ xs) h = each_append P (f x) (flat_map f xs) (h x) (each_flat P f xs h)

each_map : {X Y : Type 0} (Q : X → Type 0) (P : Y → Type 0) (f : X → Y) → ((x : X) → Q x → P (f x)) → (xs : List X) → Each Q xs → Each P (map f xs)
each_map Q P f gives [] h = tt
each_map Q P f gives (x ∷ xs) h = (gives x h.0, each_map Q P f gives xs h.1)

abbrev Good : List Rule → PacketBox → Type 0
Good rules box = IsAlike rules box × IsBox box

module _ (rules : List Rule) (interfaces : List Interfaces) (blocks : List Mark) (marks : Each (IsMarkBlock rules) blocks) where
  good_between : (first last : ℕ) → IsRange rules first last → Each (Good rules) (boxes_between first last interfaces blocks)
  good_between first last range =
      each_flat (Good rules) (λ one. map (box_of first last one) blocks) interfaces
      (λ one. each_map (IsMarkBlock rules) (Good rules) (box_of first last one)
      (λ block of_block. (alike_in rules first last one block range of_block, record { some = range.some; last = range.fits; mark = of_block.0 })) blocks marks)

  range_of : (c : ℕ) (cs : List ℕ) → Rises (c ∷ cs) → Each (λ n. n < 2 ^ 32) (c ∷ cs) → AreMet (from_cuts rules) (c ∷ cs) → IsRange rules c (last_before cs)
  range_of c [] rise fit met =
      let fits : c < 2 ^ 32 = fit.0 in
      record {
        some = omega arith;
        fits = lit< tt;
        uncut = each_implies (λ cut. Each (λ d. cut < d) (c ∷ []) ⊎ IsIn cut (c ∷ [])) (λ cut. (cut ≤ c) ⊎ (4294967295 < cut)) (λ cut m. uncut_by c [] 4294967295 cut (omega arith) tt m) (from_cuts rules) met;
      }
  range_of c (d ∷ ds) rise fit met =
      let less : c < d = rise.0.0 in
      let fits : d < 2 ^ 32 = fit.1.0 in
      let above : Each (λ e. (d - 1) < e) (d ∷ ds) = (omega arith, each_implies (λ e. d < e) (λ e. (d - 1) < e) (λ e h. omega arith) ds rise.1.0) in
      record {
        some = omega arith;
        fits = omega arith;
        uncut = each_implies (λ cut. Each (λ e. cut < e) (c ∷ d ∷ ds) ⊎ IsIn cut (c ∷ d ∷ ds)) (λ cut. (cut ≤ c) ⊎ ((d - 1) < cut)) (λ cut m. uncut_by c (d ∷ ds) (d - 1) cut (omega arith) above m) (from_cuts rules) met;
      }

  good_from : (starts : List ℕ) → Rises starts → Each (λ n. n < 2 ^ 32) starts → AreMet (from_cuts rules) starts → Each (Good rules) (boxes_from starts interfaces blocks)
  good_from [] rise fit met = tt
  good_from (c ∷ cs) rise fit met =
      each_append (Good rules) (boxes_between c (last_before cs) interfaces blocks) (boxes_from cs interfaces blocks)
      (good_between c (last_before cs) (range_of c cs rise fit met))
      (good_from cs rise.1 fit.1
      (each_implies (λ cut. Each (λ d. cut < d) (c ∷ cs) ⊎ IsIn cut (c ∷ cs)) (λ cut. Each (λ d. cut < d) cs ⊎ IsIn cut cs) (λ cut m. met_later c cs cut rise.0 m) (from_cuts rules) met))

pub all_boxes : (rules : List Rule) (starts : List ℕ) (known : List Word) (blocks : List Mark) → AreStarts (from_cuts rules) starts → AreNames rules known → AreMarkBlocks rules blocks →
    AreBoxes rules (boxes_from starts (all_interfaces known) blocks)
all_boxes rules starts known blocks are names_are marks =
    let rise : Rises starts = rises starts are.rise in
    let among : Each (λ cut. IsIn cut starts) (from_cuts rules) = each_moved (from_cuts rules) starts are.all in
    let met : AreMet (from_cuts rules) starts = each_implies (λ cut. IsIn cut starts) (λ cut. Each (λ d. cut < d) starts ⊎ IsIn cut starts) (λ cut h. inr h) (from_cuts rules) among in
    let boxes : List PacketBox = boxes_from starts (all_interfaces known) blocks in
    let good : Each (Good rules) boxes = good_from rules (all_interfaces known) blocks marks.alike starts rise (recursion_from_All (λ n. n < 2 ^ 32) starts are.fit) met in
    record {
      once = λ packet is. once_from rules known blocks names_are marks starts packet is rise (contains_in 0 starts are.zero);
      alike = each_implies (Good rules) (IsAlike rules) (λ box h. h.0) boxes good;
      each = each_implies (Good rules) IsBox (λ box h. h.1) boxes good;
    }

-- ---- a packet of each box

one_inside : (rules : List Rule) (fresh : Word) (one : Interfaces) → is_named rules fresh ≡ false → has_interface rules one (one_of fresh one) ≡ true
one_inside rules fresh (Named name) unnamed = (bytes_eq-Decides name name).1 refl
one_inside rules fresh AllOthers unnamed = ap not unnamed

pub packet_inside : (rules : List Rule) (fresh : Word) (box : PacketBox) → is_named rules fresh ≡ false → IsBox box → has_packet rules (packet_of fresh box) box ≡ true
packet_inside rules fresh box unnamed is =
    let low : leb box.first.0 box.first.0 ≡ true = le-leb box.first.0 box.first.0 (omega arith) in
    let high : leb box.first.0 box.last.0 ≡ true = le-leb box.first.0 box.last.0 is.some in
    let iif : has_interface rules box.interfaces (one_of fresh box.interfaces) ≡ true = one_inside rules fresh box.interfaces unnamed in
    let mark : takes_mark (Some box.mark) box.mark.mark ≡ true = takes_itself box.mark in
    ap (λ t. t && leb box.first.0 box.last.0 && has_interface rules box.interfaces (one_of fresh box.interfaces) && takes_mark (Some box.mark) box.mark.mark) low
    ∙ ap (λ t. t && has_interface rules box.interfaces (one_of fresh box.interfaces) && takes_mark (Some box.mark) box.mark.mark) high
    ∙ ap (λ t. t && takes_mark (Some box.mark) box.mark.mark) iif
    ∙ mark

pub all_classes : (rules : List Rule) (boxes : List PacketBox) (fresh : Word) → AreBoxes rules boxes → is_named rules fresh ≡ false → AreClasses rules (map (packet_of fresh) boxes)
all_classes rules boxes fresh are unnamed packet is =
    let found = any_found (has_packet rules packet) boxes (any_counted (has_packet rules packet) boxes (are.once packet is)) in
    let box : PacketBox = found.0 in
    let is_box : IsBox box = each_in IsBox box boxes are.each found.1 in
    let first : box.first.0 ≤ box.last.0 = is_box.some in
    let last : box.last.0 < 2 ^ 32 = is_box.last in
    let class : Packet = packet_of fresh box in
    let class_is : IsPacket class = record { dst = lit< tt; src = omega arith; mark = is_box.mark } in (
      class,
      in_contains class (map (packet_of fresh) boxes) (in_map (packet_of fresh) box boxes found.1),
      each_in (IsAlike rules) box boxes are.alike found.1 packet class is class_is found.2 (packet_inside rules fresh box unnamed is_box),
    )

-- ---- answers

-- packets of a box, with no cut between their destinations
pub box_goes_alike : (state : State) (boxes : List PacketBox) → AreBoxes state.rules boxes →
    Each (λ box. (packet other : Packet) → IsPacket packet → IsPacket other → has_packet state.rules packet box ≡ true → has_packet state.rules other box ≡ true →
    packet.dst.0 ≤ other.dst.0 → HasNoCut (destination_cuts state) packet.dst.0 other.dst.0 → select state packet ≡ select state other) boxes
box_goes_alike state boxes are =
    each_implies (IsAlike state.rules)
    (λ box. (packet other : Packet) → IsPacket packet → IsPacket other → has_packet state.rules packet box ≡ true → has_packet state.rules other box ≡ true →
    packet.dst.0 ≤ other.dst.0 → HasNoCut (destination_cuts state) packet.dst.0 other.dst.0 → select state packet ≡ select state other)
    (λ box alike packet other is is_other h k le none.
    same_by_destination state packet packet.dst.0 other.dst.0 le is_other.dst none
    ∙ same_select state (to packet other.dst.0) other (record { rules = alike packet other is is_other h k other.dst.0; routes = each_refl state.routes (to packet other.dst.0) }))
    boxes are.alike

-- ---- how many there are

with_name_by : (known : List Word) (name : Word) (b : Bool) → length (cond b known (known ++ name ∷ [])) ≤ length known + 1
with_name_by known name true = omega arith
with_name_by known name false = omega (arith, length-append known (name ∷ []))

pub one_name_more : (known : List Word) (o : Option Word) → length (with_name known o) ≤ length known + 1
one_name_more known None = omega arith
one_name_more known (Some name) = with_name_by known name (list_any (bytes_eq name) known)

cuts_by : (block : Block) (b : Bool) → length ((masked block).bits ∷ option_to_list (cond b (Some (end block)) None)) ≤ 2
cuts_by block true = omega arith
cuts_by block false = omega arith

pub few_cuts : (rules : List Rule) → length (from_cuts rules) ≤ 2 * length rules
few_cuts [] = omega arith
few_cuts (rule ∷ rules) =
    let here : length (cuts_of rule.from) ≤ 2 = cuts_by rule.from (nat_lt (end rule.from) 4294967296) in
    let rest : length (from_cuts rules) ≤ 2 * length rules = few_cuts rules in
    let both : length (cuts_of rule.from ++ from_cuts rules) ≡ length (cuts_of rule.from) + length (from_cuts rules) = length-append (cuts_of rule.from) (from_cuts rules) in
    omega arith

-- numbers in order, which are the cuts of the sources and 0
pub source_starts : (rules : List Rule) (starts : List ℕ) → IsStrictlyIncreasing starts → All (λ n. n < 2 ^ 32) starts →
    ((n : ℕ) → Contains (from_cuts rules ++ 0 ∷ []) n → Contains starts n) → ((n : ℕ) → Contains starts n → Contains (from_cuts rules ++ 0 ∷ []) n) → AreSourceStarts rules starts
source_starts rules starts rise fit keeps only = record {
  are = record { rise = rise; fit = fit; zero = keeps 0 (Contains-push (from_cuts rules) 0); all = λ cut h. keeps cut (Contains-append_left (from_cuts rules) (0 ∷ []) cut h) };
  only = λ start h. ⊎_elim inr (λ e. inl (sym e)) (Contains-push_cases (from_cuts rules) 0 start (only start h));
}

pub count_interfaces : (interfaces : List Interfaces) (known : List Word) → interfaces ≡ all_interfaces known → length interfaces ≡ length known + 1
count_interfaces interfaces known are = let e : length interfaces ≡ length (all_interfaces known) = ap length are in let m : length (map Named known) ≡ length known = length-map known Named in omega arith
