-- Packets that break a claim, and those that don't.
use Rattle.std.proofs.Common.{◌≡◌, ℕ, ◌+◌, ◌-◌, ◌/◌, ◌^◌, ◌<◌, ◌≤◌, Bool, true, false, not, ◌&&◌, List, [], ◌∷◌, ◌++◌, length, get_or, drop, Option, Some, None, refl, sym, ap, ◌∙◌, subst, arith, eq-eqb, leb}
use Rattle.std.specs.Option.{option_to_list}
use Rattle.std.specs.Prelude.{map, option_map}
use Rattle.std.specs.List.{AllByRecursion as Each}
use Rattle.std.proofs.lemmas.Bool.{leb-false, leb-true}
use Rattle.std.proofs.lemmas.List.{drop_more, get_or_default}
use Rattle.prt_addr.specs.Block.{Block}
use Rattle.prt_addr.specs.Prefix.{contains, masked}
use Rattle.prt_addr.specs.Sound.{IsPrefix}
use Rattle.prt_rule.specs.Rule.{matches, takes_interface, takes_mark}
use Rattle.prt_rule.specs.declared.packet.Packet.{Packet}
use Rattle.prt_rule.specs.declared.rule.Mark.{Mark}
use Rattle.prt_rule.specs.declared.rule.Rule.{Rule}
use Rattle.prt_version.specs.Select.{select}
use Rattle.prt_version.specs.State.{State}
use Rattle.prt_version.specs.declared.answer.Verdict.{Verdict}
use Rattle.prt_partition.specs.Classes.{AreClasses}
use Rattle.prt_partition.specs.Cuts.{to}
use Rattle.prt_partition.specs.Spans.{AreSpans, last_from}
use Rattle.prt_partition.specs.declared.destinations.Span.{Span}
use Rattle.prt_partition.proofs.Alike.{same_select}
use Rattle.prt_partition.proofs.Between.{each_left, each_refl, each_right, from_cuts, within_cuts}
use Rattle.prt_partition.proofs.Starts.{each_in}
use Rattle.prt_analyses.specs.Claims.{IsBreach, IsBreachAmong, IsBreachOf, avoids_mark, block_of, is_breach, is_met, rule_of, rules_of, selects, takes}
use Rattle.prt_analyses.specs.declared.claims.claim.Claim.{Claim}
use Rattle.prt_analyses.specs.declared.claims.selector.PacketSelector.{PacketSelector}
use Rattle.prt_analyses.proofs.Spans.{among, same_last, sides}

-- ---- one packet

split : (a b : Bool) → a && not b ≡ true → (a ≡ true) × (b ≡ false)
split true false h = (refl, refl)
split true true h = absurd cc
split false b h = absurd cc

-- a packet that breaks a claim is taken, and doesn't meet it
pub parts_of : (state : State) (claim : Claim) (packet : Packet) → is_breach state claim packet ≡ true → (takes claim packet ≡ true) × (is_met claim (select state packet) ≡ false)
parts_of state claim packet h = split (takes claim packet) (is_met claim (select state packet)) h

unbroken : (a b : Bool) → a && not b ≡ false → a ≡ true → b ≡ true
unbroken true true h t = refl
unbroken true false h t = absurd cc
unbroken false b h t = absurd cc

-- a packet that doesn't break it meets it if it is taken
met_by : (state : State) (claim : Claim) (packet : Packet) → is_breach state claim packet ≡ false → takes claim packet ≡ true → is_met claim (select state packet) ≡ true
met_by state claim packet h t = unbroken (takes claim packet) (is_met claim (select state packet)) h t

moved_by : (a b c d n e : Bool) → a && b && c && d && n ≡ true → e ≡ true → a && e && c && d && n ≡ true
moved_by true true true true true true h k = refl
moved_by true true true true true false h k = absurd cc
moved_by true true true true false e h k = absurd cc
moved_by true true true false n e h k = absurd cc
moved_by true true false d n e h k = absurd cc
moved_by true false c d n e h k = absurd cc
moved_by false b c d n e h k = absurd cc

abbrev block : Claim → Block
block claim = block_of claim.selector.to

-- a packet to another destination of the claim is taken too
moved : (claim : Claim) (class : Packet) (a b : ℕ) → contains (block claim) (record { 0 = b }) ≡ true → takes claim (to class a) ≡ true → takes claim (to class b) ≡ true
moved claim class a b inside h =
    moved_by (contains (block_of claim.selector.from) class.src) (contains (block claim) (record { 0 = a })) (takes_interface claim.selector.iif class.iif) (takes_mark claim.selector.mark class.mark) (avoids_mark claim.selector.not_mark class.mark) (contains (block claim) (record { 0 = b })) h inside

second : (a b c d n : Bool) → a && b && c && d && n ≡ true → b ≡ true
second true true c d n h = refl
second true false c d n h = absurd cc
second false b c d n h = absurd cc

inside_of : (claim : Claim) (class : Packet) (a : ℕ) → takes claim (to class a) ≡ true → contains (block claim) (record { 0 = a }) ≡ true
inside_of claim class a h = second (contains (block_of claim.selector.from) class.src) (contains (block claim) (record { 0 = a })) (takes_interface claim.selector.iif class.iif) (takes_mark claim.selector.mark class.mark) (avoids_mark claim.selector.not_mark class.mark) h

-- ---- destinations

-- a prefix has its first address
has_first : (b : Block) → contains b (record { 0 = b.bits }) ≡ true
has_first b = eq-eqb (b.bits / 2 ^ (32 - b.len)) (b.bits / 2 ^ (32 - b.len)) refl

first_is : (b : Block) → IsPrefix b → (masked b).bits ≡ b.bits
first_is b is = omega (arith, is.clear)

-- and no address before that
not_before : (b : Block) (a : ℕ) → IsPrefix b → contains b (record { 0 = a }) ≡ true → b.bits ≤ a
not_before b a is h = let w = within_cuts b a h in let e = first_is b is in omega arith

-- what comes before one of its addresses, and isn't one, comes before the first
before_first : (b : Block) (m n : ℕ) → IsPrefix b → m ≤ n → contains b (record { 0 = n }) ≡ true → contains b (record { 0 = m }) ≡ false → m ≤ b.bits
before_first b m n is le h none =
    let w = within_cuts b n h in
    let e = first_is b is in
    sides (leb b.bits m)
    (λ t.
    let from : b.bits ≤ m = leb-true b.bits m t in
    let f : contains b (record { 0 = m }) ≡ true = from_cuts b m (omega arith) (omega arith) in
    absurd cc)
    (λ f. let lt = leb-false b.bits m f in omega arith)

-- ---- the packets of a class

module _ (state : State) (claim : Claim) (class : Packet) where
  -- the claim doesn't take one of its first destinations: it takes none
  pub none_taken : takes claim (to class (block claim).bits) ≡ false → IsBreachOf state claim class None
  none_taken h addr fits taken = let t = moved claim class addr (block claim).bits (has_first (block claim)) taken in absurd cc

  -- the verdict of the last span, as the version gives it
  told : (x : Span) (o : Option Span) (v : Verdict) → o ≡ Some x → option_map (λ (span : Span). span.verdict) o ≡ Some v → x.verdict ≡ v
  told x None v is h = absurd cc
  told x (Some y) v is h = cc

  -- a destination of the claim, looked at, that isn't before the span and not after the other one
  same_there : (spans : List Span) → AreSpans state class spans → (x : Span) (m addr : ℕ) → addr < 2 ^ 32 → m ≤ addr → x.first.0 ≤ m → last_from (λ (span : Span). span.first.0) spans addr ≡ Some x →
      select state (to class m) ≡ select state (to class addr)
  same_there spans are x m addr fits le from last =
      let there : last_from (λ (span : Span). span.first.0) spans m ≡ Some x = same_last (λ (span : Span). span.first.0) x spans m addr le from last in
      sym (told x (last_from (λ (span : Span). span.first.0) spans m) (select state (to class m)) there (are.tell m (omega arith)))
      ∙ told x (last_from (λ (span : Span). span.first.0) spans addr) (select state (to class addr)) last (are.tell addr fits)

  meets : (spans : List Span) → AreSpans state class spans → (x : Span) (m addr : ℕ) → addr < 2 ^ 32 → m ≤ addr → x.first.0 ≤ m → last_from (λ (span : Span). span.first.0) spans addr ≡ Some x →
      contains (block claim) (record { 0 = m }) ≡ true → is_breach state claim (to class m) ≡ false → takes claim (to class addr) ≡ true → is_met claim (select state (to class addr)) ≡ true
  meets spans are x m addr fits le from last inside h taken =
      ap (is_met claim) (sym (same_there spans are x m addr fits le from last)) ∙ met_by state claim (to class m) h (moved claim class addr m inside taken)

  abbrev Holds : Span → Type 0
  Holds span = is_breach state claim (to class span.first.0) ≡ false

  by_last : (spans : List Span) → AreSpans state class spans → IsPrefix (block claim) → is_breach state claim (to class (block claim).bits) ≡ false → Each Holds spans → (o : Option Span) (addr : ℕ) → addr < 2 ^ 32 →
      last_from (λ (span : Span). span.first.0) spans addr ≡ o → takes claim (to class addr) ≡ true → is_met claim (select state (to class addr)) ≡ true
  by_last spans are is lowest each None addr fits last taken =
      let f : None ≡ Some (select state (to class addr)) = sym (ap (option_map (λ (span : Span). span.verdict)) last) ∙ are.tell addr fits in absurd cc
  by_last spans are is lowest each (Some x) addr fits last taken =
      let found = among (λ (span : Span). span.first.0) x spans addr last in
      let here = inside_of claim class addr taken in
      sides (contains (block claim) (record { 0 = x.first.0 }))
      (λ t. meets spans are x x.first.0 addr fits found.1 (omega arith) last t (each_in Holds x spans each found.0) taken)
      (λ f.
      let below : x.first.0 ≤ (block claim).bits = before_first (block claim) x.first.0 addr is found.1 here f in
      meets spans are x (block claim).bits addr fits (not_before (block claim) addr is here) below last (has_first (block claim)) lowest taken)

  -- what holds of the first destinations of its spans, and of the first destination of the claim, holds of all destinations
  pub of_spans : (spans : List Span) → AreSpans state class spans → IsPrefix (block claim) → is_breach state claim (to class (block claim).bits) ≡ false → (o : Option Packet) → IsBreachAmong state claim class spans o → IsBreachOf state claim class o
  of_spans spans are is lowest None each = λ addr fits taken. by_last spans are is lowest each (last_from (λ (span : Span). span.first.0) spans addr) addr fits refl taken
  of_spans spans are is lowest (Some packet) found = found

-- what holds of an element and of those after it
pub one_more : {X : Type 0} (P : X → Type 0) (xs : List X) (i : ℕ) (x : X) → i < length xs → x ≡ get_or xs i x → P x → Each P (drop (i + 1) xs) → Each P (drop i xs)
one_more P xs i x inside is here later = subst (Each P) (sym (drop_more xs i x inside)) (subst P is here, later)

-- ---- all packets

bools : (g m e h k f : Bool) → g && m ≡ h && k → g && e ≡ h && f → (g && m) && not e ≡ true → (h && k) && not f ≡ true
bools true true false true true false a b s = refl
bools true true false true true true a b s = absurd cc
bools true true false true false f a b s = absurd cc
bools true true false false k f a b s = absurd cc
bools true true true h k f a b s = absurd cc
bools true false e h k f a b s = absurd cc
bools false m e h k f a b s = absurd cc

-- all but the mark
abbrev selects_apart : PacketSelector → Packet → Bool
selects_apart selector packet = contains (block_of selector.from) packet.src && contains (block_of selector.to) packet.dst && takes_interface selector.iif packet.iif

selected_by : (selector : PacketSelector) (o : Option Mark) (packet other : Packet) → matches (rule_of selector selector.mark) packet ≡ matches (rule_of selector selector.mark) other →
    Each (λ (r : Rule). matches r packet ≡ matches r other) (map (λ mark. rule_of selector (Some mark)) (option_to_list o)) →
    matches (rule_of selector selector.mark) packet && avoids_mark o packet.mark ≡ true → matches (rule_of selector selector.mark) other && avoids_mark o other.mark ≡ true
selected_by selector None packet other own others h = subst (λ b. b && true ≡ true) own h
selected_by selector (Some mark) packet other own others h =
    bools (selects_apart selector packet) (takes_mark selector.mark packet.mark) (takes_mark (Some mark) packet.mark) (selects_apart selector other) (takes_mark selector.mark other.mark) (takes_mark (Some mark) other.mark) own others.0 h

-- packets that the rules of a selector take alike are selected alike
same_selected : (selector : PacketSelector) (packet other : Packet) → Each (λ (r : Rule). matches r packet ≡ matches r other) (rules_of selector) → selects selector packet ≡ true → selects selector other ≡ true
same_selected selector packet other alike h = selected_by selector selector.not_mark packet other alike.0 alike.1 h

-- if no class has a packet that breaks the claim, there is none
pub all_meet : (state : State) (claim : Claim) (classes : List Packet) → AreClasses (state.rules ++ rules_of claim.selector) classes →
    ((k : ℕ) → k < length classes → (d : Packet) → IsBreachOf state claim (get_or classes k d) None) → IsBreach state claim None
all_meet state claim classes are none packet is taken =
    let found = are packet is in
    let class : Packet = found.0 in
    let addr : ℕ = packet.dst.0 in
    let place = found.1 in
    let more : List Rule = rules_of claim.selector in
    let alike : Each (λ (r : Rule). matches r (to packet addr) ≡ matches r (to class addr)) (state.rules ++ more) = found.2 addr in
    let own : takes claim (to class addr) ≡ true =
    same_selected claim.selector (to packet addr) (to class addr) (each_right (λ (r : Rule). matches r (to packet addr) ≡ matches r (to class addr)) state.rules more alike) taken in
    let way : select state (to packet addr) ≡ select state (to class addr) =
    same_select state (to packet addr) (to class addr) (record { rules = each_left (λ (r : Rule). matches r (to packet addr) ≡ matches r (to class addr)) state.rules more alike; routes = each_refl state.routes (to packet addr) }) in
    let meets : takes claim (to class addr) ≡ true → is_met claim (select state (to class addr)) ≡ true =
    subst (λ (c : Packet). takes claim (to c addr) ≡ true → is_met claim (select state (to c addr)) ≡ true) place.2 (none place.0 place.1 class addr is.dst) in
    ap (is_met claim) way ∙ meets own

-- the class at a place
pub at_class : (state : State) (claim : Claim) (classes : List Packet) (i : ℕ) (class : Packet) → i < length classes → class ≡ get_or classes i class → IsBreachOf state claim class None → (d : Packet) → IsBreachOf state claim (get_or classes i d) None
at_class state claim classes i class inside is none d = subst (λ c. IsBreachOf state claim c None) (is ∙ get_or_default classes i class d inside) none
