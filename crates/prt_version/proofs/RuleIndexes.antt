-- The lists of rules that an index returns for a packet, and the rules that it leaves out.
use Rattle.std.proofs.Common.{◌≡◌, ◌⊎◌, inl, inr, ℕ, zero, suc, ◌+◌, ◌-◌, ◌*◌, ◌/◌, ◌%◌, ◌^◌, ◌<◌, ◌≤◌, Bool, true, false, not, ◌&&◌, eqb, ltb, List, [], ◌∷◌, length, get_or, drop, drop-cons, add-one, Option, Some, None, refl, sym, ap, ◌∙◌, subst, arith, cond, ⊎_elim}
use Rattle.std.specs.List.{Contains}
use Rattle.std.proofs.Math.ListN.{set}
use Rattle.std.specs.Prelude.{bit_and, bit_xor, bytes_eq}
use Rattle.std.specs.Int.Bits.{xor_add_and}
use Rattle.std.proofs.Math.Nat.{div-div-eq-div-mul, mod-mod}
use Rattle.std.proofs.lemmas.Bool.{cases_Bool, cases_eq, cases_lt, eqb-true}
use Rattle.std.proofs.lemmas.Bool.Decides.{nat_tests}
use Rattle.std.proofs.lemmas.Nat.{and_le_l, and_le_r, and_mask, and_mod, pow-add, xor_mod}
use Rattle.std.proofs.lemmas.Slice.Eq.{bytes_eq-Decides}
use Rattle.std.proofs.lemmas.List.{drop_all, get_or_default, get_or-set_other, get_or-set_same, length-set}
use Rattle.prt_addr.specs.Block.{Block}
use Rattle.prt_addr.specs.Prefix.{contains}
use Rattle.prt_addr.specs.Sound.{IsPrefix}
use Rattle.prt_addr.specs.Word.{Word}
use Rattle.prt_route.specs.declared.route.Route.{Route}
use Rattle.prt_rule.specs.Rule.{matches, selects, takes_interface, takes_mark}
use Rattle.prt_rule.specs.declared.packet.Packet.{Packet}
use Rattle.prt_rule.specs.declared.rule.Mark.{Mark}
use Rattle.prt_rule.specs.declared.rule.Rule.{Rule}
use Rattle.prt_version.specs.RuleIndex.{AreLinked, IsNext, list_at, list_beside, list_in, list_marked, list_named, list_of, lists_for, name_number}
use Rattle.prt_version.specs.Select.{decision}
use Rattle.prt_version.specs.Steps.{IsFirst, IsSilent, first_verdict}
use Rattle.prt_version.specs.declared.answer.Verdict.{Verdict}
use Rattle.prt_version.specs.declared.answer.Verdict.TheVariants.{NoRoute}
use Rattle.prt_version.proofs.Verdicts.{by}

-- ---- the list of a rule, and those of a packet that it matches

-- addresses with the same first bits have fewer first bits the same too
coarser : (k m a b : ℕ) → k ≤ m → a / 2 ^ k ≡ b / 2 ^ k → a / 2 ^ m ≡ b / 2 ^ m
coarser k m a b le same =
    let whole : k + (m - k) ≡ m = omega arith in
    let split : (n : ℕ) → n / 2 ^ m ≡ n / 2 ^ k / 2 ^ (m - k) = λ n. ap (λ e. n / 2 ^ e) (sym whole) ∙ ap (λ p. n / p) (pow-add 2 k (m - k)) ∙ sym (div-div-eq-div-mul n (2 ^ k) (2 ^ (m - k))) in
    split a ∙ ap (λ q. q / 2 ^ (m - k)) same ∙ sym (split b)

-- the list of a prefix is that of each address in it, at one of the three levels
record IsInLevel (level addr list : ℕ) : Type 0 where
  is : (list ≡ 0) ⊎ ((list ≡ list_at level 0 addr) ⊎ ((list ≡ list_at (level + 1) 8 addr) ⊎ (list ≡ list_at (level + 2) 16 addr)))

same_list : (level bits a b : ℕ) → a / 2 ^ bits ≡ b / 2 ^ bits → list_at level bits a ≡ list_at level bits b
same_list level bits a b same = ap (λ q. q % 64 + 64 * level + 1) same

in_level_by : (level : ℕ) (block : Block) (addr : ℕ) (a b c : Bool) → ltb block.len 16 ≡ a → ltb block.len 24 ≡ b → ltb block.len 32 ≡ c → IsPrefix block → block.bits / 2 ^ (32 - block.len) ≡ addr / 2 ^ (32 - block.len)
    → IsInLevel level addr (cond a 0 (cond b (list_at (level + 2) 16 block.bits) (cond c (list_at (level + 1) 8 block.bits) (list_at level 0 block.bits))))
in_level_by level block addr true b c is16 is24 is32 p same = record { is = inl refl }
in_level_by level block addr false true c is16 is24 is32 p same =
    let long : 16 ≤ block.len = grind (arith, nat_tests) in
    record { is = inr (inr (inr (same_list (level + 2) 16 block.bits addr (coarser (32 - block.len) 16 block.bits addr (omega arith) same)))) }
in_level_by level block addr false false true is16 is24 is32 p same =
    let long : 24 ≤ block.len = grind (arith, nat_tests) in
    record { is = inr (inr (inl (same_list (level + 1) 8 block.bits addr (coarser (32 - block.len) 8 block.bits addr (omega arith) same)))) }
in_level_by level block addr false false false is16 is24 is32 p same =
    let long : 32 ≤ block.len = grind (arith, nat_tests) in
    record { is = inr (inl (same_list level 0 block.bits addr (coarser (32 - block.len) 0 block.bits addr (omega arith) same))) }

in_level : (level : ℕ) (block : Block) (addr : ℕ) → IsPrefix block → contains block (record { 0 = addr }) ≡ true → IsInLevel level addr (list_in level block)
in_level level block addr p h = in_level_by level block addr (ltb block.len 16) (ltb block.len 24) (ltb block.len 32) refl refl refl p (sym (eqb-true (addr / 2 ^ (32 - block.len)) (block.bits / 2 ^ (32 - block.len)) h))

-- numbers whose difference has none of the last six bits have the same ones
same_mark : (mask mark other : ℕ) → mask % 64 ≡ 63 → bit_and (bit_xor mark other) mask ≡ 0 → mark % 64 ≡ other % 64
same_mark mask mark other whole none =
    let last : bit_and (bit_xor mark other % 2 ^ 6) (mask % 2 ^ 6) ≡ 0 = sym (and_mod (bit_xor mark other) mask 6) ∙ ap (λ n. n % 2 ^ 6) none in
    let kept : bit_xor mark other % 2 ^ 6 % 2 ^ 6 ≡ 0 = sym (and_mask (bit_xor mark other % 2 ^ 6) 6) ∙ ap (bit_and (bit_xor mark other % 2 ^ 6)) (sym whole) ∙ last in
    let apart : bit_xor (mark % 2 ^ 6) (other % 2 ^ 6) ≡ 0 = sym (xor_mod mark other 6) ∙ sym (mod-mod (bit_xor mark other) (2 ^ 6)) ∙ kept in
    omega (arith, xor_add_and (mark % 2 ^ 6) (other % 2 ^ 6), and_le_l (mark % 2 ^ 6) (other % 2 ^ 6), and_le_r (mark % 2 ^ 6) (other % 2 ^ 6), apart)

same_name : (name iif : Word) → bytes_eq name iif ≡ true → name ≡ iif
same_name name iif h = (bytes_eq-Decides name iif).0 h

module _ (packet : Packet) where
  source_told : (list : ℕ) → IsInLevel 0 packet.src.0 list → eqb list 0 ≡ false → Contains (lists_for packet) list
  source_told list found some = elim found.is [
    | inl none ↦ absurd (let e : eqb list 0 ≡ true = grind (arith, nat_tests) in let f : true ≡ false = sym e ∙ some in cc)
    | inr (inl is) ↦ (0, omega arith, sym is)
    | inr (inr (inl is)) ↦ (1, omega arith, sym is)
    | inr (inr (inr is)) ↦ (2, omega arith, sym is)
  ]

  destination_told : (list : ℕ) → IsInLevel 3 packet.dst.0 list → eqb list 0 ≡ false → Contains (lists_for packet) list
  destination_told list found some = elim found.is [
    | inl none ↦ absurd (let e : eqb list 0 ≡ true = grind (arith, nat_tests) in let f : true ≡ false = sym e ∙ some in cc)
    | inr (inl is) ↦ (3, omega arith, sym is)
    | inr (inr (inl is)) ↦ (4, omega arith, sym is)
    | inr (inr (inr is)) ↦ (5, omega arith, sym is)
  ]

  marked_by : (m : Mark) (b : Bool) → eqb (m.mask % 64) 63 ≡ b → takes_mark (Some m) packet.mark ≡ true → Contains (lists_for packet) (cond b (list_marked m.mark) 0)
  marked_by m false is h = (8, omega arith, refl)
  marked_by m true is h =
      let same : m.mark % 64 ≡ packet.mark % 64 = same_mark m.mask m.mark packet.mark (eqb-true (m.mask % 64) 63 is) (eqb-true (bit_and (bit_xor m.mark packet.mark) m.mask) 0 h) in
      (7, omega arith, ap (λ n. n + 449) (sym same))

  beside_told : (iif : Option Word) (mark : Option Mark) → takes_interface iif packet.iif ≡ true → takes_mark mark packet.mark ≡ true → Contains (lists_for packet) (list_beside iif mark)
  beside_told (Some name) mark h k = (6, omega arith, ap list_named (sym (same_name name packet.iif h)))
  beside_told None (Some m) h k = marked_by m (eqb (m.mask % 64) 63) refl k
  beside_told None None h k = (8, omega arith, refl)

  -- the four parts of a selector
  record Selects (a b c d : Bool) : Type 0 where
    from : a ≡ true
    to : b ≡ true
    iif : c ≡ true
    mark : d ≡ true

  four_of : (a b c d : Bool) → (a && b && c && d) ≡ true → Selects a b c d
  four_of true true true true h = record { from = refl; to = refl; iif = refl; mark = refl }
  four_of true true true false h = absurd cc
  four_of true true false d h = absurd cc
  four_of true false c d h = absurd cc
  four_of false b c d h = absurd cc

  module _ (rule : Rule) (plain : rule.inverted ≡ false) (h : matches rule packet ≡ true) where
    all_hold : Selects (contains rule.from packet.src) (contains rule.to packet.dst) (takes_interface rule.iif packet.iif) (takes_mark rule.mark packet.mark)
    all_hold = four_of (contains rule.from packet.src) (contains rule.to packet.dst) (takes_interface rule.iif packet.iif) (takes_mark rule.mark packet.mark) (subst (λ b. cond b (not (selects rule packet)) (selects rule packet) ≡ true) plain h)

    pub told_by_source : IsPrefix rule.from → eqb (list_in 0 rule.from) 0 ≡ false → Contains (lists_for packet) (list_in 0 rule.from)
    told_by_source p some = source_told (list_in 0 rule.from) (in_level 0 rule.from packet.src.0 p all_hold.from) some

    pub told_by_destination : IsPrefix rule.to → eqb (list_in 3 rule.to) 0 ≡ false → Contains (lists_for packet) (list_in 3 rule.to)
    told_by_destination p some = destination_told (list_in 3 rule.to) (in_level 3 rule.to packet.dst.0 p all_hold.to) some

    pub told_beside : Contains (lists_for packet) (list_beside rule.iif rule.mark)
    told_beside = beside_told rule.iif rule.mark all_hold.iif all_hold.mark

  pub told_by_rest : Contains (lists_for packet) 0
  told_by_rest = (8, omega arith, refl)

-- ---- one rule more, in front of those that are linked

module _ (rules : List Rule) where
  pub none_linked : (first next : List ℕ) → length first ≡ 513 → ((list d : ℕ) → list < 513 → get_or first list d ≡ length rules) → length next ≡ length rules → AreLinked rules (length rules) first next
  none_linked first next lists are places = record {
    lists = lists;
    places = places;
    begin = λ list d lt. subst (IsNext rules list (length rules)) (sym (are list d lt)) (record {
      beyond = omega arith;
      within = omega arith;
      is = λ r inside. absurd (omega arith);
      none = λ k r from to same. absurd (omega arith);
    });
    follow = λ k e d from lt. absurd (omega arith);
    told = λ k d packet from lt h. absurd (omega arith);
  }

  module _ (place : ℕ) (rule : Rule) (inside : place < length rules) (is : rule ≡ get_or rules place rule) where
    here : (d : Rule) → get_or rules place d ≡ rule
    here d = get_or_default rules place d rule inside ∙ sym is

    first_itself : IsNext rules (list_of rule) place place
    first_itself = record {
      beyond = omega arith;
      within = omega arith;
      is = λ d lt. ap list_of (here d);
      none = λ k d from to same. absurd (omega arith);
    }

    -- another list begins as it did
    first_other : (list at : ℕ) → (list ≡ list_of rule → ⊥) → IsNext rules list (place + 1) at → IsNext rules list place at
    first_other list at other next = record {
      beyond = omega (arith, next.beyond);
      within = next.within;
      is = next.is;
      none = λ k d from to same. ⊎_elim
          (λ (e : k ≡ place). other (sym same ∙ ap (λ n. list_of (get_or rules n d)) e ∙ ap list_of (here d)))
          (λ (ne : k ≡ place → ⊥). ⊎_elim
          (λ (under : k < place + 1). absurd (ne (omega arith)))
          (λ (from_next : place + 1 ≤ k). next.none k d from_next to same)
          (cases_lt k (place + 1)))
          (cases_eq k place);
    }

    beyond_it : (k : ℕ) → place ≤ k → (k ≡ place → ⊥) → place + 1 ≤ k
    beyond_it k from ne = ⊎_elim (λ (lt : k < place + 1). absurd (ne (omega arith))) (λ (ge : place + 1 ≤ k). ge) (cases_lt k (place + 1))

    pub one_linked : (first next : List ℕ) (old : ℕ) → list_of rule < 513 → old ≡ get_or first (list_of rule) old → ((packet : Packet) → matches rule packet ≡ true → Contains (lists_for packet) (list_of rule)) → AreLinked rules (place + 1) first next → AreLinked rules place (set first (list_of rule) place) (set next place old)
    one_linked first next old few at tells are = record {
      lists = length-set first (list_of rule) place ∙ are.lists;
      places = length-set next place old ∙ are.places;
      begin = λ list d lt. ⊎_elim
          (λ (e : list ≡ list_of rule).
          subst (IsNext rules list place) (sym (ap (λ n. get_or (set first (list_of rule) place) n d) e ∙ get_or-set_same first (list_of rule) place d (omega (arith, are.lists))))
          (subst (λ n. IsNext rules n place place) (sym e) first_itself))
          (λ (ne : list ≡ list_of rule → ⊥).
          subst (IsNext rules list place) (sym (get_or-set_other first (list_of rule) list place d ne)) (first_other list (get_or first list d) ne (are.begin list d lt)))
          (cases_eq list (list_of rule));
      follow = λ k e d from lt. ⊎_elim
          (λ (same : k ≡ place).
          let now : get_or (set next place old) k e ≡ get_or first (list_of rule) old = ap (λ n. get_or (set next place old) n e) same ∙ get_or-set_same next place old e (omega (arith, are.places)) ∙ at in
          let its : list_of (get_or rules k d) ≡ list_of rule = ap (λ n. list_of (get_or rules n d)) same ∙ ap list_of (here d) in
          subst (λ l. IsNext rules l (k + 1) (get_or (set next place old) k e)) (sym its)
          (subst (IsNext rules (list_of rule) (k + 1)) (sym now)
          (subst (λ n. IsNext rules (list_of rule) (n + 1) (get_or first (list_of rule) old)) (sym same) (are.begin (list_of rule) old few))))
          (λ (ne : k ≡ place → ⊥).
          let behind : place + 1 ≤ k = beyond_it k from ne in
          subst (IsNext rules (list_of (get_or rules k d)) (k + 1)) (sym (get_or-set_other next place k old e ne)) (are.follow k e d behind lt))
          (cases_eq k place);
      told = λ k d packet from lt h. ⊎_elim
          (λ (same : k ≡ place).
          let its : get_or rules k d ≡ rule = ap (λ n. get_or rules n d) same ∙ here d in
          subst (λ r. Contains (lists_for packet) (list_of r)) (sym its) (tells packet (subst (λ r. matches r packet ≡ true) its h)))
          (λ (ne : k ≡ place → ⊥). are.told k d packet (beyond_it k from ne) lt h)
          (cases_eq k place);
    }

-- ---- the first of a list that decides

module _ (rules : List Rule) (list : ℕ) (routes : List Route) (packet : Packet) where
  -- none before the next of the list, if the one at the place doesn't decide
  pub silent_next : (place next : ℕ) (rule : Rule) → place < length rules → rule ≡ get_or rules place rule → decision rule routes packet ≡ None → IsNext rules list (place + 1) next → IsSilent rules list place routes packet → IsSilent rules list next routes packet
  silent_next place next rule inside is none follows silent k d lt same =
      ⊎_elim
      (λ (early : k < place). silent k d early same)
      (λ (late : place ≤ k). ⊎_elim
      (λ (e : k ≡ place). ap (λ n. decision (get_or rules n d) routes packet) e ∙ ap (λ r. decision r routes packet) (get_or_default rules place d rule inside ∙ sym is) ∙ none)
      (λ (ne : k ≡ place → ⊥). ⊎_elim
      (λ (under : k < place + 1). absurd (ne (omega arith)))
      (λ (from_next : place + 1 ≤ k). absurd (follows.none k d from_next lt same))
      (cases_lt k (place + 1)))
      (cases_eq k place))
      (cases_lt k place)

  pub silent_first : (first : ℕ) → IsNext rules list 0 first → IsSilent rules list first routes packet
  silent_first first begins k d lt same = absurd (begins.none k d (omega arith) lt same)

  pub silent_to : (before place : ℕ) → before ≤ place → IsSilent rules list place routes packet → IsSilent rules list before routes packet
  silent_to before place le silent k d lt same = silent k d (omega arith) same

  pub first_here : (place before : ℕ) (rule : Rule) (verdict : Verdict) → place < before → place < length rules → rule ≡ get_or rules place rule → decision rule routes packet ≡ Some verdict → IsSilent rules list place routes packet → IsFirst rules list before routes packet place verdict
  first_here place before rule verdict early inside is says silent = record {
    early = early;
    says = λ d. ap (λ r. decision r routes packet) (get_or_default rules place d rule inside ∙ sym is) ∙ says;
    silent = silent;
  }

-- ---- the verdict of all rules

pub verdict_at : (rules : List Rule) (k : ℕ) (routes : List Route) (packet : Packet) (verdict : Verdict) → k < length rules → ((d : Rule) → decision (get_or rules k d) routes packet ≡ Some verdict) → ((j : ℕ) (d : Rule) → j < k → decision (get_or rules j d) routes packet ≡ None) → first_verdict rules routes packet ≡ verdict
verdict_at [] k routes packet verdict lt says silent = absurd (omega arith)
verdict_at (rule ∷ rules) zero routes packet verdict lt says silent = by rule rules routes packet (Some verdict) (says rule)
verdict_at (rule ∷ rules) (suc k) routes packet verdict lt says silent =
    by rule rules routes packet None (silent zero rule (omega arith))
    ∙ verdict_at rules k routes packet verdict (omega arith) says (λ j d early. silent (suc j) d (omega arith))

pub no_verdict : (rules : List Rule) (routes : List Route) (packet : Packet) → ((j : ℕ) (d : Rule) → j < length rules → decision (get_or rules j d) routes packet ≡ None) → first_verdict rules routes packet ≡ NoRoute
no_verdict [] routes packet silent = refl
no_verdict (rule ∷ rules) routes packet silent =
    by rule rules routes packet None (silent zero rule (omega arith))
    ∙ no_verdict rules routes packet (λ j d early. silent (suc j) d (omega arith))

-- what the first lists up to a number have shown: which rule is the first that decides, and what it says
pub record IsBest (rules : List Rule) (lists : List ℕ) (count : ℕ) (routes : List Route) (packet : Packet) (before : ℕ) (verdict : Verdict) : Type 0 where
  pub within : before ≤ length rules
  pub says : ((before ≡ length rules) × (verdict ≡ NoRoute)) ⊎ ((before < length rules) × ((d : Rule) → decision (get_or rules before d) routes packet ≡ Some verdict))
  pub silent : (i d : ℕ) → i < count → i < length lists → IsSilent rules (get_or lists i d) before routes packet

module _ (rules : List Rule) (lists : List ℕ) (routes : List Route) (packet : Packet) where
  pub none_best : IsBest rules lists 0 routes packet (length rules) NoRoute
  none_best = record { within = omega arith; says = inl (refl, refl); silent = λ i d lt. absurd (omega arith) }

  one_more : (count before : ℕ) (list : ℕ) → list ≡ get_or lists count list → IsSilent rules list before routes packet → ((i d : ℕ) → i < count → i < length lists → IsSilent rules (get_or lists i d) before routes packet) → (i d : ℕ) → i < count + 1 → i < length lists → IsSilent rules (get_or lists i d) before routes packet
  one_more count before list is silent others i d lt inside =
      ⊎_elim
      (λ (early : i < count). others i d early inside)
      (λ (late : count ≤ i).
      let at : i ≡ count = omega arith in
      let here : get_or lists i d ≡ list = get_or_default lists i d list inside ∙ ap (λ n. get_or lists n list) at ∙ sym is in
      subst (λ l. IsSilent rules l before routes packet) (sym here) silent)
      (cases_lt i count)

  -- the next list has none before
  pub same_best : (count before list : ℕ) (verdict : Verdict) → list ≡ get_or lists count list → IsSilent rules list before routes packet → IsBest rules lists count routes packet before verdict → IsBest rules lists (count + 1) routes packet before verdict
  same_best count before list verdict is silent best = record {
    within = best.within;
    says = best.says;
    silent = one_more count before list is silent best.silent;
  }

  -- the next list has one before
  pub better : (count before list place : ℕ) (verdict says : Verdict) → list ≡ get_or lists count list → IsFirst rules list before routes packet place says → IsBest rules lists count routes packet before verdict → IsBest rules lists (count + 1) routes packet place says
  better count before list place verdict says is first best = record {
    within = omega (arith, first.early, best.within);
    says = inr (omega (arith, first.early, best.within), first.says);
    silent = one_more count place list is first.silent (λ i d lt inside. silent_to rules (get_or lists i d) routes packet place before (omega (arith, first.early)) (best.silent i d lt inside));
  }

  silent_by : (rule : Rule) → matches rule packet ≡ false → decision rule routes packet ≡ None
  silent_by rule h = rw h refl

  -- a rule in none of the packet's lists doesn't match it
  pub best_decides : (before : ℕ) (verdict : Verdict) → ((k : ℕ) (d : Rule) → k < length rules → matches (get_or rules k d) packet ≡ true → Contains lists (list_of (get_or rules k d))) → IsBest rules lists (length lists) routes packet before verdict → verdict ≡ first_verdict rules routes packet
  best_decides before verdict told best =
      let all_silent : (j : ℕ) (d : Rule) → j < before → decision (get_or rules j d) routes packet ≡ None = λ j d lt.
      ⊎_elim
      (λ (hit : matches (get_or rules j d) packet ≡ true).
      let has : Contains lists (list_of (get_or rules j d)) = told j d (omega (arith, best.within)) hit in
      best.silent has.0 (list_of (get_or rules j d)) has.1 has.1 j d lt (sym has.2))
      (λ (miss : matches (get_or rules j d) packet ≡ false). silent_by (get_or rules j d) miss)
      (cases_Bool (matches (get_or rules j d) packet)) in
      elim best.says [
        | inl none ↦ none.1 ∙ sym (no_verdict rules routes packet (λ j d lt. all_silent j d (omega (arith, none.0))))
        | inr some ↦ sym (verdict_at rules before routes packet verdict some.0 some.1 all_silent)
      ]

-- ---- the number of a name

rest_of : (bytes : List ℕ) (i byte : ℕ) → i < length bytes → byte ≡ get_or bytes i byte → drop i bytes ≡ byte ∷ drop (i + 1) bytes
rest_of bytes i byte inside is = rw add-one (drop-cons bytes i byte inside ∙ ap (λ b. b ∷ drop (suc i) bytes) (sym is))

pub number_more : (number byte i : ℕ) (bytes : List ℕ) → i < length bytes → byte ≡ get_or bytes i byte → name_number number (drop i bytes) ≡ name_number ((number * 31 + byte) % 64) (drop (i + 1) bytes)
number_more number byte i bytes inside is = ap (name_number number) (rest_of bytes i byte inside is)

pub number_is : (number i : ℕ) (bytes : List ℕ) → length bytes ≤ i → name_number number (drop i bytes) ≡ number
number_is number i bytes end = ap (name_number number) (drop_all i bytes end)
