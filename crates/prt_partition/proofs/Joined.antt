-- Classes that every rule takes alike.
use Rattle.std.proofs.Common.{◌≡◌, ℕ, Bool, true, false, not, ◌&&◌, ◌||◌, cond, List, [], ◌∷◌, ◌++◌, refl, sym, ap, ◌∙◌, ⊎_elim, append-nil, arith, length}
use Rattle.std.specs.Prelude.{filter}
use Rattle.std.specs.List.{list_all, list_any, AllByRecursion as Each, IsDistinct}
use Rattle.std.proofs.lemmas.Bool.{cases_Bool}
use Rattle.std.proofs.lemmas.List.Folds.{list_any-append}
use Rattle.prt_addr.specs.Prefix.{contains}
use Rattle.prt_addr.proofs.Each.{each_append, each_filtered, each_implies, left_fail}
use Rattle.prt_rule.specs.Rule.{matches, takes_interface, takes_mark}
use Rattle.prt_rule.specs.Same.{is_same_flag}
use Rattle.prt_rule.specs.declared.packet.Packet.{Packet}
use Rattle.prt_rule.specs.declared.rule.Rule.{Rule}
use Rattle.prt_trie.proofs.Filters.{each_passes}
use Rattle.prt_partition.specs.Classes.{AreClasses, are_alike, joined, takes_apart}
use Rattle.prt_partition.specs.Cuts.{to}
use Rattle.prt_partition.proofs.MarkBlocks.{each_both}
use Rattle.prt_partition.proofs.Starts.{IsIn, any_found, contains_in, in_contains, in_filter}

same_flag : (a b : Bool) → is_same_flag a b ≡ true → a ≡ b
same_flag true true h = refl
same_flag false false h = refl
same_flag true false h = sym h
same_flag false true h = h

flag_itself : (a : Bool) → is_same_flag a a ≡ true
flag_itself true = refl
flag_itself false = refl

both_true : (a b : Bool) → (a && b) ≡ true → (a ≡ true) × (b ≡ true)
both_true true b h = (refl, h)
both_true false b h = absurd cc

each_of_all : (p : Rule → Bool) (rules : List Rule) → list_all p rules ≡ true → Each (λ rule. p rule ≡ true) rules
each_of_all p [] h = tt
each_of_all p (rule ∷ rules) h = let parts : (p rule ≡ true) × (list_all p rules ≡ true) = both_true (p rule) (list_all p rules) h in (parts.0, each_of_all p rules parts.1)

pub reorder : (f t i m : Bool) → (f && t && i && m) ≡ (t && (f && i && m))
reorder true true i m = refl
reorder true false i m = refl
reorder false true i m = refl
reorder false false i m = refl

pub same_but_destination : (rule : Rule) (packet other : Packet) (addr : ℕ) → takes_apart rule packet ≡ takes_apart rule other → matches rule (to packet addr) ≡ matches rule (to other addr)
same_but_destination rule packet other addr e =
    let there : Bool = contains rule.to (record { 0 = addr }) in
    ap (λ b. cond rule.inverted (not b) b)
    (reorder (contains rule.from packet.src) there (takes_interface rule.iif packet.iif) (takes_mark rule.mark packet.mark)
    ∙ ap (λ b. there && b) e
    ∙ sym (reorder (contains rule.from other.src) there (takes_interface rule.iif other.iif) (takes_mark rule.mark other.mark)))

any_left : (a b : Bool) → a ≡ true → (a || b) ≡ true
any_left a b h = rw h refl

any_right : (a b : Bool) → b ≡ true → (a || b) ≡ true
any_right true b h = refl
any_right false b h = h

-- ---- both halves of packets

abbrev taken : Rule → List Packet → List Packet
taken rule packets = filter (takes_apart rule) packets

abbrev left : Rule → List Packet → List Packet
left rule packets = filter (λ packet. not (takes_apart rule packet)) packets

-- what holds of each packet holds of those that are kept
each_joined : (P : Packet → Type 0) (rules : List Rule) (packets : List Packet) → Each P packets → Each P (joined rules packets)
each_joined P [] [] h = tt
each_joined P [] (packet ∷ packets) h = (h.0, tt)
each_joined P (rule ∷ rules) packets h =
    each_append P (joined rules (taken rule packets)) (joined rules (left rule packets))
    (each_joined P rules (taken rule packets) (each_filtered P (takes_apart rule) packets h))
    (each_joined P rules (left rule packets) (each_filtered P (λ packet. not (takes_apart rule packet)) packets h))

pub joined_none : (rules : List Rule) → joined rules [] ≡ []
joined_none [] = refl
joined_none (rule ∷ rules) = rw (joined_none rules) refl

one_by : (rules : List Rule) (packet : Packet) (b : Bool) → joined rules (packet ∷ []) ≡ packet ∷ [] → joined rules (cond b (packet ∷ []) []) ++ joined rules (cond (not b) (packet ∷ []) []) ≡ packet ∷ []
one_by rules packet true h = rw (h, joined_none rules) refl
one_by rules packet false h = rw (h, joined_none rules) refl

-- one packet is kept
pub joined_one : (rules : List Rule) (packet : Packet) → joined rules (packet ∷ []) ≡ packet ∷ []
joined_one [] packet = refl
joined_one (rule ∷ rules) packet = one_by rules packet (takes_apart rule packet) (joined_one rules packet)

-- ---- each packet is like one that is kept

abbrev is_like_one : List Rule → List Packet → Packet → Bool
is_like_one rules packets packet = list_any (λ other. are_alike rules packet other) packets

-- the first rule takes all of them alike
like_same : (rule : Rule) (rules : List Rule) (packet : Packet) (others : List Packet) (b : Bool) → takes_apart rule packet ≡ b → Each (λ other. takes_apart rule other ≡ b) others → is_like_one (rule ∷ rules) others packet ≡ is_like_one rules others packet
like_same rule rules packet [] b e h = refl
like_same rule rules packet (other ∷ others) b e h =
    let flag : is_same_flag (takes_apart rule packet) (takes_apart rule other) ≡ true = ap (λ a. is_same_flag a (takes_apart rule other)) e ∙ ap (λ a. is_same_flag b a) h.0 ∙ flag_itself b in
    ap (λ a. (a && are_alike rules packet other) || is_like_one (rule ∷ rules) others packet) flag
    ∙ ap (λ a. are_alike rules packet other || a) (like_same rule rules packet others b e h.1)

-- the rule takes the packets of one half, and none of the other half
is_taken : (rule : Rule) (rules : List Rule) (packets : List Packet) → Each (λ packet. takes_apart rule packet ≡ true) (joined rules (taken rule packets))
is_taken rule rules packets = each_joined (λ packet. takes_apart rule packet ≡ true) rules (taken rule packets) (each_passes (takes_apart rule) packets)

is_left : (rule : Rule) (rules : List Rule) (packets : List Packet) → Each (λ packet. takes_apart rule packet ≡ false) (joined rules (left rule packets))
is_left rule rules packets = each_joined (λ packet. takes_apart rule packet ≡ false) rules (left rule packets) (left_fail (takes_apart rule) packets)

pub like_one : (rules : List Rule) (packets : List Packet) (packet : Packet) → IsIn packet packets → is_like_one rules (joined rules packets) packet ≡ true
like_one [] [] packet h = absurd h
like_one [] (first ∷ packets) packet h = refl
like_one (rule ∷ rules) packets packet h =
    list_any-append (λ other. are_alike (rule ∷ rules) packet other) (joined rules (taken rule packets)) (joined rules (left rule packets))
    ∙ ⊎_elim
    (λ (e : takes_apart rule packet ≡ true).
    any_left (is_like_one (rule ∷ rules) (joined rules (taken rule packets)) packet) (is_like_one (rule ∷ rules) (joined rules (left rule packets)) packet)
    (like_same rule rules packet (joined rules (taken rule packets)) true e (is_taken rule rules packets)
    ∙ like_one rules (taken rule packets) packet (in_filter (takes_apart rule) packet packets h e)))
    (λ (e : takes_apart rule packet ≡ false).
    any_right (is_like_one (rule ∷ rules) (joined rules (taken rule packets)) packet) (is_like_one (rule ∷ rules) (joined rules (left rule packets)) packet)
    (like_same rule rules packet (joined rules (left rule packets)) false e (is_left rule rules packets)
    ∙ like_one rules (left rule packets) packet (in_filter (λ other. not (takes_apart rule other)) packet packets h (ap not e))))
    (cases_Bool (takes_apart rule packet))

-- ---- no two that are kept are alike

distinct_append : {X : Type 0} (same : X → X → Bool) (xs ys : List X) → IsDistinct same xs → IsDistinct same ys → Each (λ x. Each (λ y. same x y ≡ false) ys) xs → IsDistinct same (xs ++ ys)
unfolding IsDistinct
distinct_append same [] ys h k cross = k
distinct_append same (x ∷ xs) ys h k cross = (each_append (λ y. same x y ≡ false) xs ys h.0 cross.0, distinct_append same xs ys h.1 k cross.1)

never : (b c : Bool) → c ≡ false → (b && c) ≡ false
never true c h = h
never false c h = refl

-- what some rules tell apart, more rules tell apart
distinct_more : (rule : Rule) (rules : List Rule) (packets : List Packet) → IsDistinct (are_alike rules) packets → IsDistinct (are_alike (rule ∷ rules)) packets
unfolding IsDistinct
distinct_more rule rules [] h = tt
distinct_more rule rules (packet ∷ packets) h = (
  each_implies (λ other. are_alike rules packet other ≡ false) (λ other. are_alike (rule ∷ rules) packet other ≡ false)
      (λ other k. never (is_same_flag (takes_apart rule packet) (takes_apart rule other)) (are_alike rules packet other) k) packets h.0,
  distinct_more rule rules packets h.1,
)

told_apart : (rule : Rule) (rules : List Rule) (packet other : Packet) → takes_apart rule packet ≡ true → takes_apart rule other ≡ false → are_alike (rule ∷ rules) packet other ≡ false
told_apart rule rules packet other e f =
    ap (λ a. is_same_flag a (takes_apart rule other) && are_alike rules packet other) e
    ∙ ap (λ a. is_same_flag true a && are_alike rules packet other) f

pub joined_distinct : (rules : List Rule) (packets : List Packet) → IsDistinct (are_alike rules) (joined rules packets)
unfolding IsDistinct
joined_distinct [] [] = tt
joined_distinct [] (packet ∷ packets) = (tt, tt)
joined_distinct (rule ∷ rules) packets =
    distinct_append (are_alike (rule ∷ rules)) (joined rules (taken rule packets)) (joined rules (left rule packets))
    (distinct_more rule rules (joined rules (taken rule packets)) (joined_distinct rules (taken rule packets)))
    (distinct_more rule rules (joined rules (left rule packets)) (joined_distinct rules (left rule packets)))
    (each_implies (λ packet. takes_apart rule packet ≡ true) (λ packet. Each (λ other. are_alike (rule ∷ rules) packet other ≡ false) (joined rules (left rule packets)))
    (λ packet e. each_implies (λ other. takes_apart rule other ≡ false) (λ other. are_alike (rule ∷ rules) packet other ≡ false) (λ other f. told_apart rule rules packet other e f) (joined rules (left rule packets)) (is_left rule rules packets))
    (joined rules (taken rule packets)) (is_taken rule rules packets))

-- ---- classes

-- those that are kept represent what the classes represent
pub through : (rules : List Rule) (classes : List Packet) → AreClasses rules classes → AreClasses rules (joined rules classes)
through rules classes are packet is =
    let found = are packet is in
    let class : Packet = found.0 in
    let one = any_found (λ other. are_alike rules class other) (joined rules classes) (like_one rules classes class (contains_in class classes found.1)) in
    let other : Packet = one.0 in
    let same : Each (λ rule. is_same_flag (takes_apart rule class) (takes_apart rule other) ≡ true) rules = each_of_all (λ rule. is_same_flag (takes_apart rule class) (takes_apart rule other)) rules one.2 in (
      other,
      in_contains other (joined rules classes) one.1,
      λ addr. each_both (λ rule. matches rule (to packet addr) ≡ matches rule (to class addr)) (λ rule. is_same_flag (takes_apart rule class) (takes_apart rule other) ≡ true) (λ rule. matches rule (to packet addr) ≡ matches rule (to other addr))
          (λ rule h k. h ∙ same_but_destination rule class other addr (same_flag (takes_apart rule class) (takes_apart rule other) k)) rules (found.2 addr) same,
    )

-- ---- as the program appends them

pub appends_none : (old : List Packet) (rules : List Rule) (packets : List Packet) → length packets ≡ 0 → old ≡ old ++ joined rules packets
appends_none old rules [] e = sym (ap (λ ps. old ++ ps) (joined_none rules) ∙ append-nil old)
appends_none old rules (packet ∷ packets) e = absurd (omega arith)

one_kept : (rules : List Rule) (packet : Packet) (others : List Packet) → length others ≡ 0 → joined rules (packet ∷ others) ≡ packet ∷ []
one_kept rules packet [] e = joined_one rules packet
one_kept rules packet (other ∷ others) e = absurd (omega arith)

pub appends_one : (old : List Packet) (rules : List Rule) (packets others : List Packet) (packet : Packet) → packets ≡ packet ∷ others → length others ≡ 0 → old ++ joined rules packets ≡ old ++ packet ∷ []
appends_one old rules packets others packet e none = ap (λ ps. old ++ ps) (ap (joined rules) e ∙ one_kept rules packet others none)
