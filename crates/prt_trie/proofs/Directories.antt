-- What a directory of spans says.
use Rattle.std.proofs.Common.{◌≡◌, ℕ, ◌+◌, ◌*◌, ◌-◌, ◌/◌, ◌<◌, ◌≤◌, ◌^◌, List, [], ◌∷◌, ◌++◌, length, get_or, arith, subst, sym, ⊎_elim}
use Rattle.std.proofs.Math.Nat.{div-mul-le_self}
use Rattle.std.proofs.lemmas.Bool.{cases_lt}
use Rattle.std.proofs.lemmas.List.{get_or_append_left, get_or_push, length_push}
use Rattle.std.proofs.lemmas.Nat.{le-div, pow_pos}
use Rattle.prt_trie.specs.Directory.{AreBefore, AreBounds, IsDirectory, slot_of}
use Rattle.prt_trie.specs.Spans.{AreSpans}
use Rattle.prt_trie.specs.declared.directory.Slots.{Slots}
use Rattle.prt_trie.specs.declared.span.Span.{Span}

div_rises : (m n k : ℕ) → 0 < k → m ≤ n → m / k ≤ n / k
div_rises m n k pos le = let b : m / k * k ≤ m = div-mul-le_self m k in le-div (m / k) n k pos (omega arith)

pub slot_rises : (slots : Slots) (a b : ℕ) → a ≤ b → slot_of slots a ≤ slot_of slots b
slot_rises slots a b le = div_rises (a - slots.base) (b - slots.base) (2 ^ slots.shift) (pow_pos slots.shift) (omega arith)

-- an address in an earlier slot is less
slot_tells : (slots : Slots) (a b : ℕ) → slot_of slots a < slot_of slots b → a < b
slot_tells slots a b lt = ⊎_elim (λ (l : a < b). l) (λ (ge : b ≤ a). let r : slot_of slots b ≤ slot_of slots a = slot_rises slots b a ge in absurd (omega arith)) (cases_lt a b)

-- if one span begins in the slot or behind it, those after it do
pub rest_behind : (spans : List Span) (slots : Slots) (at slot : ℕ) → AreSpans spans → ((d : Span) → at < length spans → slot ≤ slot_of slots (get_or spans at d).first) → (k : ℕ) (d : Span) → at ≤ k → k < length spans → slot ≤ slot_of slots (get_or spans k d).first
rest_behind spans slots at slot are here k d le lt =
    let h : slot ≤ slot_of slots (get_or spans at d).first = here d (omega arith) in
    ⊎_elim
    (λ (after : at < k).
    let r : (get_or spans at d).first < (get_or spans k d).first = are.rise at k d after lt in
    let s : slot_of slots (get_or spans at d).first ≤ slot_of slots (get_or spans k d).first = slot_rises slots (get_or spans at d).first (get_or spans k d).first (omega arith) in
    omega arith)
    (λ (ge : k ≤ at). let e : at ≡ k = omega arith in subst (λ (n : ℕ). slot ≤ slot_of slots (get_or spans n d).first) e h)
    (cases_lt at k)

-- the bounds that a directory returns
pub bounds_from : (spans : List Span) (slots : Slots) (starts : List ℕ) (addr low high : ℕ) → IsDirectory spans slots starts → slot_of slots addr + 1 < length starts →
    low ≡ get_or starts (slot_of slots addr) 0 → high ≡ get_or starts (slot_of slots addr + 1) 0 → AreBounds spans addr low high
bounds_from spans slots starts addr low high is inside at_low at_high =
    let slot : ℕ = slot_of slots addr in
    let d : Span = record { first = 0; row = 0 } in
    let low_within : get_or starts (slot_of slots addr) 0 ≤ length spans = is.within (slot_of slots addr) (omega arith) in
    let high_within : get_or starts (slot_of slots addr + 1) 0 ≤ length spans = is.within (slot_of slots addr + 1) inside in
    record {
      order = ⊎_elim
          (λ (wrong : high < low).
          let a : slot_of slots (get_or spans high d).first < slot_of slots addr = is.before (slot_of slots addr) (omega arith) high d (omega arith) (omega arith) in
          let b : slot_of slots addr + 1 ≤ slot_of slots (get_or spans high d).first = is.from (slot_of slots addr + 1) high d inside (omega arith) (omega arith) in
          absurd (omega arith))
          (λ le. le)
          (cases_lt high low);
      within = omega arith;
      before = λ k e lt. let b : (get_or spans k e).first < addr = slot_tells slots (get_or spans k e).first addr (is.before (slot_of slots addr) (omega arith) k e (omega arith) (omega arith)) in omega arith;
      after = λ k e le lt. let b : slot_of slots addr + 1 ≤ slot_of slots (get_or spans k e).first = is.from (slot_of slots addr + 1) k e inside (omega arith) lt in slot_tells slots addr (get_or spans k e).first (omega arith);
    }

pub no_directory : (spans : List Span) (slots : Slots) (starts : List ℕ) → starts ≡ [] → IsDirectory spans slots starts
no_directory spans slots starts none = rw none (record { within = λ s l. absurd (omega arith); before = λ s l. absurd (omega arith); from = λ s k d l. absurd (omega arith) })

-- one slot more
pub directory_more : (spans : List Span) (slots : Slots) (starts : List ℕ) (at slot : ℕ) → IsDirectory spans slots starts → slot ≡ length starts → at ≤ length spans → AreBefore spans slots at slot →
    ((k : ℕ) (d : Span) → at ≤ k → k < length spans → slot ≤ slot_of slots (get_or spans k d).first) → IsDirectory spans slots (starts ++ at ∷ [])
directory_more spans slots starts at slot is last within before rest =
    let all : length (starts ++ at ∷ []) ≡ length starts + 1 = length_push starts at in
    let each : (P : ℕ → ℕ → Type 0) → ((s : ℕ) → s < length starts → P s (get_or starts s 0)) → P (length starts) at → (s : ℕ) → s < length (starts ++ at ∷ []) → P s (get_or (starts ++ at ∷ []) s 0) =
    λ P old new s l. ⊎_elim
    (λ (under : s < length starts). subst (P s) (sym (get_or_append_left starts (at ∷ []) 0 s under)) (old s under))
    (λ (ge : length starts ≤ s). let e : length starts ≡ s = omega arith in subst (P s) (sym (get_or_push starts at 0 s e)) (subst (λ n. P n at) e new))
    (cases_lt s (length starts)) in
    record {
      within = each (λ s n. n ≤ length spans) is.within within;
      before = each (λ s n. AreBefore spans slots n s) is.before (subst (λ n. AreBefore spans slots at n) last before);
      from = λ s k d l. each (λ s n. n ≤ k → k < length spans → s ≤ slot_of slots (get_or spans k d).first) (λ t u. is.from t k d u) (λ le lt. let r : slot ≤ slot_of slots (get_or spans k d).first = rest k d le lt in omega arith) s l;
    }
