-- The first line of a text.
use Rattle.std.proofs.Common.{◌≡◌, ◌≤◌, ◌<◌, ◌+◌, ◌-◌, ℕ, zero, suc, Bool, true, false, List, [], ◌∷◌, ◌++◌, length, take, drop, get_or, Some, None, flat_map, refl, sym, ap, ◌∙◌, arith, append_assoc, inl, inr}
use Rattle.std.proofs.lemmas.Bool.{cases_Bool, ltb-false}
use Rattle.std.proofs.lemmas.List.{length-drop, take_all}
use Rattle.std.proofs.lemmas.List.Quantifiers.{position-Some}
use Rattle.std.proofs.Math.Seq.{drop-length}
use Rattle.std.specs.List.{onto_first, position, position_or_len}
use Rattle.std.specs.Prelude.{◌==◌, nat_lt, cond}
use Rattle.prt_command.proofs.Splitting.{from}
use Rattle.prt_import.specs.Lines.{lines_of}

abbrev is_newline : ℕ → Bool
is_newline b = b == 10

-- a newline at a place before which there is none
cut_before : (bs : List ℕ) (at : ℕ) → at < length bs → is_newline (get_or bs at 0) ≡ true → ((k : ℕ) → k < at → is_newline (get_or bs k 0) ≡ false) → lines_of bs ≡ take at bs ∷ lines_of (drop (suc at) bs)
cut_before [] at within ends before = absurd (omega arith)
cut_before (b ∷ bs) zero within ends before = simp ends refl
cut_before (b ∷ bs) (suc at) within ends before =
    let none = before 0 (omega arith) in
    let later = cut_before bs at (omega arith) ends (λ k h. before (suc k) (omega (arith, h))) in
    simp none (ap (onto_first b) later)

-- what comes after a place
pub rest_after : (bs : List ℕ) (at : ℕ) → at < length bs → (from bs (at + 1) ≡ drop (suc at) bs) × (length (from bs (at + 1)) < length bs)
rest_after bs at within =
    let rest : from bs (at + 1) ≡ drop (at + 1) bs = take_all (length bs - (at + 1)) (drop (at + 1) bs) (let e = length-drop (at + 1) bs in omega (arith, e)) in
    let e : at + 1 ≡ suc at = omega arith in
    let n : length (from bs (at + 1)) ≡ length bs - (at + 1) = ap length rest ∙ length-drop (at + 1) bs in
    (rest ∙ ap (λ n. drop n bs) e, omega (arith, n, within))

-- the first line, if a newline ends it
pub cut_at : (bs : List ℕ) (at : ℕ) → position is_newline bs ≡ Some at → (lines_of bs ≡ take at bs ∷ lines_of (from bs (at + 1))) × (length (from bs (at + 1)) < length bs)
cut_at bs at h =
    let found = position-Some is_newline bs at 0 h in
    let rest = rest_after bs at found.0 in
    (cut_before bs at found.0 found.1 found.2 ∙ ap (λ xs. take at bs ∷ lines_of xs) (sym rest.0), rest.1)

pub none_before : (n m : ℕ) (b : Bool) → nat_lt n m ≡ b → cond b (Some n) None ≡ None → m ≤ n
none_before n m true e h = absurd cc
none_before n m false e h = ltb-false n m e

one_line : (b : ℕ) (bs : List ℕ) → length (b ∷ bs) ≤ position_or_len is_newline (b ∷ bs) → lines_of (b ∷ bs) ≡ (b ∷ bs) ∷ []
one_line b [] h = elim (cases_Bool (is_newline b)) [
  | inl e ↦ let l : suc 0 ≤ 0 = simp e at h in absurd (omega (arith, l))
  | inr e ↦ simp e refl
]
one_line b (c ∷ cs) h = elim (cases_Bool (is_newline b)) [
  | inl e ↦ let l : suc (length (c ∷ cs)) ≤ 0 = simp e at h in absurd (omega (arith, l))
  | inr e ↦ let l : suc (length (c ∷ cs)) ≤ 1 + position_or_len is_newline (c ∷ cs) = simp e at h in simp e (ap (onto_first b) (one_line c cs (omega (arith, l))))
]

nothing_left : (bs : List ℕ) → from bs (length bs) ≡ []
nothing_left bs = take_all (length bs - length bs) (drop (length bs) bs) (let e = length-drop (length bs) bs in omega (arith, e)) ∙ drop-length bs

-- the only line, which no newline ends
pub last_line : (bs : List ℕ) → 0 < length bs → position is_newline bs ≡ None → (lines_of bs ≡ bs ∷ lines_of (from bs (length bs))) × (length (from bs (length bs)) < length bs)
last_line [] some h = absurd (omega (arith, some))
last_line (b ∷ bs) some h = (
  one_line b bs (none_before (position_or_len is_newline (b ∷ bs)) (length (b ∷ bs)) _ refl h) ∙ ap (λ xs. (b ∷ bs) ∷ lines_of xs) (sym (nothing_left (b ∷ bs))),
  (let e = ap length (nothing_left (b ∷ bs)) in omega (arith, e, some)),
)

-- what is made of the lines so far, and of one line more
pub one_more : {X : Type 0} (f : List ℕ → List X) (before mid new : List X) (all : List X) (rest line after : List ℕ) → all ≡ mid ++ flat_map f (lines_of rest) → lines_of rest ≡ line ∷ lines_of after → new ≡ mid ++ f line → all ≡ new ++ flat_map f (lines_of after)
one_more f before mid new all rest line after so_far cut more =
    so_far ∙ ap (λ ls. mid ++ flat_map f ls) cut ∙ sym (append_assoc mid (f line) (flat_map f (lines_of after))) ∙ ap (λ xs. xs ++ flat_map f (lines_of after)) (sym more)
