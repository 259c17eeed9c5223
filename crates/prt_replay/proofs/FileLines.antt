-- The first line of a file, and the lines after it.
use Rattle.std.proofs.Common.{◌≡◌, ◌≤◌, ◌<◌, ◌+◌, ◌-◌, ℕ, zero, suc, Bool, true, false, List, [], ◌∷◌, length, take, drop, get_or, map, Some, None, refl, sym, ap, ◌∙◌, arith, inl, inr}
use Rattle.std.proofs.lemmas.Bool.{cases_Bool, ltb-false}
use Rattle.std.proofs.lemmas.List.{length-drop, take_all}
use Rattle.std.proofs.lemmas.List.Quantifiers.{position-Some}
use Rattle.std.specs.List.{position, position_or_len}
use Rattle.std.specs.Prelude.{◌==◌, nat_lt, cond}
use Rattle.prt_command.proofs.Splitting.{from}
use Rattle.prt_command.specs.Lines.{Line, lines_of, onto_line}
use Rattle.prt_replay.specs.ReadEvents.{contents}

abbrev pub is_newline : ℕ → Bool
is_newline b = b == 10

onto_contents : (b : ℕ) (lines : List Line) (first : List ℕ) (others : List (List ℕ)) → map (λ line. line.content) lines ≡ first ∷ others → map (λ line. line.content) (onto_line b lines) ≡ (b ∷ first) ∷ others
onto_contents b [] first others h = absurd cc
onto_contents b (line ∷ lines) first others h = cc

-- a newline at a place before which there is none ends the first line
line_before : (bs : List ℕ) (at : ℕ) → at < length bs → is_newline (get_or bs at 0) ≡ true → ((k : ℕ) → k < at → is_newline (get_or bs k 0) ≡ false) → contents bs ≡ take at bs ∷ contents (drop (suc at) bs)
unfolding lines_of
line_before [] at within ends before = absurd (omega arith)
line_before (b ∷ bs) zero within ends before = simp ends refl
line_before (b ∷ bs) (suc at) within ends before =
    let none = before 0 (omega arith) in
    let later = line_before bs at (omega arith) ends (λ k h. before (suc k) (omega (arith, h))) in
    simp none (onto_contents b (lines_of bs) (take at bs) (contents (drop (suc at) bs)) later)

-- the first line, if a newline ends it
pub line_at : (bs : List ℕ) (at : ℕ) → position is_newline bs ≡ Some at → (contents bs ≡ take at bs ∷ contents (from bs (at + 1))) × (length (from bs (at + 1)) < length bs)
line_at bs at h =
    let found = position-Some is_newline bs at 0 h in
    let rest : from bs (at + 1) ≡ drop (at + 1) bs = take_all (length bs - (at + 1)) (drop (at + 1) bs) (let e = length-drop (at + 1) bs in omega (arith, e)) in
    let e : at + 1 ≡ suc at = omega arith in (
      line_before bs at found.0 found.1 found.2 ∙ ap (λ n. take at bs ∷ contents (drop n bs)) (sym e) ∙ ap (λ xs. take at bs ∷ contents xs) (sym rest),
      let l = ap length rest ∙ length-drop (at + 1) bs in let w : at < length bs = found.0 in omega (arith, l, w),
    )

no_newline : (b : ℕ) (bs : List ℕ) → length (b ∷ bs) ≤ position_or_len is_newline (b ∷ bs) → contents (b ∷ bs) ≡ (b ∷ bs) ∷ []
unfolding lines_of
no_newline b [] h = elim (cases_Bool (is_newline b)) [
  | inl e ↦ let l : 1 ≤ 0 = simp e at h in absurd (omega (arith, l))
  | inr e ↦ simp e refl
]
no_newline b (c ∷ cs) h = elim (cases_Bool (is_newline b)) [
  | inl e ↦ let l : suc (suc (length cs)) ≤ 0 = simp e at h in absurd (omega (arith, l))
  | inr e ↦
      let l : suc (suc (length cs)) ≤ 1 + position_or_len is_newline (c ∷ cs) = simp e at h in
      simp e (onto_contents b (lines_of (c ∷ cs)) (c ∷ cs) [] (no_newline c cs (omega (arith, l))))
]

none_before : (n m : ℕ) (b : Bool) → nat_lt n m ≡ b → cond b (Some n) None ≡ None → m ≤ n
none_before n m true e h = absurd cc
none_before n m false e h = ltb-false n m e

-- the last line, which no newline ends
pub last_line : (bs : List ℕ) → 0 < length bs → position is_newline bs ≡ None → (contents bs ≡ bs ∷ contents []) × (0 < length bs)
unfolding lines_of
last_line [] some h = absurd (omega arith)
last_line (b ∷ bs) some h = (no_newline b bs (none_before (position_or_len is_newline (b ∷ bs)) (length (b ∷ bs)) _ refl h), some)

-- no bytes have no lines
pub no_lines : (bs : List ℕ) → length bs ≡ 0 → contents bs ≡ []
unfolding lines_of
no_lines [] h = refl
no_lines (b ∷ bs) h = absurd (omega arith)
