-- The first line of a text, and one line more that is executed.
use Rattle.std.proofs.Common.{◌≡◌, ◌≤◌, ◌<◌, ◌+◌, ◌-◌, ℕ, zero, suc, Bool, true, false, List, [], ◌∷◌, ◌++◌, length, take, drop, get_or, Some, None, refl, sym, ap, ◌∙◌, arith, append_assoc, length-append, inl, inr}
use Rattle.std.proofs.lemmas.Bool.{cases_Bool, eqb-true, ltb-false}
use Rattle.std.proofs.lemmas.List.{length-drop, take_all}
use Rattle.std.proofs.lemmas.List.Quantifiers.{position-Some}
use Rattle.std.specs.List.{list_any, position, position_or_len, AllByRecursion as Each}
use Rattle.std.specs.Prelude.{◌==◌, nat_lt, cond}
use Rattle.prt_command.proofs.Splitting.{from}
use Rattle.prt_version.specs.State.{State}
use Rattle.prt_lines.specs.Lines.{line_refusal, line_state}
use Rattle.prt_lines.specs.Chunk.{AreAccepted, AreExecuted, IsCut, has_newline, lines_state, whole_lines}

abbrev pub is_newline : ℕ → Bool
is_newline b = b == 10

-- a test of bytes that is true of 10 alone
newline_is : (b : ℕ) → is_newline b ≡ true → b ≡ 10
newline_is b h = eqb-true b 10 h

-- a newline at a place before which there is none
cut_before : (bs : List ℕ) (at : ℕ) → at < length bs → is_newline (get_or bs at 0) ≡ true → ((k : ℕ) → k < at → is_newline (get_or bs k 0) ≡ false) → (bs ≡ take at bs ++ 10 ∷ drop (suc at) bs) × (has_newline (take at bs) ≡ false)
cut_before [] at within ends before = absurd (omega arith)
cut_before (b ∷ bs) zero within ends before = (ap (λ x. x ∷ bs) (newline_is b ends), refl)
cut_before (b ∷ bs) (suc at) within ends before =
    let none = before 0 (omega arith) in
    let later = cut_before bs at (omega arith) ends (λ k h. before (suc k) (omega (arith, h))) in
    (ap (λ xs. b ∷ xs) later.0, simp none later.1)

-- the first line, if a newline ends it
pub cut_at : (bs : List ℕ) (at : ℕ) → position is_newline bs ≡ Some at → IsCut bs (take at bs) (from bs (at + 1))
cut_at bs at h =
    let found = position-Some is_newline bs at 0 h in
    let cut = cut_before bs at found.0 found.1 found.2 in
    let rest : from bs (at + 1) ≡ drop (at + 1) bs = take_all (length bs - (at + 1)) (drop (at + 1) bs) (let e = length-drop (at + 1) bs in omega (arith, e)) in
    let e : suc at ≡ at + 1 = omega arith in
    record {
      parts = cut.0 ∙ ap (λ n. take at bs ++ 10 ∷ drop n bs) e ∙ ap (λ xs. take at bs ++ 10 ∷ xs) (sym rest);
      whole = cut.1;
    }

none_before : (n m : ℕ) (b : Bool) → nat_lt n m ≡ b → cond b (Some n) None ≡ None → m ≤ n
none_before n m true e h = absurd cc
none_before n m false e h = ltb-false n m e

no_newline : (bs : List ℕ) → length bs ≤ position_or_len is_newline bs → has_newline bs ≡ false
no_newline [] h = refl
no_newline (b ∷ bs) h = elim (cases_Bool (is_newline b)) [
  | inl e ↦ let l : suc (length bs) ≤ 0 = simp e at h in absurd (omega (arith, l))
  | inr e ↦ let l : suc (length bs) ≤ 1 + position_or_len is_newline bs = simp e at h in simp e (no_newline bs (omega (arith, l)))
]

-- no line, if no newline ends one
pub none_at : (bs : List ℕ) → position is_newline bs ≡ None → has_newline bs ≡ false
none_at bs h = no_newline bs (none_before (position_or_len is_newline bs) (length bs) _ refl h)

-- what comes after a line is shorter than the text
pub shorter : (text line after : List ℕ) → IsCut text line after → length after < length text
shorter text line after cut = let e = ap length cut.parts in let l = length-append line (10 ∷ after) in omega (arith, e, l)

-- ---- one line more

whole_lines-more : (lines : List (List ℕ)) (line rest : List ℕ) → whole_lines lines ++ (line ++ 10 ∷ rest) ≡ whole_lines (lines ++ line ∷ []) ++ rest
whole_lines-more [] line rest = sym (append_assoc line (10 ∷ []) rest)
whole_lines-more (l ∷ lines) line rest =
    append_assoc l (10 ∷ whole_lines lines) (line ++ 10 ∷ rest)
    ∙ ap (λ xs. l ++ 10 ∷ xs) (whole_lines-more lines line rest)
    ∙ sym (append_assoc l (10 ∷ whole_lines (lines ++ line ∷ [])) rest)

lines_state-more : (state : State) (lines : List (List ℕ)) (line : List ℕ) → lines_state state (lines ++ line ∷ []) ≡ line_state (lines_state state lines) line
lines_state-more state [] line = refl
lines_state-more state (l ∷ lines) line = lines_state-more (line_state state l) lines line

accepted-more : (state : State) (lines : List (List ℕ)) (line : List ℕ) → AreAccepted state lines → line_refusal (lines_state state lines) line ≡ None → AreAccepted state (lines ++ line ∷ [])
accepted-more state [] line all last = (last, tt)
accepted-more state (l ∷ lines) line all last = (all.0, accepted-more (line_state state l) lines line all.1 last)

whole-more : (lines : List (List ℕ)) (line : List ℕ) → Each (λ l. has_newline l ≡ false) lines → has_newline line ≡ false → Each (λ l. has_newline l ≡ false) (lines ++ line ∷ [])
whole-more [] line all last = (last, tt)
whole-more (l ∷ lines) line all last = (all.0, whole-more lines line all.1 last)

-- no line yet
pub begins : (state : State) (text : List ℕ) → AreExecuted state text text state
begins state text = record { lines = []; whole = tt; parts = refl; made = refl; accepted = tt }

-- a line more that is accepted
pub goes_on : (before : State) (text rest line after : List ℕ) (state next : State) → AreExecuted before text rest state → IsCut rest line after → line_refusal state line ≡ None → next ≡ line_state state line → AreExecuted before text after next
goes_on before text rest line after state next done cut allowed is =
    record {
      lines = done.lines ++ line ∷ [];
      whole = whole-more done.lines line done.whole cut.whole;
      parts = done.parts ∙ ap (λ xs. whole_lines done.lines ++ xs) cut.parts ∙ whole_lines-more done.lines line after;
      made = is ∙ ap (λ s. line_state s line) done.made ∙ sym (lines_state-more before done.lines line);
      accepted = accepted-more before done.lines line done.accepted (ap (λ s. line_refusal s line) (sym done.made) ∙ allowed);
    }
