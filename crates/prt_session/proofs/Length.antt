-- How many bytes a session takes.
use Rattle.std.proofs.Common.{◌≡◌, ℕ, zero, suc, ◌+◌, ◌-◌, ◌*◌, ◌≤◌, ◌==◌, nat_lt, ◌&&◌, ◌⊎◌, inl, inr, Bool, true, false, not, List, [], ◌∷◌, drop, length, Option, refl, ap, sym, arith, length-append, length-drop, ◌∙◌}
use Rattle.std.proofs.lemmas.Bool.{ltb-false}
use Rattle.std.proofs.lemmas.Bool.Decides.{nat_tests}
use Rattle.std.specs.Prelude.{⊤, if◌then◌else◌}
use Rattle.prt_session.proofs.Lines.{bytes_of_lines}
use Rattle.prt_command.specs.Lines.{Limits, Line, limits, lines_of, onto_line, bytes_of, line_bytes}
use Rattle.prt_replies.specs.Input.{Input, Ending, is_fault}
use Rattle.prt_session.specs.Session.{TurnsOf, session, session_lines, first_mishap, line_turn, stops_after}
use Rattle.prt_refusals.specs.declared.on_refusal.OnRefusal.{OnRefusal}

-- each line but the last has its newline
abbrev pub AreWhole : List Line → Type 0
AreWhole [] = ⊤
AreWhole (line ∷ []) = ⊤
AreWhole (line ∷ next ∷ lines) = (line.ended ≡ true) × AreWhole (next ∷ lines)

ended_before_whole : (line : Line) (lines : List Line) → line.ended ≡ true → AreWhole lines → AreWhole (line ∷ lines)
ended_before_whole line [] ended whole = tt
ended_before_whole line (next ∷ lines) ended whole = (ended, whole)

onto_whole : (b : ℕ) (lines : List Line) → AreWhole lines → AreWhole (onto_line b lines)
onto_whole b [] whole = tt
onto_whole b (line ∷ []) whole = tt
onto_whole b (line ∷ next ∷ lines) whole = (whole.0, whole.1)

-- a test holds or not
pub sides : (b : Bool) → (b ≡ true) ⊎ (b ≡ false)
sides true = inl refl
sides false = inr refl

pub lines_whole : (bytes : List ℕ) → AreWhole (lines_of bytes)
unfolding lines_of
lines_whole [] = tt
lines_whole (b ∷ bs) = elim (sides (b == 10)) [
  | inl h ↦ rw h (ended_before_whole (record { content = []; ended = true }) (lines_of bs) refl (lines_whole bs))
  | inr h ↦ rw h (onto_whole b (lines_of bs) (lines_whole bs))
]

newline_short : (ended : Bool) → length {A = ℕ} (if ended then 10 ∷ [] else []) ≤ 1
newline_short true = omega arith
newline_short false = omega arith

line_short : (line : Line) → length (line_bytes line) ≤ length line.content + 1
line_short line = let n = newline_short line.ended in simp length-append (omega (arith, n))

bytes_short : (line : Line) (lines : List Line) → length (bytes_of (line ∷ lines)) ≤ length line.content + 1 + length (bytes_of lines)
bytes_short line lines = let n = line_short line in let e = length-append (line_bytes line) (bytes_of lines) in omega (arith, n, e)

unended_alone : (line : Line) (lines : List Line) → AreWhole (line ∷ lines) → line.ended ≡ false → length (bytes_of lines) ≤ 0
unended_alone line [] whole e = omega arith
unended_alone line (next ∷ lines) whole e = absurd (let h : true ≡ false = sym whole.0 ∙ e in cc)

tail_whole : (line : Line) (lines : List Line) → AreWhole (line ∷ lines) → AreWhole lines
tail_whole line [] whole = tt
tail_whole line (next ∷ lines) whole = whole.1

both_of : (a b : Bool) → (a && b) ≡ true → a ≡ true
both_of true b h = refl
both_of false b h = absurd cc

not_true : (a : Bool) → not a ≡ true → a ≡ false
not_true true h = absurd cc
not_true false h = refl

not_zero : (n : ℕ) → (suc n == 0) ≡ false
not_zero n = grind (arith, nat_tests)

one_less : (n : ℕ) → suc n - 1 ≡ n
one_less n = omega arith

one_more_line : (n m : ℕ) → suc n * m ≡ m + n * m
one_more_line n m = omega arith

module _ {D M : Type 0} (turn : TurnsOf D M) (limit : Limits) (mode : OnRefusal) (ending : Ending) where
  pub taken : (left : ℕ) (lines : List Line) (mishaps : List (Option M)) (desk : D) → AreWhole lines → length (bytes_of lines) ≤ length (session_lines turn limit mode ending left lines mishaps desk).unread + (left * (limit.unended + 1) + 1)
  unfolding session_lines
  taken left [] mishaps desk whole = omega arith
  taken zero (line ∷ lines) mishaps desk whole = let n = length-drop 1 (bytes_of (line ∷ lines)) in omega (arith, n)
  taken (suc n) (line ∷ lines) mishaps desk whole =
      let m = one_more_line n (limit.unended + 1) in
      let b = bytes_short line lines in
      let after = line_turn turn desk line.content (first_mishap mishaps) in
      elim (sides (nat_lt limit.unended (length line.content))) [
        | inl long ↦ let d = length-drop (limit.unended + 1) (bytes_of (line ∷ lines)) in rw (not_zero n, long) (omega (arith, m, d))
        | inr short ↦ let s : length line.content ≤ limit.unended = ltb-false _ _ short in
            elim (sides (not line.ended && is_fault ending)) [
              | inl cut ↦ let u = unended_alone line lines whole (not_true line.ended (both_of (not line.ended) (is_fault ending) cut)) in rw (not_zero n, short, cut) (omega (arith, m, b, s, u))
              | inr on ↦ elim (sides (stops_after mode after.reply)) [
                | inl stop ↦ rw (not_zero n, short, on, stop) (omega (arith, m, b, s))
                | inr go ↦ let rec = taken n lines (drop 1 mishaps) after.desk (tail_whole line lines whole) in rw (not_zero n, short, on, go, one_less n) (omega (arith, m, b, s, rec))
              ]
            ]
      ]

pub session_taken : {D M : Type 0} (turn : TurnsOf D M) (desk : D) (input : Input) (mode : OnRefusal) (mishaps : List (Option M)) → length input.bytes ≤ length (session turn desk input mode mishaps).unread + (1000000 * 65537 + 1)
unfolding session
session_taken turn desk input mode mishaps =
    let n = taken turn limits mode input.ending 1000000 (lines_of input.bytes) mishaps desk (lines_whole input.bytes) in
    let e = ap length (bytes_of_lines input.bytes) in
    omega (arith, n, e)
