-- The session on one more line: one law for each way in which the line may stop it or not.
use Rattle.std.proofs.Common.{◌≡◌, ℕ, ◌+◌, ◌-◌, ◌<◌, ◌≤◌, ◌==◌, nat_lt, Bool, true, false, List, [], ◌∷◌, ◌++◌, length, drop, Option, refl, sym, ◌∙◌, ap, arith}
use Rattle.std.proofs.lemmas.Bool.Decides.{nat_tests}
use Rattle.std.proofs.lemmas.Grind.{common_steps}
use Rattle.prt_refusals.specs.declared.refusal.Refusal.TheVariants.{LineTooLong, ReadFault, TooManyLines}
use Rattle.prt_session.proofs.Lines.{whole_line, unended_line, bytes_of_lines, first_has}
use Rattle.prt_command.specs.Lines.{Limits, Line, lines_of, bytes_of}
use Rattle.prt_replies.specs.Input.{Ending, end_of_input, read_fault}
use Rattle.prt_session.specs.Session.{TurnsOf, Session, ends, exchange_of, after_exchange, session_lines, line_turn, stops_after}
use Rattle.prt_session.specs.Steps.{HasNoNewline}
use Rattle.prt_replies.specs.declared.reply.Reply.TheVariants.{Refused}
use Rattle.prt_refusals.specs.declared.on_refusal.OnRefusal.{OnRefusal}

not_zero : (n : ℕ) → 0 < n → (n == 0) ≡ false
not_zero n h = grind (arith, nat_tests)

not_less : (m n : ℕ) → n ≤ m → nat_lt m n ≡ false
not_less m n h = grind (arith, nat_tests)

is_less : (m n : ℕ) → m < n → nat_lt m n ≡ true
is_less m n h = grind (arith, nat_tests)

drop_front : (xs rest : List ℕ) → drop (length xs) (xs ++ rest) ≡ rest
drop_front xs rest = grind (arith, common_steps)

-- the bytes up to the first one too many are dropped
drop_many : (b : ℕ) (bs rest : List ℕ) (n : ℕ) → length (b ∷ bs) ≡ n + 1 → drop (n + 1) (b ∷ (bs ++ rest)) ≡ rest
drop_many b bs rest n e = rw (← e) (drop_front (b ∷ bs) rest)

-- if no line is left, one more byte ends the session
pub too_many : {D M : Type 0} (turn : TurnsOf D M) (limit : Limits) (mode : OnRefusal) (ending : Ending) (desk : D) (mishaps : List (Option M)) (b : ℕ) (rest : List ℕ) (lines : List Line) → lines_of (b ∷ rest) ≡ lines → session_lines turn limit mode ending 0 lines mishaps desk ≡ ends (Refused TooManyLines ∷ []) desk rest
unfolding session_lines
too_many {D} {M} turn limit mode ending desk mishaps b rest [] e = let h : [] ≡ b ∷ rest = ap bytes_of (sym e) ∙ bytes_of_lines (b ∷ rest) in absurd (cc)
too_many {D} {M} turn limit mode ending desk mishaps b rest (line ∷ lines) e = let h : bytes_of (line ∷ lines) ≡ b ∷ rest = ap bytes_of (sym e) ∙ bytes_of_lines (b ∷ rest) in rw h

module _ {D M : Type 0} (turn : TurnsOf D M) (limit : Limits) (mode : OnRefusal) (ending : Ending) (left : ℕ) (desk : D) (some_left : 0 < left) where
  -- a whole line that does not stop the session
  pub goes_on_after : (content rest : List ℕ) (mishap : Option M) (later : List (Option M)) → HasNoNewline content → length content ≤ limit.unended → stops_after mode (line_turn turn desk content mishap).reply ≡ false →
      session_lines turn limit mode ending left (lines_of (content ++ (10 ∷ rest))) (mishap ∷ later) desk ≡ after_exchange (exchange_of turn desk content mishap) (session_lines turn limit mode ending (left - 1) (lines_of rest) later (line_turn turn desk content mishap).desk)
  unfolding session_lines
  goes_on_after content rest mishap later bare short goes = rw (whole_line content rest bare) (rw (not_zero left some_left, not_less limit.unended (length content) short, goes))

  -- a whole line that stops it
  pub stops_there : (content rest : List ℕ) (mishap : Option M) (later : List (Option M)) → HasNoNewline content → length content ≤ limit.unended → stops_after mode (line_turn turn desk content mishap).reply ≡ true →
      session_lines turn limit mode ending left (lines_of (content ++ (10 ∷ rest))) (mishap ∷ later) desk ≡ after_exchange (exchange_of turn desk content mishap) (ends [] (line_turn turn desk content mishap).desk rest)
  unfolding session_lines
  stops_there content rest mishap later bare short stops = rw (whole_line content rest bare) (rw (not_zero left some_left, not_less limit.unended (length content) short, stops, bytes_of_lines rest))

  -- one byte too many without a newline
  pub ends_endless : (b : ℕ) (bs rest : List ℕ) (mishaps : List (Option M)) → HasNoNewline (b ∷ bs) → length (b ∷ bs) ≡ limit.unended + 1 →
      session_lines turn limit mode ending left (lines_of (b ∷ (bs ++ rest))) mishaps desk ≡ ends (Refused LineTooLong ∷ []) desk rest
  unfolding session_lines
  ends_endless b bs rest mishaps bare long =
      let f = first_has b bs rest bare in
      let e : bytes_of (f.line ∷ f.others) ≡ b ∷ (bs ++ rest) = ap bytes_of (sym f.is) ∙ bytes_of_lines (b ∷ (bs ++ rest)) in
      rw f.is (rw (not_zero left some_left, is_less limit.unended (length f.line.content) (omega (arith, f.long)), e) (ap (λ (unread : List ℕ). (let s : Session D M = ends (Refused LineTooLong ∷ []) desk unread in s)) (drop_many b bs rest limit.unended long)))

  -- a fault of the reader in a line
  pub ends_in_fault : (b : ℕ) (bs : List ℕ) (mishaps : List (Option M)) → HasNoNewline (b ∷ bs) → length (b ∷ bs) ≤ limit.unended →
      session_lines turn limit mode read_fault left (lines_of (b ∷ bs)) mishaps desk ≡ ends (Refused ReadFault ∷ []) desk []
  unfolding session_lines
  ends_in_fault b bs mishaps bare short = rw (unended_line b bs bare) (rw (not_zero left some_left, not_less limit.unended (length (b ∷ bs)) short))

  ends_unended_by : (b : ℕ) (bs : List ℕ) (mishap : Option M) (later : List (Option M)) (stops : Bool) → stops_after mode (line_turn turn desk (b ∷ bs) mishap).reply ≡ stops → HasNoNewline (b ∷ bs) → length (b ∷ bs) ≤ limit.unended →
      session_lines turn limit mode end_of_input left (lines_of (b ∷ bs)) (mishap ∷ later) desk ≡ after_exchange (exchange_of turn desk (b ∷ bs) mishap) (ends [] (line_turn turn desk (b ∷ bs) mishap).desk [])
  unfolding session_lines
  ends_unended_by b bs mishap later true e bare short = rw (unended_line b bs bare) (rw (not_zero left some_left, not_less limit.unended (length (b ∷ bs)) short, e))
  ends_unended_by b bs mishap later false e bare short = rw (unended_line b bs bare) (rw (not_zero left some_left, not_less limit.unended (length (b ∷ bs)) short, e))

  -- a last line without a newline
  pub ends_unended : (b : ℕ) (bs : List ℕ) (mishap : Option M) (later : List (Option M)) → HasNoNewline (b ∷ bs) → length (b ∷ bs) ≤ limit.unended →
      session_lines turn limit mode end_of_input left (lines_of (b ∷ bs)) (mishap ∷ later) desk ≡ after_exchange (exchange_of turn desk (b ∷ bs) mishap) (ends [] (line_turn turn desk (b ∷ bs) mishap).desk [])
  ends_unended b bs mishap later bare short = ends_unended_by b bs mishap later (stops_after mode (line_turn turn desk (b ∷ bs) mishap).reply) refl bare short
