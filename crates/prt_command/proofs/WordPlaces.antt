-- Where a word is in a text.
use Rattle.std.proofs.Common.{◌≡◌, ℕ, ◌+◌, ◌<◌, ◌≤◌, List, [], ◌∷◌, ◌++◌, Option, Some, None, refl, length, take, drop, IfSome, MatchOption, length-append, ◌∙◌, ap, sym, subst, arith}
use Rattle.std.specs.Prelude.{◌-◌, ◌==◌}
use Rattle.std.specs.List.{position_or_len}
use Rattle.std.proofs.lemmas.List.{drop-append-le, drop-drop, length-drop, take-append-drop, take-append-le}
use Rattle.prt_addr.specs.Word.{is_white}
use Rattle.prt_command.specs.FaultWord.{IsIn, bytes_at, fault_word, first_of, line_fault, words_from}
use Rattle.prt_command.specs.Reading.{before_comment, words}
use Rattle.prt_command.specs.declared.word_at_fault.WordPlace.{WordPlace}
use Rattle.prt_command.proofs.Splitting.{from, from-drop, is_black, next_of_words, no_words, place, place_within}

-- ---- the first word from a byte on

-- where a word may begin is within the text
pub start_within : (text : List ℕ) (at start : ℕ) → at ≤ length text → start ≡ at + place is_black (from text at) → start ≤ length text
start_within text at start l is =
    let i = place_within is_black (from text at) (place is_black (from text at)) refl in
    let j = ap length (from-drop text at l) ∙ length-drop at text in
    omega (arith, i, j, l, is)

-- the text after the white space is the text from there on
tail_is : (text : List ℕ) (at start n : ℕ) → at ≤ length text → n ≡ place is_black (drop at text) → start ≡ at + n → start ≤ length text → from (drop at text) n ≡ from text start
tail_is text at start n l is where_ within =
    from-drop (drop at text) n (place_within is_black (drop at text) n is)
    ∙ drop-drop n at text ∙ ap (λ k. drop k text) (sym where_) ∙ sym (from-drop text start within)

module _ (text : List ℕ) (at start : ℕ) (l : at ≤ length text) (is : start ≡ at + place is_black (from text at)) where
  abbrev gap : ℕ
  gap = place is_black (drop at text)

  start_is : start ≡ at + gap
  start_is = is ∙ ap (λ t. at + place is_black t) (from-drop text at l)

  same_tail : from (drop at text) gap ≡ from text start
  same_tail = tail_is text at start gap l refl start_is (start_within text at start l is)

  pub none_from : length (from text start) ≡ 0 → words (drop at text) ≡ []
  none_from e = no_words (drop at text) gap refl (ap length same_tail ∙ e)

  pub end_within : (len : ℕ) → len ≡ place is_white (from text start) → start + len ≤ length text
  end_within len e =
      let i = place_within is_white (from text start) len e in
      let within = start_within text at start l is in
      let j = ap length (from-drop text start within) ∙ length-drop start text in
      omega (arith, i, j, within)

  pub word_from : (len : ℕ) → 0 < length (from text start) → len ≡ place is_white (from text start) → words (drop at text) ≡ take ((start + len) - start) (drop start text) ∷ words (drop (start + len) text)
  word_from len more e =
      let within = start_within text at start l is in
      let u : from text start ≡ drop start text = from-drop text start within in
      let first = next_of_words (drop at text) gap len refl (subst (λ t. 0 < length t) (sym same_tail) more) (e ∙ ap (place is_white) (sym same_tail)) in
      let rest : from (from text start) len ≡ drop (start + len) text = from-drop (from text start) len (place_within is_white (from text start) len e) ∙ ap (drop len) u ∙ drop-drop len start text in
      let count : (start + len) - start ≡ len = omega arith in
      first.0
      ∙ ap (λ t. take len t ∷ words (from t len)) same_tail
      ∙ ap (λ t. take len t ∷ words (from (from text start) len)) u
      ∙ ap (λ t. take len (drop start text) ∷ words t) rest
      ∙ ap (λ n. take n (drop start text) ∷ words (drop (start + len) text)) (sym count)

-- ---- a line and what comes before its comment

-- what is at a place in a text, if more follows
in_front : (text rest : List ℕ) (at : WordPlace) → IsIn text at → bytes_at (text ++ rest) at ≡ bytes_at text at
in_front text rest at is =
    let begins : at.start ≤ length text = omega (arith, is.0, is.1) in
    let room : at.end - at.start ≤ length (drop at.start text) = (let n = length-drop at.start text in omega (arith, n, is.0, is.1)) in
    ap (take (at.end - at.start)) (drop-append-le at.start text rest begins) ∙ take-append-le (at.end - at.start) (drop at.start text) rest room

splits_at_comment : (line : List ℕ) → (rest : List ℕ) × (before_comment line ++ rest ≡ line)
splits_at_comment line = let n = position_or_len (λ b. b == 35) line in (drop n line, take-append-drop n line)

in_line : (line : List ℕ) (at : WordPlace) → IsIn (before_comment line) at → bytes_at line at ≡ bytes_at (before_comment line) at
in_line line at is = let more = splits_at_comment line in ap (λ t. bytes_at t at) (sym more.1) ∙ in_front (before_comment line) more.0 at is

-- the place of the word that the first fault is about, by the words from there on
pub is_fault_word : (line : List ℕ) (o : Option WordPlace) → words_from (before_comment line) o ≡ line_fault line → IfSome o (IsIn (before_comment line)) → MatchOption o (fault_word line ≡ None) (λ at. fault_word line ≡ Some (bytes_at line at))
is_fault_word line None e is = sym (ap first_of e)
is_fault_word line (Some at) e is = sym (ap first_of e) ∙ ap Some (sym (in_line line at is))

-- a place before the comment is one of the line
pub is_in_line : (line : List ℕ) (o : Option WordPlace) → IfSome o (IsIn (before_comment line)) → IfSome o (IsIn line)
is_in_line line None is = tt
is_in_line line (Some at) is =
    let more = splits_at_comment line in
    let n = ap length (sym more.1) ∙ length-append (before_comment line) more.0 in
    (is.0, omega (arith, is.1, n))
