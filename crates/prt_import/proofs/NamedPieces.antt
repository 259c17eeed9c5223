-- The pieces of a text, one after the other.
use Rattle.std.proofs.Common.{◌≡◌, ◌≤◌, ◌<◌, ◌+◌, ℕ, zero, suc, Bool, true, false, List, [], ◌∷◌, ◌++◌, length, take, drop, get_or, Option, Some, None, refl, sym, ap, ◌∙◌, arith, append_assoc, inl, inr}
use Rattle.std.proofs.lemmas.Bool.{cases_Bool}
use Rattle.std.proofs.lemmas.List.{append-nil}
use Rattle.std.proofs.lemmas.List.Quantifiers.{position-Some}
use Rattle.std.specs.List.{flat_map, position, position_or_len, AllByRecursion as Each}
use Rattle.std.specs.Prelude.{if◌then◌else◌, bytes_eq, codes, option_and_then}
use Rattle.prt_addr.specs.Decimal.{at_most, decimal_value}
use Rattle.prt_addr.specs.Word.{Word, is_one_of}
use Rattle.prt_command.specs.Reading.{has_bytes}
use Rattle.prt_command.proofs.Splitting.{from}
use Rattle.prt_import.specs.Naming.{Piece, is_separator, last_name, last_word, name_of, onto_piece, or_name, pieces, shown, shown_from, table_words, with_names}
use Rattle.prt_import.specs.TableNames.{TableNames}
use Rattle.prt_import.specs.declared.naming.Text.{Text}
use Rattle.prt_import.specs.declared.naming.Text.TheVariants.{Lines, Json}
use Rattle.prt_import.proofs.Cuts.{none_before, rest_after}

abbrev piece_of : Word → List ℕ → Piece
piece_of w ended = record { word = w; ended = ended }

-- a separator at a place before which there is none
cut_before : (form : Text) (bs : List ℕ) (at : ℕ) → at < length bs → is_separator form (get_or bs at 0) ≡ true → ((k : ℕ) → k < at → is_separator form (get_or bs k 0) ≡ false) → pieces form bs ≡ piece_of (take at bs) (get_or bs at 0 ∷ []) ∷ pieces form (drop (suc at) bs)
cut_before form [] at within ends before = absurd (omega arith)
cut_before form (b ∷ bs) zero within ends before = simp ends refl
cut_before form (b ∷ bs) (suc at) within ends before =
    let none = before 0 (omega arith) in
    let later = cut_before form bs at (omega arith) ends (λ k h. before (suc k) (omega (arith, h))) in
    simp none (ap (onto_piece b) later)

-- the first piece, if a separator ends it
pub cut_at : (form : Text) (bs : List ℕ) (at : ℕ) → position (is_separator form) bs ≡ Some at → (pieces form bs ≡ piece_of (take at bs) (get_or bs at 0 ∷ []) ∷ pieces form (from bs (at + 1))) × (length (from bs (at + 1)) < length bs)
cut_at form bs at h =
    let found = position-Some (is_separator form) bs at 0 h in
    let rest = rest_after bs at found.0 in
    (cut_before form bs at found.0 found.1 found.2 ∙ ap (λ xs. piece_of (take at bs) (get_or bs at 0 ∷ []) ∷ pieces form xs) (sym rest.0), rest.1)

one_piece : (form : Text) (bs : List ℕ) → length bs ≤ position_or_len (is_separator form) bs → pieces form bs ≡ piece_of bs [] ∷ []
one_piece form [] h = refl
one_piece form (b ∷ bs) h = elim (cases_Bool (is_separator form b)) [
  | inl e ↦ let l : suc (length bs) ≤ 0 = simp e at h in absurd (omega (arith, l))
  | inr e ↦ let l : suc (length bs) ≤ 1 + position_or_len (is_separator form) bs = simp e at h in simp e (ap (onto_piece b) (one_piece form bs (omega (arith, l))))
]

-- the only piece, which no separator ends
pub last_piece : (form : Text) (bs : List ℕ) → position (is_separator form) bs ≡ None → pieces form bs ≡ piece_of bs [] ∷ []
last_piece form bs h = one_piece form bs (none_before (position_or_len (is_separator form) bs) (length bs) _ refl h)

-- one piece more
pub goes_on : (form : Text) (names : TableNames) (all out mid new : List ℕ) (before next rest w after : List ℕ) (separator : ℕ) → all ≡ out ++ shown_from form names before (pieces form rest) → pieces form rest ≡ piece_of w (separator ∷ []) ∷ pieces form after → mid ≡ out ++ shown form names before w → new ≡ mid ++ separator ∷ [] → next ≡ last_word before (piece_of w (separator ∷ [])) → all ≡ new ++ shown_from form names next (pieces form after)
goes_on form names all out mid new before next rest w after separator so_far cut more ended word =
    let others : List ℕ = shown_from form names (last_word before (piece_of w (separator ∷ []))) (pieces form after) in
    so_far
    ∙ ap (λ ps. out ++ shown_from form names before ps) cut
    ∙ sym (append_assoc out (shown form names before w ++ separator ∷ []) others)
    ∙ ap (λ xs. xs ++ others) (sym (append_assoc out (shown form names before w) (separator ∷ [])) ∙ ap (λ xs. xs ++ separator ∷ []) (sym more) ∙ sym ended)
    ∙ ap (λ v. new ++ shown_from form names v (pieces form after)) (sym word)

-- the last piece
pub ends : (form : Text) (names : TableNames) (all out new : List ℕ) (before rest : List ℕ) → all ≡ out ++ shown_from form names before (pieces form rest) → pieces form rest ≡ piece_of rest [] ∷ [] → new ≡ out ++ shown form names before rest → new ≡ all
ends form names all out new before rest so_far cut more =
    more
    ∙ ap (λ xs. out ++ xs) (sym (append-nil (shown form names before rest)) ∙ sym (append-nil (shown form names before rest ++ [])))
    ∙ sym (so_far ∙ ap (λ ps. out ++ shown_from form names before ps) cut)

-- ---- texts that stay as they were

abbrev joined : List Piece → List ℕ
joined ps = flat_map (λ p. p.word ++ p.ended) ps

joined-onto : (b : ℕ) (ps : List Piece) → joined (onto_piece b ps) ≡ b ∷ joined ps
joined-onto b [] = refl
joined-onto b (p ∷ ps) = refl

-- the pieces of a text are the whole of it
whole : (form : Text) (text : List ℕ) → joined (pieces form text) ≡ text
whole form [] = refl
whole form (b ∷ bs) = elim (cases_Bool (is_separator form b)) [
  | inl e ↦ simp e (ap (λ xs. b ∷ xs) (whole form bs))
  | inr e ↦ simp e (joined-onto b (pieces form bs) ∙ ap (λ xs. b ∷ xs) (whole form bs))
]

no_name : (n : Option ℕ) → option_and_then (last_name []) n ≡ None
no_name None = refl
no_name (Some n) = refl

shown_by : (form : Text) (w : Word) (b : Bool) (name : Option Word) → name ≡ None → (if b then or_name form w name else w) ≡ w
shown_by form w true name e = ap (or_name form w) e
shown_by form w false name e = refl

-- a piece that stays as it was, before others that do
same_piece : (shown w ended rest others : List ℕ) → shown ≡ w → rest ≡ others → shown ++ ended ++ rest ≡ w ++ ended ++ others
same_piece shown w ended rest others e h = cc

unnamed_from : (form : Text) (before : Word) (ps : List Piece) → shown_from form [] before ps ≡ joined ps
unnamed_from form before [] = refl
unnamed_from form before (p ∷ ps) =
    same_piece _ p.word p.ended _ _ (shown_by form p.word (is_one_of before (table_words form)) (name_of [] p.word) (no_name (at_most 4294967295 (decimal_value p.word)))) (unnamed_from form (last_word before p) ps)

pub unnamed : (form : Text) (text : List ℕ) → with_names form [] text ≡ text
unnamed form text = unnamed_from form [] (pieces form text) ∙ whole form text

-- the word is none that a table follows
abbrev IsOther : Text → Word → Type 0
IsOther form w = is_one_of w (table_words form) ≡ false

empty_is_other : (form : Text) → IsOther form []
empty_is_other Lines = refl
empty_is_other Json = refl

other_by : (form : Text) (ends some : Bool) (before w : Word) → IsOther form before → IsOther form w → IsOther form (if ends then [] else (if some then w else before))
other_by form true some before w h i = empty_is_other form
other_by form false true before w h i = i
other_by form false false before w h i = h

other_from : (form : Text) (names : TableNames) (before : Word) (ps : List Piece) → IsOther form before → Each (λ p. IsOther form p.word) ps → shown_from form names before ps ≡ joined ps
other_from form names before [] h all = refl
other_from form names before (p ∷ ps) h all =
    same_piece _ p.word p.ended _ _ (simp h refl) (other_from form names (last_word before p) ps (other_by form (bytes_eq p.ended (codes "\n")) (has_bytes p.word) before p.word h all.0) all.1)

pub without_tables : (form : Text) (names : TableNames) (text : List ℕ) → Each (λ p. IsOther form p.word) (pieces form text) → with_names form names text ≡ text
without_tables form names text all = other_from form names [] (pieces form text) (empty_is_other form) all ∙ whole form text
