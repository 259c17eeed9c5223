-- The first word of a text.
use Rattle.std.proofs.Common.{◌≡◌, ℕ, zero, suc, ◌<◌, ◌≤◌, List, [], ◌∷◌, Bool, true, false, not, ◌&&◌, refl, length, filter, take, drop, ◌∙◌, ap, sym, arith, ◌⊎◌, inl, inr, ◌==◌, ◌+◌}
use Rattle.std.specs.List.{list_all, position, position_or_len, onto_first, slice_split}
use Rattle.std.specs.Prelude.{unwrap_or, nat_lt, ◌-◌}
use Rattle.std.proofs.lemmas.Bool.{ltb-false}
use Rattle.std.proofs.lemmas.List.{take_all, length-drop}
use Rattle.prt_addr.specs.Word.{Word, is_white}
use Rattle.prt_command.specs.Reading.{before_comment, words, has_bytes, is_text_byte}

abbrev pub is_black : ℕ → Bool
is_black b = not (is_white b)

-- true or false, with its equation
sides : (b : Bool) → (b ≡ true) ⊎ (b ≡ false)
sides true = inl refl
sides false = inr refl

one_plus : (n : ℕ) → 1 + n ≡ suc n
one_plus n = omega arith

both : (p q : Bool) → p && q ≡ true → (p ≡ true) × (q ≡ true)
both true true h = (refl, refl)
both true false h = absurd cc
both false q h = absurd cc

-- a byte of a line that is all plain is ASCII text and no `#`
text_first : (b : ℕ) → is_text_byte b && not (b == 35) ≡ true → is_text_byte b ≡ true
text_first b plain = (both (is_text_byte b) (not (b == 35)) plain).0

no_hash_first : (b : ℕ) → is_text_byte b && not (b == 35) ≡ true → b == 35 ≡ false
no_hash_first b plain = elim (sides (b == 35)) [
  | inl h ↦ let k : false ≡ true = ap not (sym h) ∙ (both (is_text_byte b) (not (b == 35)) plain).1 in absurd cc
  | inr h ↦ h
]

abbrev is_plain_byte : ℕ → Bool
is_plain_byte b = is_text_byte b && not (b == 35)

-- a line of such bytes has no comment
pub plain_line : (line : List ℕ) → list_all is_plain_byte line ≡ true → before_comment line ≡ line
plain_line [] plain = refl
plain_line (b ∷ bs) plain =
    let each = both (is_plain_byte b) (list_all is_plain_byte bs) plain in
    let h = no_hash_first b each.0 in
    simp (h, one_plus) (ap (λ ys. b ∷ ys) (plain_line bs each.1))

-- and it is ASCII text
pub plain_text : (line : List ℕ) → list_all is_plain_byte line ≡ true → list_all is_text_byte line ≡ true
plain_text [] plain = refl
plain_text (b ∷ bs) plain =
    let each = both (is_plain_byte b) (list_all is_plain_byte bs) plain in
    let h = text_first b each.0 in
    simp h (plain_text bs each.1)

-- white space in front says nothing
words-white : (b : ℕ) (bs : List ℕ) → is_white b ≡ true → words (b ∷ bs) ≡ words bs
words-white b bs h = simp h refl

words-drop_white : (t : List ℕ) → words t ≡ words (drop (position_or_len is_black t) t)
words-drop_white [] = refl
words-drop_white (b ∷ bs) = elim (sides (is_white b)) [
  | inl h ↦ words-white b bs h ∙ words-drop_white bs ∙ simp (h, one_plus) refl
  | inr h ↦ simp h refl
]

filter-onto_twice : (b c : ℕ) (ps : List Word) → filter has_bytes (onto_first b (onto_first c ps)) ≡ onto_first b (filter has_bytes (onto_first c ps))
filter-onto_twice b c [] = refl
filter-onto_twice b c (w ∷ ws) = refl

-- a byte of a word: the bytes before the first white space, and what comes from there on
word_front : (b : ℕ) (u : List ℕ) → filter has_bytes (onto_first b (slice_split is_white u)) ≡ (b ∷ take (position_or_len is_white u) u) ∷ words (drop (position_or_len is_white u) u)
word_front b [] = refl
word_front b (c ∷ cs) = elim (sides (is_white c)) [
  | inl h ↦ simp h refl
  | inr h ↦ simp (h, one_plus) (filter-onto_twice b c (slice_split is_white cs) ∙ ap (onto_first b) (word_front c cs))
]

first_word : (b : ℕ) (bs : List ℕ) → is_white b ≡ false → words (b ∷ bs) ≡ take (position_or_len is_white (b ∷ bs)) (b ∷ bs) ∷ words (drop (position_or_len is_white (b ∷ bs)) (b ∷ bs))
first_word b bs h = simp (h, one_plus) (word_front b bs)

-- what comes after white space begins with none
begins_black : (t u : List ℕ) (b : ℕ) → drop (position_or_len is_black t) t ≡ b ∷ u → is_white b ≡ false
begins_black [] u b h = absurd cc
begins_black (c ∷ cs) u b h = elim (sides (is_white c)) [
  | inl w ↦ begins_black cs u b (simp (w, one_plus) at h)
  | inr w ↦ let e : c ∷ cs ≡ b ∷ u = simp w at h in cc
]

-- the text after its white space: its first word, or none
words_after : (t u : List ℕ) → u ≡ drop (position_or_len is_black t) t → 0 < length u → words t ≡ take (position_or_len is_white u) u ∷ words (drop (position_or_len is_white u) u)
words_after t [] e l = absurd (omega (arith, l))
words_after t (b ∷ bs) e l = words-drop_white t ∙ ap words (sym e) ∙ first_word b bs (begins_black t bs b (sym e))

no_words_after : (t u : List ℕ) → u ≡ drop (position_or_len is_black t) t → length u ≡ 0 → words t ≡ []
no_words_after t [] e l = words-drop_white t ∙ ap words (sym e)
no_words_after t (b ∷ bs) e l = absurd (omega (arith, l))

-- the first word of such a text has a byte
word_has_bytes : (t u : List ℕ) → u ≡ drop (position_or_len is_black t) t → 0 < length u → 0 < position_or_len is_white u
word_has_bytes t [] e l = l
word_has_bytes t (b ∷ bs) e l = let h = begins_black t bs b (sym e) in simp (h, one_plus) (omega arith)

position_or_len-le : (p : ℕ → Bool) (xs : List ℕ) → position_or_len p xs ≤ length xs
position_or_len-le p [] = omega arith
position_or_len-le p (x ∷ xs) = elim (sides (p x)) [
  | inl h ↦ simp h (omega arith)
  | inr h ↦ let i = position_or_len-le p xs in simp h (omega (arith, i))
]

abbrev pub place : (ℕ → Bool) → List ℕ → ℕ
place p xs = unwrap_or (position p xs) (length xs)

pub place_is : (p : ℕ → Bool) (xs : List ℕ) → place p xs ≡ position_or_len p xs
place_is p xs = elim (sides (nat_lt (position_or_len p xs) (length xs))) [
  | inl h ↦ simp h refl
  | inr h ↦ let i = position_or_len-le p xs in let j : length xs ≤ position_or_len p xs = ltb-false _ _ h in simp h (omega (arith, i, j))
]

pub place_within : (p : ℕ → Bool) (xs : List ℕ) (n : ℕ) → n ≡ place p xs → n ≤ length xs
place_within p xs n e = let i = position_or_len-le p xs in let j = place_is p xs in omega (arith, i, j, e)

-- the text from a place on, as a slice returns it
abbrev pub from : List ℕ → ℕ → List ℕ
from xs n = take (length xs - n) (drop n xs)

pub from-drop : (xs : List ℕ) (n : ℕ) → n ≤ length xs → from xs n ≡ drop n xs
from-drop xs n l = take_all (length xs - n) (drop n xs) (let e = length-drop n xs in omega (arith, e))

-- the text after n bytes, those of its white space
rest_is : (t : List ℕ) (n : ℕ) → n ≡ place is_black t → from t n ≡ drop (position_or_len is_black t) t
rest_is t n e = from-drop t n (place_within is_black t n e) ∙ ap (λ k. drop k t) (e ∙ place_is is_black t)

pub no_words : (t : List ℕ) (n : ℕ) → n ≡ place is_black t → length (from t n) ≡ 0 → words t ≡ []
no_words t n e l = no_words_after t (from t n) (rest_is t n e) l

pub next_of_words : (t : List ℕ) (n m : ℕ) → n ≡ place is_black t → 0 < length (from t n) → m ≡ place is_white (from t n) → (words t ≡ take m (from t n) ∷ words (from (from t n) m)) × (length (from (from t n) m) < length t)
next_of_words t n m e l f =
    let u = from t n in
    let r : u ≡ drop (position_or_len is_black t) t = rest_is t n e in
    let g : from u m ≡ drop m u = from-drop u m (place_within is_white u m f) in
    let k : m ≡ position_or_len is_white u = f ∙ place_is is_white u in (
      words_after t u r l ∙ ap (λ j. take j u ∷ words (drop j u)) (sym k) ∙ ap (λ x. take m u ∷ words x) (sym g),
      let p = word_has_bytes t u r l in
          let a : length (from u m) ≡ length u - m = ap length g ∙ length-drop m u in
          let d : from t n ≡ drop n t = from-drop t n (place_within is_black t n e) in
          let b : length u ≡ length t - n = ap length d ∙ length-drop n t in
          omega (arith, p, a, b, k, l),
    )

pub zero_of : (n : ℕ) → n == 0 ≡ true → n ≡ 0
zero_of zero h = refl
zero_of (suc n) h = grind (arith, h)

pub some_of : (n : ℕ) → n == 0 ≡ false → 0 < n
some_of zero h = absurd cc
some_of (suc n) h = omega arith
