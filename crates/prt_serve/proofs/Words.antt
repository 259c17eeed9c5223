-- Lines that have a word.
use Rattle.std.proofs.Common.{◌≡◌, ◌≢◌, ℕ, ◌+◌, ◌==◌, ◌<◌, ◌≤◌, List, [], ◌∷◌, Bool, true, false, not, Some, None, Result, Ok, Err, suc, refl, sym, subst, filter, arith}
use Rattle.std.specs.List.{onto_first, slice_split}
use Rattle.std.specs.Prelude.{nat_lt}
use Rattle.prt_addr.specs.Word.{Word, is_white}
use Rattle.prt_refusals.specs.declared.refusal.Refusal.{Refusal}
use Rattle.prt_refusals.specs.declared.refusal.Refusal.TheVariants.{LineTooLong, NotAscii}
use Rattle.prt_command.specs.Reading.{before_comment, has_bytes, reading, words, words_request}
use Rattle.prt_command.specs.Requests.{refuse_if}
use Rattle.prt_command.specs.Then.{◌>>=◌}
use Rattle.prt_command.specs.declared.request.Request.{Request}

one_plus : (n : ℕ) → 1 + n ≡ suc n
one_plus n = omega arith

asks : (r : Result Request Refusal) → (r >>= λ request. Ok (Some request)) ≢ Ok None
asks (Ok request) = λ h. absurd cc
asks (Err refusal) = λ h. absurd cc

-- a text that begins with a byte of a word has a word
record HasWord (ws : List Word) : Type 0 where
  word : Word
  others : List Word
  are : ws ≡ word ∷ others

onto_word : (b : ℕ) (parts : List Word) → HasWord (filter has_bytes (onto_first b parts))
onto_word b [] = record { word = b ∷ []; others = []; are = refl }
onto_word b (part ∷ parts) = record { word = b ∷ part; others = filter has_bytes parts; are = refl }

has_word : (b : ℕ) (text : List ℕ) → is_white b ≡ false → HasWord (words (b ∷ text))
has_word b text black = simp black (onto_word b (slice_split is_white text))

line_has_word : (b : ℕ) (line : List ℕ) → is_white b ≡ false → b == 35 ≡ false → HasWord (words (before_comment (b ∷ line)))
line_has_word b line black plain = simp (plain, one_plus) (has_word b (before_comment line) black)

asks_by : (ws : List Word) → HasWord ws → words_request ws ≢ Ok None
asks_by ws has = subst (λ (us : List Word). words_request us ≢ Ok None) (sym has.are) (asks _)

not_refused : (is_long is_odd : Bool) (ws : List Word) → HasWord ws → ((refuse_if is_long LineTooLong >>= λ _. refuse_if is_odd NotAscii >>= λ _. Ok ws) >>= words_request) ≢ Ok None
not_refused true is_odd ws has = λ h. absurd cc
not_refused false true ws has = λ h. absurd cc
not_refused false false ws has = asks_by ws has

pub asks_on : (b : ℕ) (line : List ℕ) → is_white b ≡ false → b == 35 ≡ false → reading (b ∷ line) ≢ Ok None
asks_on b line black plain = not_refused _ _ _ (line_has_word b line black plain)

pub not_hash : (is_hash : Bool) → not is_hash ≡ true → is_hash ≡ false
not_hash true other = sym other
not_hash false other = refl

pub black_above : (b : ℕ) → 32 < b → is_white b ≡ false
black_above b above = grind arith

pub none_above : (b : ℕ) → b ≤ 32 → nat_lt 32 b ≡ true → ⊥
none_above b low h = grind arith
