-- Texts made of parts, and the items that their words are.
use Rattle.std.proofs.Common.{◌≡◌, ℕ, ◌+◌, ◌<◌, ◌≤◌, Bool, true, false, not, List, [], ◌∷◌, ◌++◌, Option, Some, None, Ok, refl, sym, ap, ◌∙◌, subst, append_assoc, arith, length, filter}
use Rattle.std.specs.Prelude.{codes, ◌&&◌, ◌==◌, if◌then◌else◌}
use Rattle.std.specs.List.{filter_map, join_with_byte, list_all, onto_first, slice_split, AllByRecursion as Each}
use Rattle.std.proofs.lemmas.Bool.Decides.{nat_tests}
use Rattle.std.proofs.lemmas.List.{append-nil, length-append}
use Rattle.std.proofs.lemmas.List.Elements.{All-from_recursion, filter-append}
use Rattle.std.proofs.lemmas.List.Folds.{list_all-append}
use Rattle.std.proofs.lemmas.List.Splits.{length-slice_split, slice_split-cons_no, slice_split-cons_yes, slice_split_none}
use Rattle.prt_addr.specs.Word.{Word, is_white}
use Rattle.prt_command.specs.Items.{has, put}
use Rattle.prt_command.specs.LineKinds.{LineKind, is_to, word_in}
use Rattle.prt_command.specs.Reading.{has_bytes, is_text_byte, words}
use Rattle.prt_command.specs.Scan.{item_by, item_ends, items_of, one_more, plain_by, plain_from, plain_item, what_follows}
use Rattle.prt_command.specs.Steps.{and_items}
use Rattle.prt_command.specs.Values.{prefix_word, value}
use Rattle.prt_command.specs.declared.item.Item.{Item}
use Rattle.prt_command.specs.declared.item.Items.{Items}
use Rattle.prt_command.specs.declared.item.ItemWord.TheVariants.{Keyword}
use Rattle.prt_command.specs.declared.item.PrefixWord.{PrefixWord}
use Rattle.prt_command.specs.declared.item.Slot.{Slot}
use Rattle.prt_listing.specs.Parts.{spaced}
use Rattle.prt_spelling.specs.Plain.{is_plain_byte}

-- ---- texts and their words

-- a byte of a line, before its comment
abbrev pub is_line_byte : ℕ → Bool
is_line_byte b = is_text_byte b && not (b == 35)

-- A text of at most so many bytes, with these words.
pub record IsText (n : ℕ) (t : List ℕ) (ws : List Word) : Type 0 where
  pub words : words t ≡ ws
  pub plain : list_all is_line_byte t ≡ true
  pub short : length t ≤ n

-- A word of at most so many bytes.
pub record IsWord (n : ℕ) (w : Word) : Type 0 where
  pub some : 0 < length w
  pub plain : list_all is_plain_byte w ≡ true
  pub short : length w ≤ n

both : (p q : Bool) → p && q ≡ true → (p ≡ true) × (q ≡ true)
both true true h = (refl, refl)
both true false h = absurd cc
both false q h = absurd cc

pub all_implies : (p q : ℕ → Bool) → ((b : ℕ) → p b ≡ true → q b ≡ true) → (t : List ℕ) → list_all p t ≡ true → list_all q t ≡ true
all_implies p q more [] h = refl
all_implies p q more (b ∷ t) h =
    let each = both (p b) (list_all p t) h in
    simp (more b each.0) (all_implies p q more t each.1)

pub each_of_all : (p : ℕ → Bool) (P : ℕ → Type 0) → ((b : ℕ) → p b ≡ true → P b) → (t : List ℕ) → list_all p t ≡ true → Each P t
each_of_all p P gives [] h = tt
each_of_all p P gives (b ∷ t) h =
    let each = both (p b) (list_all p t) h in
    (gives b each.0, each_of_all p P gives t each.1)

pub all_of_each : (p : ℕ → Bool) (P : ℕ → Type 0) → ((b : ℕ) → P b → p b ≡ true) → (t : List ℕ) → Each P t → list_all p t ≡ true
all_of_each p P gives [] h = refl
all_of_each p P gives (b ∷ t) h = simp (gives b h.0) (all_of_each p P gives t h.1)

line_byte : (b : ℕ) → is_plain_byte b ≡ true → is_line_byte b ≡ true
line_byte b plain = grind (arith, nat_tests)

black_byte : (b : ℕ) → is_plain_byte b ≡ true → is_white b ≡ false
black_byte b plain = grind (arith, nat_tests)

with_bytes : (w : Word) → 0 < length w → filter has_bytes (w ∷ []) ≡ w ∷ []
with_bytes [] some = absurd (omega (arith, some))
with_bytes (b ∷ w) some = refl

pub word_text : (n : ℕ) (w : Word) → IsWord n w → IsText n w (w ∷ [])
word_text n w is = record {
  words = ap (filter has_bytes) (slice_split_none is_white w (All-from_recursion (λ b. is_white b ≡ false) w (each_of_all is_plain_byte (λ b. is_white b ≡ false) black_byte w is.plain))) ∙ with_bytes w is.some;
  plain = all_implies is_plain_byte is_line_byte line_byte w is.plain;
  short = is.short;
}

onto_first-append : (x : ℕ) (ps qs : List Word) → 0 < length ps → onto_first x (ps ++ qs) ≡ onto_first x ps ++ qs
onto_first-append x [] qs some = absurd (omega (arith, some))
onto_first-append x (p ∷ ps) qs some = refl

some_parts : (t : List ℕ) → 0 < length (slice_split is_white t)
some_parts t = omega (arith, length-slice_split is_white t)

parts_by : (x : ℕ) (t u : List ℕ) (b : Bool) → is_white x ≡ b → slice_split is_white (t ++ 32 ∷ u) ≡ slice_split is_white t ++ slice_split is_white u → slice_split is_white (x ∷ (t ++ 32 ∷ u)) ≡ slice_split is_white (x ∷ t) ++ slice_split is_white u
parts_by x t u true is rest =
    slice_split-cons_yes is_white x (t ++ 32 ∷ u) is ∙ ap (λ ps. [] ∷ ps) rest
    ∙ ap (λ ps. ps ++ slice_split is_white u) (sym (slice_split-cons_yes is_white x t is))
parts_by x t u false is rest =
    slice_split-cons_no is_white x (t ++ 32 ∷ u) is ∙ ap (onto_first x) rest
    ∙ onto_first-append x (slice_split is_white t) (slice_split is_white u) (some_parts t)
    ∙ ap (λ ps. ps ++ slice_split is_white u) (sym (slice_split-cons_no is_white x t is))

parts_around : (t u : List ℕ) → slice_split is_white (t ++ 32 ∷ u) ≡ slice_split is_white t ++ slice_split is_white u
parts_around [] u = refl
parts_around (x ∷ t) u = parts_by x t u (is_white x) refl (parts_around t u)

words_around : (t u : List ℕ) → words (t ++ 32 ∷ u) ≡ words t ++ words u
words_around t u = ap (filter has_bytes) (parts_around t u) ∙ filter-append has_bytes (slice_split is_white t) (slice_split is_white u)

both_lists : (a b : Bool) → a ≡ true → b ≡ true → a && b ≡ true
both_lists a b first second = ap (λ a. a && b) first ∙ second

-- two texts with a space between them
pub spaced_texts : (m n : ℕ) (t u : List ℕ) (ws vs : List Word) → IsText m t ws → IsText n u vs → IsText (m + (1 + n)) (t ++ 32 ∷ u) (ws ++ vs)
spaced_texts m n t u ws vs first second = record {
  words = words_around t u ∙ ap (λ xs. xs ++ words u) first.words ∙ ap (λ xs. ws ++ xs) second.words;
  plain = list_all-append is_line_byte t (32 ∷ u) ∙ both_lists _ _ first.plain second.plain;
  short = omega (arith, length-append t (32 ∷ u), first.short, second.short);
}

-- a text before others
pub joined : (m n : ℕ) (t : List ℕ) (ts : List (List ℕ)) (ws vs : List Word) → IsText m t ws → IsText n (join_with_byte 32 ts) vs → IsText (m + (1 + n)) (join_with_byte 32 (t ∷ ts)) (ws ++ vs)
joined m n t [] ws vs first rest = record {
  words = first.words ∙ sym (append-nil ws) ∙ ap (λ xs. ws ++ xs) rest.words;
  plain = first.plain;
  short = omega (arith, first.short);
}
joined m n t (u ∷ us) ws vs first rest = spaced_texts m n t (join_with_byte 32 (u ∷ us)) ws vs first rest

-- ---- the items of a line

-- The parts make a text whose words take the reading of a line from these items to those.
pub record Reads (line : LineKind) (n : ℕ) (given after : Items) (parts : List (Option (List ℕ))) : Type 0 where
  pub ws : List Word
  pub text : IsText n (spaced parts) ws
  pub goes : (rest : List Word) → items_of line given (ws ++ rest) ≡ items_of line after rest

pub reads_none : (line : LineKind) (given : Items) → Reads line 0 given given []
reads_none line given = record { ws = []; text = record { words = refl; plain = refl; short = omega arith }; goes = λ rest. refl }

-- What is in one part that may be left out.
pub record ReadsOne (line : LineKind) (n : ℕ) (given after : Items) (part : Option (List ℕ)) : Type 0 where
  pub more : (k : ℕ) (last : Items) (parts : List (Option (List ℕ))) → Reads line k after last parts → Reads line (n + (1 + k)) given last (part ∷ parts)

pub reads_left_out : (line : LineKind) (n : ℕ) (given after : Items) → given ≡ after → ReadsOne line n given after None
reads_left_out line n given after same = record {
  more = λ k last parts rest. record {
    ws = rest.ws;
    text = record { words = rest.text.words; plain = rest.text.plain; short = omega (arith, rest.text.short) };
    goes = λ others. ap (λ items. items_of line items (rest.ws ++ others)) same ∙ rest.goes others;
  };
}

pub reads_shown : (line : LineKind) (n : ℕ) (given after : Items) (t : List ℕ) (ws : List Word) → IsText n t ws → ((rest : List Word) → items_of line given (ws ++ rest) ≡ items_of line after rest) → ReadsOne line n given after (Some t)
reads_shown line n given after t ws is goes = record {
  more = λ k last parts rest. record {
    ws = ws ++ rest.ws;
    text = joined n k t (filter_map (λ text. text) parts) ws rest.ws is rest.text;
    goes = λ others. ap (items_of line given) (append_assoc ws rest.ws others) ∙ goes (rest.ws ++ others) ∙ rest.goes others;
  };
}

-- ---- a keyword and its value

pub keyword_goes : (line : LineKind) (given : Items) (slot : Slot) (w v : Word) (x : Item) → word_in line.entries w ≡ Some (Keyword slot) → has slot given ≡ false → value slot None v ≡ Ok x → (rest : List Word) → items_of line given (w ∷ v ∷ rest) ≡ items_of line (put x given) rest
keyword_goes line given slot w v x begins new is rest =
    ap (λ o. and_items line given (item_by o line.plain given w (v ∷ rest)) (v ∷ rest)) begins
    ∙ ap (λ b. and_items line given (what_follows b (λ v vs. item_ends (value slot None v)) (v ∷ rest)) (v ∷ rest)) new
    ∙ ap (λ r. and_items line given (one_more (item_ends r)) (v ∷ rest)) is

-- two words
pub reads_two : (line : LineKind) (m n : ℕ) (given after : Items) (w v : Word) → IsWord m w → IsWord n v → ((rest : List Word) → items_of line given (w ∷ v ∷ rest) ≡ items_of line after rest) → ReadsOne line (m + (1 + n)) given after (Some (w ++ codes " " ++ v))
reads_two line m n given after w v word val goes =
    let text : IsText (m + (1 + n)) (w ++ codes " " ++ v) (w ∷ v ∷ []) =
    subst (λ t. IsText (m + (1 + n)) t (w ∷ v ∷ [])) (sym (append_assoc w (codes " ") v)) (spaced_texts m n w v (w ∷ []) (v ∷ []) (word_text m w word) (word_text n v val)) in
    reads_shown line (m + (1 + n)) given after (w ++ codes " " ++ v) (w ∷ v ∷ []) text goes

pub reads_keyword : (line : LineKind) (m n : ℕ) (given : Items) (slot : Slot) (w v : Word) (x : Item) → word_in line.entries w ≡ Some (Keyword slot) → has slot given ≡ false → value slot None v ≡ Ok x → IsWord m w → IsWord n v → ReadsOne line (m + (1 + n)) given (put x given) (Some (w ++ codes " " ++ v))
reads_keyword line m n given slot w v x begins new is word val = reads_two line m n given (put x given) w v word val (keyword_goes line given slot w v x begins new is)

-- ---- a word before a prefix, and the prefix

pub opened_goes : (line : LineKind) (given : Items) (slot : Slot) (b : PrefixWord) (w v : Word) (x : Item) → line.plain ≡ Some slot → word_in line.entries w ≡ None → is_to w ≡ false → prefix_word slot w ≡ Some b → has slot given ≡ false → value slot (Some b) v ≡ Ok x → (rest : List Word) → items_of line given (w ∷ v ∷ rest) ≡ items_of line (put x given) rest
opened_goes line given slot b w v x plain none to names new is rest =
    ap (λ o. and_items line given (item_by o line.plain given w (v ∷ rest)) (v ∷ rest)) none
    ∙ ap (λ o. and_items line given (plain_item o given w (v ∷ rest)) (v ∷ rest)) plain
    ∙ ap (λ t. and_items line given (if t then what_follows (has slot given) (plain_from slot given) (v ∷ rest) else plain_from slot given w (v ∷ rest)) (v ∷ rest)) to
    ∙ ap (λ o. and_items line given (plain_by slot o given w (v ∷ rest)) (v ∷ rest)) names
    ∙ ap (λ t. and_items line given (what_follows t (λ v vs. item_ends (value slot (Some b) v)) (v ∷ rest)) (v ∷ rest)) new
    ∙ ap (λ r. and_items line given (one_more (item_ends r)) (v ∷ rest)) is

-- ---- a word that says an item alone

pub reads_alone : (line : LineKind) (n : ℕ) (given : Items) (w : Word) (x : Item) → ((rest : List Word) → items_of line given (w ∷ rest) ≡ items_of line (put x given) rest) → IsWord n w → ReadsOne line n given (put x given) (Some w)
reads_alone line n given w x goes word = reads_shown line n given (put x given) w (w ∷ []) (word_text n w word) goes
