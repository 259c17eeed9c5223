-- Commands that are in one line: the words of each are put together again.
use Rattle.std.proofs.Common.{◌≡◌, ℕ, Bool, true, false, List, [], ◌∷◌, ◌++◌, Result, Ok, Err, codes, refl, sym, ap, ◌∙◌, cond, ◌⊎◌, inl, inr, append_assoc, filter}
use Rattle.std.specs.List.{onto_first, slice_split, AllByRecursion as Each}
use Rattle.std.proofs.lemmas.List.{append-nil}
use Rattle.prt_addr.specs.Word.{Word, is_white}
use Rattle.prt_refusals.specs.declared.refusal.Refusal.{Refusal}
use Rattle.prt_refusals.specs.declared.refusal.Refusal.TheVariants.{NoMemory}
use Rattle.prt_command.proofs.Results.{ok_result}
use Rattle.prt_command.specs.Reading.{has_bytes, words}
use Rattle.prt_command.specs.Then.{◌>>=◌, map_ok}
use Rattle.prt_command.specs.declared.request.Command.{Command}
use Rattle.prt_replay.specs.ReadEvents.{command, commands, each_command, is_between}
use Rattle.prt_replay.specs.ReadSteps.{IsAdded}

-- ---- words

-- the word has bytes, and none of them is white space
abbrev pub IsBlack : Word → Type 0
IsBlack w = Each (λ b. is_white b ≡ false) w

pub record IsOneWord (w : Word) : Type 0 where
  pub black : IsBlack w
  pub some : has_bytes w ≡ true

onto_black : (b : ℕ) (parts : List Word) → is_white b ≡ false → Each IsBlack parts → Each IsBlack (onto_first b parts)
onto_black b [] black h = ((black, tt), tt)
onto_black b (part ∷ parts) black h = ((black, h.0), h.1)

split_by : (b : ℕ) (white : Bool) (parts : List Word) → is_white b ≡ white → Each IsBlack parts → Each IsBlack (cond white ([] ∷ parts) (onto_first b parts))
split_by b true parts is h = (tt, h)
split_by b false parts is h = onto_black b parts is h

split_black : (text : List ℕ) → Each IsBlack (slice_split is_white text)
split_black [] = (tt, tt)
split_black (b ∷ text) = split_by b (is_white b) (slice_split is_white text) refl (split_black text)

with_bytes : (part : Word) (some : Bool) (kept : List Word) → has_bytes part ≡ some → IsBlack part → Each IsOneWord kept → Each IsOneWord (cond some (part ∷ kept) kept)
with_bytes part true kept is black h = (record { black = black; some = is }, h)
with_bytes part false kept is black h = h

kept_words : (parts : List Word) → Each IsBlack parts → Each IsOneWord (filter has_bytes parts)
kept_words [] h = tt
kept_words (part ∷ parts) h = with_bytes part (has_bytes part) (filter has_bytes parts) refl h.0 (kept_words parts h.1)

first_of : (ws : List Word) (w : Word) (more : List Word) → ws ≡ w ∷ more → Each IsOneWord ws → IsOneWord w
first_of [] w more is h = absurd cc
first_of (v ∷ ws) w more is h = rw (sym (let same : v ≡ w = cc in same)) h.0

-- the first word of a text is one
pub is_one : (text : List ℕ) (w : Word) (more : List Word) → words text ≡ w ∷ more → IsOneWord w
is_one text w more is = first_of (words text) w more is (kept_words (slice_split is_white text) (split_black text))

split_after : (w : Word) (text : List ℕ) → IsBlack w → slice_split is_white (w ++ 32 ∷ text) ≡ w ∷ slice_split is_white text
split_after [] text black = refl
split_after (b ∷ w) text black = ap (λ white. cond white ([] ∷ slice_split is_white (w ++ 32 ∷ text)) (onto_first b (slice_split is_white (w ++ 32 ∷ text)))) black.0 ∙ ap (onto_first b) (split_after w text black.1)

-- a word and a space before a text
word_before : (w : Word) (text : List ℕ) → IsOneWord w → words (w ++ 32 ∷ text) ≡ w ∷ words text
word_before w text one = ap (filter has_bytes) (split_after w text one.black) ∙ ap (λ some. cond some (w ∷ words text) (words text)) one.some

-- the words of the line are those of any text that begins with it, before those of what follows
abbrev pub IsEnded : List ℕ → Type 0
IsEnded line = (text : List ℕ) → words (line ++ text) ≡ words line ++ words text

-- one word more
pub words_more : (line : List ℕ) (w : Word) → IsOneWord w → IsEnded line → words (line ++ (w ++ codes " ")) ≡ words line ++ w ∷ []
words_more line w one ended = ended (w ++ codes " ") ∙ ap (λ ws. words line ++ ws) (word_before w [] one)

pub ended_more : (line : List ℕ) (w : Word) → IsOneWord w → IsEnded line → IsEnded (line ++ (w ++ codes " "))
ended_more line w one ended text =
    ap words (append_assoc line (w ++ codes " ") text ∙ ap (λ xs. line ++ xs) (append_assoc w (codes " ") text))
    ∙ ended (w ++ 32 ∷ text)
    ∙ ap (λ ws. words line ++ ws) (word_before w text one)
    ∙ sym (append_assoc (words line) (w ∷ []) (words text))
    ∙ ap (λ ws. ws ++ words text) (sym (words_more line w one ended))

-- ---- commands

-- words before the first of these lists
abbrev pub onto_part : List Word → List (List Word) → List (List Word)
onto_part ws [] = ws ∷ []
onto_part ws (part ∷ parts) = (ws ++ part) ∷ parts

none_onto_first : (w : Word) (parts : List (List Word)) → onto_part [] (onto_first w parts) ≡ onto_first w parts
none_onto_first w [] = refl
none_onto_first w (part ∷ parts) = refl

none_by : (w : Word) (between : Bool) (parts : List (List Word)) → onto_part [] (cond between ([] ∷ parts) (onto_first w parts)) ≡ cond between ([] ∷ parts) (onto_first w parts)
none_by w true parts = refl
none_by w false parts = none_onto_first w parts

none_onto : (ws : List Word) → onto_part [] (slice_split is_between ws) ≡ slice_split is_between ws
none_onto [] = refl
none_onto (w ∷ ws) = none_by w (is_between w) (slice_split is_between ws)

onto_one_more : (ws : List Word) (w : Word) (parts : List (List Word)) → onto_part ws (onto_first w parts) ≡ onto_part (ws ++ w ∷ []) parts
onto_one_more ws w [] = refl
onto_one_more ws w (part ∷ parts) = ap (λ first. first ∷ parts) (sym (append_assoc ws (w ∷ []) part))

abbrev Commands : Type 0
Commands = Result (List Command) Refusal

-- The commands of a text are those that were read, and those of the words that are left; the line has the first of them.
pub record HasCommands (text : List ℕ) (before : List Command) (line rest : List ℕ) : Type 0 where
  pub ended : IsEnded line
  pub so_far : commands (words text) ≡ map_ok (λ more. before ++ more) (each_command (onto_part (words line) (slice_split is_between (words rest))))

same_commands : (r : Commands) → r ≡ map_ok (λ more. [] ++ more) r
same_commands (Ok them) = refl
same_commands (Err e) = refl

-- nothing has been read
pub none_read : (text : List ℕ) (before : List Command) (line : List ℕ) → before ≡ [] → line ≡ [] → HasCommands text before line text
none_read text before line no_command no_word = rw (no_command, no_word) (record {
  ended = λ more. refl;
  so_far = ap each_command (sym (none_onto (words text))) ∙ same_commands (each_command (onto_part [] (slice_split is_between (words text))));
})

joined : (before : List Command) (last : Command) (r : Commands) → map_ok (λ more. before ++ more) (map_ok (λ more. last ∷ more) r) ≡ map_ok (λ more. (before ++ last ∷ []) ++ more) r
joined before last (Ok more) = ap (λ xs. ok_result xs) (sym (append_assoc before (last ∷ []) more))
joined before last (Err e) = refl

-- what the words of the first command yield, and the others
abbrev first_gives : List Command → Result Command Refusal → List (List Word) → Commands
first_gives before r parts = map_ok (λ more. before ++ more) (r >>= λ first. map_ok (λ more. first ∷ more) (each_command parts))

-- the words of a command end
command_ends : (text : List ℕ) (before : List Command) (line rest : List ℕ) (parts : List (List Word)) (r : Result Command Refusal) → HasCommands text before line rest → slice_split is_between (words rest) ≡ [] ∷ parts → command (words line) ≡ r → commands (words text) ≡ first_gives before r parts
command_ends text before line rest parts r has ends is =
    has.so_far
    ∙ ap (λ all. map_ok (λ more. before ++ more) (each_command (onto_part (words line) all))) ends
    ∙ ap (λ ws. first_gives before (command ws) parts) (append-nil (words line))
    ∙ ap (λ r. first_gives before r parts) is

split_between : (rest : List ℕ) (w : Word) (ws : List Word) → words rest ≡ w ∷ ws → is_between w ≡ true → slice_split is_between (words rest) ≡ [] ∷ slice_split is_between ws
split_between rest w ws is between = ap (slice_split is_between) is ∙ ap (λ b. cond b ([] ∷ slice_split is_between ws) (onto_first w (slice_split is_between ws))) between

split_within : (rest : List ℕ) (w : Word) (ws : List Word) → words rest ≡ w ∷ ws → is_between w ≡ false → slice_split is_between (words rest) ≡ onto_first w (slice_split is_between ws)
split_within rest w ws is within = ap (slice_split is_between) is ∙ ap (λ b. cond b ([] ∷ slice_split is_between ws) (onto_first w (slice_split is_between ws))) within

-- a command was read up to a word `;`
pub command_read : (text : List ℕ) (before now : List Command) (line fresh rest after : List ℕ) (w : Word) → HasCommands text before line rest → words rest ≡ w ∷ words after → is_between w ≡ true → IsAdded before (words line) now → fresh ≡ [] → HasCommands text now fresh after
command_read text before now line fresh rest after w has is between one no_word = rw (no_word, one.added) (record {
  ended = λ more. refl;
  so_far =
      command_ends text before line rest (slice_split is_between (words after)) (Ok one.last) has (split_between rest w (words after) is between) one.is
      ∙ joined before one.last (each_command (slice_split is_between (words after)))
      ∙ ap (λ all. map_ok (λ more. (before ++ one.last ∷ []) ++ more) (each_command all)) (sym (none_onto (words after)));
})

-- one word more of a command
pub word_read : (text : List ℕ) (before : List Command) (line longer rest after : List ℕ) (w : Word) → HasCommands text before line rest → words rest ≡ w ∷ words after → is_between w ≡ false → longer ≡ line ++ (w ++ codes " ") → HasCommands text before longer after
word_read text before line longer rest after w has is within grown =
    let one : IsOneWord w = is_one rest w (words after) is in
    rw grown (record {
      ended = ended_more line w one has.ended;
      so_far =
          has.so_far
          ∙ ap (λ all. map_ok (λ more. before ++ more) (each_command (onto_part (words line) all))) (split_within rest w (words after) is within)
          ∙ ap (λ all. map_ok (λ more. before ++ more) (each_command all)) (onto_one_more (words line) w (slice_split is_between (words after)))
          ∙ ap (λ ws. map_ok (λ more. before ++ more) (each_command (onto_part ws (slice_split is_between (words after))))) (sym (words_more line w one has.ended));
    })

-- a command that is refused before a word `;`
pub command_refused : (text : List ℕ) (before : List Command) (line rest after : List ℕ) (w : Word) (e : Refusal) → HasCommands text before line rest → words rest ≡ w ∷ words after → is_between w ≡ true → (command (words line) ≡ Err e) ⊎ (e ≡ NoMemory) → (commands (words text) ≡ Err e) ⊎ (e ≡ NoMemory)
command_refused text before line rest after w e has is between (inl refused) = inl (command_ends text before line rest (slice_split is_between (words after)) (Err e) has (split_between rest w (words after) is between) refused)
command_refused text before line rest after w e has is between (inr memory) = inr memory

-- the last command
pub last_read : (text : List ℕ) (before now : List Command) (line rest : List ℕ) → HasCommands text before line rest → words rest ≡ [] → IsAdded before (words line) now → commands (words text) ≡ Ok now
last_read text before now line rest has is one =
    command_ends text before line rest [] (Ok one.last) has (ap (slice_split is_between) is) one.is ∙ ap (λ xs. ok_result xs) (sym one.added)

pub last_refused : (text : List ℕ) (before : List Command) (line rest : List ℕ) (e : Refusal) → HasCommands text before line rest → words rest ≡ [] → (command (words line) ≡ Err e) ⊎ (e ≡ NoMemory) → (commands (words text) ≡ Err e) ⊎ (e ≡ NoMemory)
last_refused text before line rest e has is (inl refused) = inl (command_ends text before line rest [] (Err e) has (ap (slice_split is_between) is) refused)
last_refused text before line rest e has is (inr memory) = inr memory
