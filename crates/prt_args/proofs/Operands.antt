-- What the reader of a question has read of its words.
use Rattle.std.proofs.Common.{◌≡◌, ◌∙◌, ◌==◌, ℕ, ◌+◌, ◌<◌, ◌≤◌, Bool, false, true≢false, sym, ap, List, [], ◌∷◌, ◌++◌, Option, Some, None, Bor, length, get_or, drop, map, option_map, append_assoc, append-nil, drop-cons, add-one, unwrap_or}
use Rattle.std.proofs.lemmas.List.{drop_all}
use Rattle.prt_addr.specs.Word.{Word}
use Rattle.clap.specs.declared.parser.matches.ArgMatches.{ArgMatches}
use Rattle.prt_args.specs.Read.{IsSourceBy, spaced}
use Rattle.prt_args.specs.declared.asking.Source.{Source}
use Rattle.prt_args.specs.declared.asking.Source.TheVariants.{Database, Script, Server}
use Rattle.prt_args.specs.declared.asking.Verb.{Verb}
use Rattle.prt_args.specs.declared.asking.Verb.TheVariants.{Explain}

-- the texts of words
abbrev pub texts_of : List (Bor Word) → List Word
texts_of words = map (λ word. word.now) words

-- the operands that a parse has, or none
pub operands_read : (given : Option (Bor (List (Bor Word)))) (none : Bor (List (Bor Word))) (found : Option (List Word)) → none.now ≡ [] → option_map (λ words. map (λ word. word.now) words.now) given ≡ found
    → texts_of (unwrap_or given none).now ≡ unwrap_or found []
operands_read None none found empty is = ap texts_of empty ∙ ap (λ found. unwrap_or found []) is
operands_read (Some words) none found empty is = ap (λ found. unwrap_or found []) is

-- the line so far, and the words that are still to come
abbrev pub IsSoFar : List ℕ → List (Bor Word) → ℕ → List ℕ → Type 0
IsSoFar line words i whole = line ++ spaced (texts_of (drop i words)) ≡ whole

pub one_word_more : (line : List ℕ) (words : List (Bor Word)) (i : ℕ) (d : Bor Word) (whole : List ℕ) → i < length words → IsSoFar line words i whole
    → IsSoFar ((line ++ 32 ∷ []) ++ (get_or words i d).now) words (i + 1) whole
one_word_more line words i d whole within is =
    let word = (get_or words i d).now in
    let rest = spaced (texts_of (drop (i + 1) words)) in
    append_assoc (line ++ 32 ∷ []) word rest ∙ append_assoc line (32 ∷ []) (word ++ rest)
    ∙ ap (λ n. line ++ (32 ∷ (word ++ spaced (texts_of (drop n words))))) (add-one i)
    ∙ sym (ap (λ left. line ++ spaced (texts_of left)) (drop-cons words i d within)) ∙ is

pub all_words : (line : List ℕ) (words : List (Bor Word)) (i : ℕ) (whole : List ℕ) → length words ≤ i → IsSoFar line words i whole → line ≡ whole
all_words line words i whole past is = sym (append-nil line) ∙ sym (ap (λ left. line ++ spaced (texts_of left)) (drop_all i words past)) ∙ is

-- the tables and the words, also of what is meant by the subcommand
pub source_meant : (matches : ArgMatches) (queried meant : Verb) (operands words : List Word) (source : Source) → (queried ≡ Explain → meant ≡ Explain) → IsSourceBy matches queried operands source words
    → IsSourceBy matches meant operands source words
source_meant matches queried meant operands words (Script script) same is = (same is.0, is.1, is.2, is.3, is.4)
source_meant matches queried meant operands words (Database path) same is = is
source_meant matches queried meant operands words (Server place) same is = is

-- a slice of words that isn't empty has a word
pub some_word_left : (words : List (Bor Word)) (is_empty : Bool) → is_empty ≡ (length words == 0) → is_empty ≡ false → texts_of words ≡ [] → ⊥
some_word_left [] is_empty is other none = absurd (true≢false (sym is ∙ other))
some_word_left (word ∷ words) is_empty is other none = absurd cc
