-- Places among the words of `batch` from which every list of words is a mistake: where what is pending cannot be used.
use Rattle.std.proofs.Common.{◌≡◌, ◌∙◌, ℕ, Bool, cond, true, false, refl, sym, inl, subst, List, [], ◌∷◌, Option, Some, None, is_some, codes, eqb-true, true≢false}
use Rattle.std.specs.Prelude.{◌==◌, drop, encode_utf8, length, slice_get}
use Rattle.std.specs.Str.{chars}
use Rattle.clap.specs.Kinds.{Kinds, or_else}
use Rattle.clap.specs.Lexer.{name_and_value}
use Rattle.clap.specs.Faults.{turn_fault, walk_fault, word_fault, step_fault, settle_fault, long_fault, short_fault, option_fault, react_fault, use_fault, flags_fault}
use Rattle.clap.specs.Walk.{Held, Row, Rule, Text, Waiting, arg_by_long, arg_by_short, walked, word_met, settled, reacted, takes_values, attached_value, subcommand_met, idle, option as waits_for, positional}
use Rattle.clap.specs.declared.error.kind.ErrorKind.TheVariants as kind
use Rattle.prt_addr.specs.Word.{Word}
use Rattle.prt_args.specs.Invocation.{Batch, DatabaseOption, ServerOption, Valued, is_delimiter, is_option, usage_error}
use Rattle.prt_args.proofs.Walks.{Reads, word_mistaken, word_taken}
use Rattle.prt_args.proofs.WordClasses.{Class, IsMistake, awaits_option, class_of, held_at, mistaken_or, rules_of, settles, shape_of, value_id, value_turn, walk_at, walk_when}
use Rattle.prt_args.proofs.WordClasses as class

-- what is pending cannot be used
abbrev pub IsLost : List Row → Option (Text × List Text) → Type 0
IsLost rows pending = IsMistake (settle_fault (rules_of Batch) false (held_at rows pending))

-- ---- an option

option_lost : (c : List Rule) (a : Rule) (value : Option Text) (h : Held) → IsMistake (settle_fault c false h) → IsMistake (option_fault c false a value h)
option_lost c a None h bad = bad
option_lost c a (Some v) h bad = mistaken_or (settle_fault c false h) (use_fault false a (v ∷ []) (settled c h).rows) bad

long_lost : (c : List Rule) (rule : Option Rule) (value : Option Text) (h : Held) → IsMistake (settle_fault c false h) → IsMistake (long_fault c false rule value h)
long_lost c None value h bad = refl
long_lost c (Some a) value h bad = go (takes_values a) value
  where
    go : (takes : Bool) (value : Option Text) → IsMistake (cond takes (option_fault c false a value h) (cond (is_some value) (kind.TooManyValues ∷ []) (react_fault c false a [] h)))
    go true value = option_lost c a value h bad
    go false None = mistaken_or (settle_fault c false h) (use_fault false a [] (settled c h).rows) bad
    go false (Some v) = refl

short_lost : (c : List Rule) (rule : Option Rule) (rest : Text) (h : Held) (next : Held → Kinds) → IsMistake (settle_fault c false h) → IsMistake (short_fault c false rule rest h next)
short_lost c None rest h next bad = refl
short_lost c (Some a) rest h next bad = go (takes_values a)
  where
    go : (takes : Bool) → IsMistake (cond takes (option_fault c false a (attached_value rest) h) (or_else (react_fault c false a [] h) (next (reacted c a [] h))))
    go true = option_lost c a (attached_value rest) h bad
    go false = mistaken_or (react_fault c false a [] h) (next (reacted c a [] h)) (mistaken_or (settle_fault c false h) (use_fault false a [] (settled c h).rows) bad)

no_subcommand : (waiting : Waiting) (word : Text) → subcommand_met [] waiting word ≡ None
no_subcommand idle word = refl
no_subcommand (waits_for id) word = refl
no_subcommand positional word = refl

abbrev turn_when : Waiting → Text → List Row → Option (Text × List Text) → ℕ → Kinds
turn_when waiting word rows pending position = turn_fault (shape_of Batch) [] (walk_when waiting rows pending position false) word

turn_lost : (waiting : Waiting) (word : Text) (rows : List Row) (pending : Option (Text × List Text)) (position : ℕ) → IsMistake (word_fault (shape_of Batch) [] false waiting word (held_at rows pending))
    → IsMistake (turn_when waiting word rows pending position)
turn_lost waiting word rows pending position bad =
    let met = word_met (rules_of Batch) [] false waiting position word (held_at rows pending) in
    mistaken_or (word_fault (shape_of Batch) [] false waiting word (held_at rows pending)) (step_fault (shape_of Batch) position met.0 met.1) bad

long_turn : (waiting : Waiting) (byte : ℕ) (rest : Text) (rows : List Row) (pending : Option (Text × List Text)) (position : ℕ) → IsLost rows pending
    → IsMistake (turn_when waiting (45 ∷ 45 ∷ byte ∷ rest) rows pending position)
long_turn waiting byte rest rows pending position bad =
    let met = name_and_value (byte ∷ rest) in
    turn_lost waiting (45 ∷ 45 ∷ byte ∷ rest) rows pending position
    (rw (no_subcommand waiting (45 ∷ 45 ∷ byte ∷ rest)) (long_lost (rules_of Batch) (arg_by_long (rules_of Batch) met.0) met.1 (held_at rows pending) bad))

short_turn : (waiting : Waiting) (byte : ℕ) (rest : Text) (letter : ℕ) (rows : List Row) (pending : Option (Text × List Text)) (position : ℕ) → (byte == 45) ≡ false
    → slice_get (chars (byte ∷ rest)) 0 ≡ Some letter → IsLost rows pending → IsMistake (turn_when waiting (45 ∷ byte ∷ rest) rows pending position)
unfolding flags_fault
short_turn waiting byte rest letter rows pending position short first bad =
    let after = drop (length (encode_utf8 letter)) (byte ∷ rest) in
    turn_lost waiting (45 ∷ byte ∷ rest) rows pending position
    (rw (no_subcommand waiting (45 ∷ byte ∷ rest), short, short, first)
    (short_lost (rules_of Batch) (arg_by_short (rules_of Batch) letter) after (held_at rows pending) (flags_fault (rules_of Batch) false (length rest) after 0) bad))

pub option_mistaken : (waiting : Waiting) (word : Text) (rows : List Row) (pending : Option (Text × List Text)) (position : ℕ) → is_delimiter word ≡ false → is_option word ≡ true → IsLost rows pending
    → IsMistake (turn_when waiting word rows pending position)
unfolding chars
option_mistaken waiting [] rows pending position plain option bad = absurd (true≢false (sym option))
option_mistaken waiting (byte ∷ rest) rows pending position plain option bad = go (byte == 45) refl
  where
    short : (next : ℕ) (rest : Text) (letter : Option ℕ) → (next == 45) ≡ false → slice_get (chars (next ∷ rest)) 0 ≡ letter → is_some letter ≡ true
        → IsMistake (turn_when waiting (45 ∷ next ∷ rest) rows pending position)
    short next rest None is first some = absurd (true≢false (sym some))
    short next rest (Some letter) is first some = short_turn waiting next rest letter rows pending position is first bad

    long : (rest : Text) → is_delimiter (45 ∷ 45 ∷ rest) ≡ false → IsMistake (turn_when waiting (45 ∷ 45 ∷ rest) rows pending position)
    long [] plain = absurd (true≢false plain)
    long (next ∷ rest) plain = long_turn waiting next rest rows pending position bad

    hyphened : (rest : Text) → is_delimiter (45 ∷ rest) ≡ false → is_option (45 ∷ rest) ≡ true → IsMistake (turn_when waiting (45 ∷ rest) rows pending position)
    hyphened [] plain option = absurd (true≢false (sym option))
    hyphened (next ∷ rest) plain option = next_is (next == 45) refl
      where
        next_is : (b : Bool) → (next == 45) ≡ b → IsMistake (turn_when waiting (45 ∷ next ∷ rest) rows pending position)
        next_is true e = subst (λ n. IsMistake (turn_when waiting (45 ∷ n ∷ rest) rows pending position)) (sym (eqb-true next 45 e)) (long rest (subst (λ n. is_delimiter (45 ∷ n ∷ rest) ≡ false) (eqb-true next 45 e) plain))
        next_is false e = short next rest _ e refl option

    go : (b : Bool) → (byte == 45) ≡ b → IsMistake (turn_when waiting (byte ∷ rest) rows pending position)
    go true e = subst (λ n. IsMistake (turn_when waiting (n ∷ rest) rows pending position)) (sym (eqb-true byte 45 e))
        (hyphened rest (subst (λ n. is_delimiter (n ∷ rest) ≡ false) (eqb-true byte 45 e) plain) (subst (λ n. is_option (n ∷ rest) ≡ true) (eqb-true byte 45 e) option))
    go false e = absurd (true≢false (sym option ∙ rw e refl))

-- ---- the words after the value of an option, if that cannot be used

abbrev pub position_of : Option Word → ℕ
position_of None = 1
position_of (Some word) = 2

abbrev pending_values : Valued → List Text → Option (Text × List Text)
pending_values option values = Some (value_id option, values)

value_mistaken : (option : Valued) (waiting : Waiting) (word : Text) (rows : List Row) (values : List Text) (operand : Option Word) → IsLost rows (pending_values option values)
    → IsMistake (turn_fault (shape_of Batch) [] (walk_when waiting rows (pending_values option values) (position_of operand) true) word)
value_mistaken DatabaseOption waiting word rows values None bad = bad
value_mistaken DatabaseOption waiting word rows values (Some file) bad = refl
value_mistaken ServerOption waiting word rows values None bad = bad
value_mistaken ServerOption waiting word rows values (Some file) bad = refl

pub end_lost : (waiting : Waiting) (rows : List Row) (pending : Option (Text × List Text)) (position : ℕ) (trailing : Bool) → IsLost rows pending
    → Reads Batch usage_error (walk_when waiting rows pending position trailing) []
unfolding walk_fault
end_lost waiting rows pending position trailing bad = inl (mistaken_or _ _ bad)

pub lost_operands : (option : Valued) (waiting : Waiting) (rows : List Row) (values : List Text) (operand : Option Word) → IsLost rows (pending_values option values) → (words : List Word)
    → Reads Batch usage_error (walk_when waiting rows (pending_values option values) (position_of operand) true) words
lost_operands option waiting rows values operand bad [] = end_lost waiting rows (pending_values option values) (position_of operand) true bad
lost_operands option waiting rows values operand bad (word ∷ words) = word_mistaken Batch _ word words (value_mistaken option waiting word rows values operand bad)

pub lost : (option : Valued) (rows : List Row) (values : List Text) (operand : Option Word) → IsLost rows (pending_values option values) → (words : List Word)
    → Reads Batch usage_error (walk_at rows (pending_values option values) (position_of operand) false) words
unfolding walked
lost option rows values operand bad [] = end_lost idle rows (pending_values option values) (position_of operand) false bad
lost option rows values operand bad (word ∷ words) = go (class_of Batch word)
  where
    mistaken : is_delimiter word ≡ false → is_option word ≡ true → Reads Batch usage_error (walk_at rows (pending_values option values) (position_of operand) false) (word ∷ words)
    mistaken plain is = word_mistaken Batch _ word words (option_mistaken idle word rows (pending_values option values) (position_of operand) plain is bad)

    go : Class Batch word → Reads Batch usage_error (walk_at rows (pending_values option values) (position_of operand) false) (word ∷ words)
    go (class.delimiter is) = subst (λ w. Reads Batch usage_error (walk_at rows (pending_values option values) (position_of operand) false) (w ∷ words)) (sym is)
        (word_taken Batch usage_error _ (walk_at rows (pending_values option values) (position_of operand) true) (codes "--") words refl refl (lost_operands option idle rows values operand bad words))
    go (class.help h) = mistaken h.no_delimiter h.is_one
    go (class.unknown u) = mistaken u.no_delimiter u.is_one
    go (class.gives a batch g) = mistaken g.no_delimiter g.is_one
    go (class.awaits other batch is) = mistaken (subst (λ w. is_delimiter w ≡ false) (sym is) (awaits_option other).0) (subst (λ w. is_option w ≡ true) (sym is) (awaits_option other).1)
    go (class.operand o) = word_mistaken Batch _ word words (subst IsMistake (sym (o.turn rows (pending_values option values) (position_of operand))) (value_mistaken option idle word rows values operand bad))
