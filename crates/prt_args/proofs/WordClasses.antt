-- What clap makes of a word of a subcommand, by the parts of the definition of an invocation.
use Rattle.std.proofs.Common.{◌≡◌, ◌∙◌, ℕ, Bool, cond, ◌||◌, true, false, is_some, suc, refl, sym, ap, subst, arith, List, [], ◌∷◌, Option, Some, None, ◌+◌, eqb-true, ne_eqb, codes, take, drop, true≢false}
use Rattle.std.proofs.lemmas.Bool.{eq-eqb, eqb-false}
use Rattle.std.specs.Prelude.{◌==◌, slice_get}
use Rattle.std.specs.List.{list_all, list_any, before_first, after_first, position_or_len}
use Rattle.std.specs.Str.{bytes_eq, chars}
use Rattle.std.proofs.lemmas.Slice.Eq.{bytes_eq-Decides}
use Rattle.clap.proofs.OnLiterals.{clap_on_literals}
use Rattle.clap.specs.Kinds.{Kinds, or_else}
use Rattle.clap.specs.Lexer.{long_of, has_byte}
use Rattle.clap.specs.Faults.{turn_fault, settle_fault, flags_fault}
use Rattle.clap.specs.Simple.{App, Shape, is_simple, filled_from, help_rule}
use Rattle.clap.specs.Faults.{is_simple_and_free}
use Rattle.clap.specs.Walk.{bundle_met, Held, Row, Rule, Text, Waiting, Walk, walked, idle, option as waits_for, to_positional, arg_by_index}
use Rattle.clap.specs.declared.error.kind.ErrorKind.{ErrorKind}
use Rattle.clap.specs.declared.error.kind.ErrorKind.TheVariants as kind
use Rattle.prt_args.specs.CommandLine.{command_line, batch_line, check_line, replay_line, flag_rule, database_rule, file_rule, option_rule}
use Rattle.prt_args.specs.Invocation.{Argument, Force, Atomic, Verbose, Database, Server, File, Valued, DatabaseOption, ServerOption, asks_help, argument, unknown as unknown_part, Subcommand, Batch, Check, Replay, is_delimiter, is_equals, is_help, is_option, option_part, option_word, part_of}

pub simple_line : is_simple command_line ≡ true
simple_line = refl

pub free_line : is_simple_and_free command_line ≡ true
free_line = refl

-- a subcommand as it is built
abbrev pub rules_of : Subcommand → List Rule
rules_of Batch = filled_from 1 (flag_rule (codes "force") ∷ flag_rule (codes "atomic") ∷ database_rule ∷ option_rule (codes "server") ∷ flag_rule (codes "verbose") ∷ file_rule ∷ help_rule ∷ [])
rules_of Check = filled_from 1 (file_rule ∷ help_rule ∷ [])
rules_of Replay = filled_from 1 (file_rule ∷ help_rule ∷ [])

abbrev pub line_of : Subcommand → App
line_of Batch = batch_line
line_of Check = check_line
line_of Replay = replay_line

abbrev pub shape_of : Subcommand → Shape
shape_of s = record (line_of s).top { rules = rules_of s; disable_help_subcommand = true; is_built = true }

abbrev pub held_at : List Row → Option (Text × List Text) → Held
held_at rows pending = record { rows = rows; pending = pending; skip = 0 }

-- a walk over the words of a subcommand: if an option waits for its value, and if none does
abbrev pub walk_when : Waiting → List Row → Option (Text × List Text) → ℕ → Bool → Walk
walk_when waiting rows pending position trailing = record {
  held = held_at rows pending;
  waiting = waiting;
  position = position;
  is_trailing = trailing;
  stopped = None;
}

abbrev pub walk_at : List Row → Option (Text × List Text) → ℕ → Bool → Walk
walk_at = walk_when idle

-- what an option is called whose value may be the next word
abbrev pub value_id : Valued → Text
value_id DatabaseOption = codes "db"
value_id ServerOption = codes "server"

-- after it
abbrev pub walk_waiting : Valued → List Row → ℕ → Walk
walk_waiting option rows position = walk_when (waits_for (value_id option)) rows (Some (value_id option, [])) position false

-- a kind of error that is no request for help
abbrev pub is_mistake : ErrorKind → Bool
is_mistake kind.DisplayHelp = false
is_mistake kind.DisplayVersion = false
is_mistake kind.OutOfMemory = false
is_mistake _ = true

abbrev pub IsMistake : Kinds → Type 0
IsMistake [] = ⊥
IsMistake (k ∷ kinds) = list_all is_mistake (k ∷ kinds) ≡ true

pub mistaken_or : (first next : Kinds) → IsMistake first → IsMistake (or_else first next)
mistaken_or [] next bad = absurd bad
mistaken_or (k ∷ kinds) next bad = bad

abbrev pub settles : Subcommand → List Row → Option (Text × List Text) → Type 0
settles s rows pending = settle_fault (rules_of s) false (held_at rows pending) ≡ []

-- the faults of a word, before `--` and after it
abbrev pub word_turn : Subcommand → Text → List Row → Option (Text × List Text) → ℕ → Kinds
word_turn s word rows pending position = turn_fault (shape_of s) [] (walk_at rows pending position false) word

abbrev pub value_turn : Subcommand → Text → List Row → Option (Text × List Text) → ℕ → Kinds
value_turn s word rows pending position = turn_fault (shape_of s) [] (walk_at rows pending position true) word

-- the walk after an operand
abbrev pub after_operand : Subcommand → Text → List Row → Option (Text × List Text) → ℕ → Bool → Walk
after_operand s word rows pending position trailing =
    to_positional (rules_of s) (arg_by_index (rules_of s) position) word (walk_at rows pending position trailing) (walk_at rows pending position trailing).held

-- ---- the classes

-- a word that asks for help
pub record Help (s : Subcommand) (word : Text) : Type 0 where
  pub no_delimiter : is_delimiter word ≡ false
  pub is_one : is_option word ≡ true
  pub part : part_of s word ≡ asks_help
  pub turn : (rows : List Row) (pending : Option (Text × List Text)) (position : ℕ) → settles s rows pending → word_turn s word rows pending position ≡ kind.DisplayHelp ∷ []

-- an option that the subcommand has not
pub record Unknown (s : Subcommand) (word : Text) : Type 0 where
  pub no_delimiter : is_delimiter word ≡ false
  pub is_one : is_option word ≡ true
  pub part : part_of s word ≡ unknown_part
  pub turn : (rows : List Row) (pending : Option (Text × List Text)) (position : ℕ) → IsMistake (word_turn s word rows pending position)

-- what an option of `batch` is called, and the value that is attached to it
abbrev pub id_of : Argument → Text
id_of Force = codes "force"
id_of Atomic = codes "atomic"
id_of Verbose = codes "verbose"
id_of (Database path) = codes "db"
id_of (Server place) = codes "server"
id_of (File word) = codes "file"

abbrev pub attached_to : Argument → Option Text
attached_to (Database path) = Some path
attached_to (Server place) = Some place
attached_to _ = None

abbrev IsNamed : Argument → Type 0
IsNamed (File word) = ⊥
IsNamed _ = Unit {0}

-- an option that gives an argument
pub record Gives (word : Text) (a : Argument) : Type 0 where
  pub no_delimiter : is_delimiter word ≡ false
  pub is_one : is_option word ≡ true
  pub part : part_of Batch word ≡ argument a
  pub named : IsNamed a
  pub long : long_of word ≡ Some (id_of a, attached_to a)

-- the word is taken as the value of the option before it
abbrev pub IsTaken : Text → Valued → Type 0
IsTaken word option = (rows : List Row) (position : ℕ)
    → (turn_fault (shape_of Batch) [] (walk_waiting option rows position) word ≡ [])
    × (walked (rules_of Batch) [] (walk_waiting option rows position) word ≡ walk_at rows (Some (value_id option, word ∷ [])) position false)

-- an operand, which is met as a value is after `--`, and is the value after such an option
pub record Operand (s : Subcommand) (word : Text) : Type 0 where
  pub no_option : is_option word ≡ false
  pub part : part_of s word ≡ argument (File word)
  pub turn : (rows : List Row) (pending : Option (Text × List Text)) (position : ℕ) → word_turn s word rows pending position ≡ value_turn s word rows pending position
  pub next : (rows : List Row) (pending : Option (Text × List Text)) (position : ℕ)
      → walked (rules_of s) [] (walk_at rows pending position false) word ≡ after_operand s word rows pending position false
  pub taken : (option : Valued) → IsTaken word option

abbrev pub IsBatch : Subcommand → Type 0
IsBatch Batch = Unit {0}
IsBatch Check = ⊥
IsBatch Replay = ⊥

pub data Class (s : Subcommand) (word : Text) : Type 0 where
  delimiter : word ≡ codes "--" → Class s word
  help : Help s word → Class s word
  unknown : Unknown s word → Class s word
  gives : (a : Argument) → IsBatch s → Gives word a → Class s word
  awaits : (option : Valued) → IsBatch s → word ≡ option_word option → Class s word
  operand : Operand s word → Class s word

-- ---- the parts

pub same_bytes : (a b : Text) → bytes_eq a b ≡ true → a ≡ b
same_bytes a b e = (bytes_eq-Decides a b).0 e

help_part : (s : Subcommand) (word : Text) → is_delimiter word ≡ false → is_help word ≡ true → part_of s word ≡ asks_help
help_part s word plain asks = rw (plain, asks) refl

no_help_part : (s : Subcommand) (word : Text) → is_delimiter word ≡ false → is_help word ≡ false → is_option word ≡ true → part_of s word ≡ option_part s word
no_help_part s word plain no_help option = rw (plain, no_help, option) refl

operand_part : (s : Subcommand) (word : Text) → is_delimiter word ≡ false → is_help word ≡ false → is_option word ≡ false → part_of s word ≡ argument (File word)
operand_part s word plain no_help no_option = rw (plain, no_help, no_option) refl

-- ---- a hyphen alone, nothing, and what begins with no hyphen

empty_taken : (option : Valued) → IsTaken [] option
unfolding clap_on_literals
empty_taken DatabaseOption rows position = (refl, refl)
empty_taken ServerOption rows position = (refl, refl)

empty_word : (s : Subcommand) → Operand s []
unfolding clap_on_literals
empty_word s = record {
  no_option = refl;
  part = refl;
  turn = λ rows pending position. refl;
  next = λ rows pending position. refl;
  taken = empty_taken;
}

hyphen_taken : (option : Valued) → IsTaken (codes "-") option
unfolding clap_on_literals
hyphen_taken DatabaseOption rows position = (refl, refl)
hyphen_taken ServerOption rows position = (refl, refl)

hyphen_word : (s : Subcommand) → Operand s (codes "-")
unfolding clap_on_literals
hyphen_word s = record {
  no_option = refl;
  part = refl;
  turn = λ rows pending position. refl;
  next = λ rows pending position. refl;
  taken = hyphen_taken;
}

plain_taken : (byte : ℕ) (rest : Text) → (byte == 45) ≡ false → (option : Valued) → IsTaken (byte ∷ rest) option
unfolding clap_on_literals
plain_taken byte rest plain DatabaseOption rows position = (rw (plain, plain) refl, rw (plain, plain) refl)
plain_taken byte rest plain ServerOption rows position = (rw (plain, plain) refl, rw (plain, plain) refl)

plain_word : (s : Subcommand) (byte : ℕ) (rest : Text) → (byte == 45) ≡ false → Operand s (byte ∷ rest)
unfolding clap_on_literals
plain_word s byte rest plain = record {
  no_option = rw plain refl;
  part = operand_part s (byte ∷ rest) (rw plain refl) (rw plain refl) (rw plain refl);
  turn = λ rows pending position. rw (plain, plain) refl;
  next = λ rows pending position. rw (plain, plain) refl;
  taken = plain_taken byte rest plain;
}

-- ---- texts up to `=` (61)

take_more : {X : Type 0} (x : X) (xs : List X) (n : ℕ) → take (1 + n) (x ∷ xs) ≡ x ∷ take n xs
take_more x xs n = let one : 1 + n ≡ suc n = omega arith in ap (λ k. take k (x ∷ xs)) one

drop_more : {X : Type 0} (x : X) (xs : List X) (n : ℕ) → drop (1 + n + 1) (x ∷ xs) ≡ drop (n + 1) xs
drop_more x xs n = let one : 1 + n + 1 ≡ suc (n + 1) = omega arith in ap (λ k. drop k (x ∷ xs)) one

before_hit : {X : Type 0} (p : X → Bool) (x : X) (xs : List X) → p x ≡ true → before_first p (x ∷ xs) ≡ []
before_hit p x xs hit = rw hit refl

before_miss : {X : Type 0} (p : X → Bool) (x : X) (xs : List X) → p x ≡ false → before_first p (x ∷ xs) ≡ x ∷ before_first p xs
before_miss p x xs miss = rw miss (take_more x xs (position_or_len p xs))

after_miss : {X : Type 0} (p : X → Bool) (x : X) (xs : List X) → p x ≡ false → after_first p (x ∷ xs) ≡ after_first p xs
after_miss p x xs miss = rw miss (drop_more x xs (position_or_len p xs))

pub before_none : {X : Type 0} (p : X → Bool) (xs : List X) → list_any p xs ≡ false → before_first p xs ≡ xs
before_none p [] none = refl
before_none p (x ∷ xs) none = go (p x) refl none (before_none p xs)
  where
    go : (hit : Bool) → p x ≡ hit → (hit || list_any p xs) ≡ false → (list_any p xs ≡ false → before_first p xs ≡ xs) → before_first p (x ∷ xs) ≡ x ∷ xs
    go true is bad same = absurd (true≢false bad)
    go false is rest same = before_miss p x xs is ∙ ap (λ ys. x ∷ ys) (same rest)

-- what comes before the first `=`
abbrev pub long_name : Text → Text
long_name text = before_first is_equals text

before_hyphens : (text : Text) → before_first is_equals (45 ∷ 45 ∷ text) ≡ 45 ∷ 45 ∷ long_name text
before_hyphens text = before_miss is_equals 45 (45 ∷ text) refl ∙ ap (λ xs. 45 ∷ xs) (before_miss is_equals 45 text refl)

after_hyphens : (text : Text) → after_first is_equals (45 ∷ 45 ∷ text) ≡ after_first is_equals text
after_hyphens text = after_miss is_equals 45 (45 ∷ text) refl ∙ after_miss is_equals 45 text refl

pub differs : (a b : Text) → (a ≡ b → ⊥) → bytes_eq a b ≡ false
differs a b other = go (bytes_eq a b) refl
  where
    go : (same : Bool) → bytes_eq a b ≡ same → bytes_eq a b ≡ false
    go true e = absurd (other (same_bytes a b e))
    go false e = e

pub flipped : (a b : Text) → bytes_eq a b ≡ false → bytes_eq b a ≡ false
flipped a b e = differs b a (λ same. absurd (true≢false (sym (bytes_eq-refl a) ∙ ap (bytes_eq a) (sym same) ∙ e)))
  where
    bytes_eq-refl : (text : Text) → bytes_eq text text ≡ true
    bytes_eq-refl text = (bytes_eq-Decides text text).1 refl

-- a name with a value is no name alone
pub no_value_in : (text name : Text) → has_byte 61 name ≡ false → has_byte 61 text ≡ true → text ≡ name → ⊥
no_value_in text name none some same = absurd (true≢false (sym some ∙ ap (has_byte 61) same ∙ none))

pub no_name_of : (text name : Text) → bytes_eq name (long_name text) ≡ false → long_name name ≡ name → bytes_eq name name ≡ true → text ≡ name → ⊥
no_name_of text name other whole is same = absurd (true≢false (sym is ∙ ap (bytes_eq name) (sym (ap long_name same ∙ whole)) ∙ other))

pub long_of_is : (byte : ℕ) (rest : Text) (has : Bool) → has_byte 61 (byte ∷ rest) ≡ has
    → long_of (45 ∷ 45 ∷ byte ∷ rest) ≡ Some (long_name (byte ∷ rest), cond has (Some (after_first is_equals (byte ∷ rest))) None)
long_of_is byte rest has is = ap (λ b. Some (long_name (byte ∷ rest), cond b (Some (after_first is_equals (byte ∷ rest))) None)) is

-- ---- `-` and a character: an option that asks for help, or that does not exist

short_turn : Subcommand → Option ℕ → Text → Type 0
short_turn s None word = Operand s word
short_turn s (Some letter) word = ((letter == 104) ≡ true → Help s word) × ((letter == 104) ≡ false → Unknown s word)

short_help : (s : Subcommand) (byte : ℕ) (rest : Text) (letter : ℕ) → (byte == 45) ≡ false → slice_get (chars (byte ∷ rest)) 0 ≡ Some letter → (letter == 104) ≡ true
    → (rows : List Row) (pending : Option (Text × List Text)) (position : ℕ) → settles s rows pending → word_turn s (45 ∷ byte ∷ rest) rows pending position ≡ kind.DisplayHelp ∷ []
unfolding walked bundle_met flags_fault
short_help Batch byte rest letter short first is_h rows pending position settled = rw (short, short, first, eq-eqb 104 letter (sym (eqb-true letter 104 is_h)), settled) refl
short_help Check byte rest letter short first is_h rows pending position settled = rw (short, short, first, eq-eqb 104 letter (sym (eqb-true letter 104 is_h)), settled) refl
short_help Replay byte rest letter short first is_h rows pending position settled = rw (short, short, first, eq-eqb 104 letter (sym (eqb-true letter 104 is_h)), settled) refl

short_unknown : (s : Subcommand) (byte : ℕ) (rest : Text) (letter : ℕ) → (byte == 45) ≡ false → slice_get (chars (byte ∷ rest)) 0 ≡ Some letter → (letter == 104) ≡ false
    → (rows : List Row) (pending : Option (Text × List Text)) (position : ℕ) → IsMistake (word_turn s (45 ∷ byte ∷ rest) rows pending position)
unfolding walked bundle_met flags_fault
short_unknown Batch byte rest letter short first no_h rows pending position = rw (short, short, first, ne_eqb 104 letter (λ e. eqb-false letter 104 no_h (sym e))) refl
short_unknown Check byte rest letter short first no_h rows pending position = rw (short, short, first, ne_eqb 104 letter (λ e. eqb-false letter 104 no_h (sym e))) refl
short_unknown Replay byte rest letter short first no_h rows pending position = rw (short, short, first, ne_eqb 104 letter (λ e. eqb-false letter 104 no_h (sym e))) refl

no_database_name : (byte : ℕ) (rest : Text) → (byte == 45) ≡ false → bytes_eq (before_first is_equals (45 ∷ byte ∷ rest)) (codes "--db") ≡ false
no_database_name byte rest short = ap (λ xs. bytes_eq xs (codes "--db")) (before_miss is_equals 45 (byte ∷ rest) refl) ∙ go (is_equals byte) refl
  where
    go : (hit : Bool) → is_equals byte ≡ hit → bytes_eq (45 ∷ before_first is_equals (byte ∷ rest)) (codes "--db") ≡ false
    go true e = ap (λ xs. bytes_eq (45 ∷ xs) (codes "--db")) (before_hit is_equals byte rest e)
    go false e = ap (λ xs. bytes_eq (45 ∷ xs) (codes "--db")) (before_miss is_equals byte rest e) ∙ rw short refl

no_server_name : (byte : ℕ) (rest : Text) → (byte == 45) ≡ false → bytes_eq (before_first is_equals (45 ∷ byte ∷ rest)) (codes "--server") ≡ false
no_server_name byte rest short = ap (λ xs. bytes_eq xs (codes "--server")) (before_miss is_equals 45 (byte ∷ rest) refl) ∙ go (is_equals byte) refl
  where
    go : (hit : Bool) → is_equals byte ≡ hit → bytes_eq (45 ∷ before_first is_equals (byte ∷ rest)) (codes "--server") ≡ false
    go true e = ap (λ xs. bytes_eq (45 ∷ xs) (codes "--server")) (before_hit is_equals byte rest e)
    go false e = ap (λ xs. bytes_eq (45 ∷ xs) (codes "--server")) (before_miss is_equals byte rest e) ∙ rw short refl

short_part : (s : Subcommand) (byte : ℕ) (rest : Text) → (byte == 45) ≡ false → option_part s (45 ∷ byte ∷ rest) ≡ unknown_part
short_part Check byte rest short = refl
short_part Replay byte rest short = refl
short_part Batch byte rest short = rw (short, no_database_name byte rest short, no_server_name byte rest short) refl

short_taken : (byte : ℕ) (rest : Text) → (byte == 45) ≡ false → slice_get (chars (byte ∷ rest)) 0 ≡ None → (option : Valued) → IsTaken (45 ∷ byte ∷ rest) option
unfolding walked bundle_met flags_fault
short_taken byte rest short first DatabaseOption rows position = (rw (short, short, first) refl, rw (short, short, first) refl)
short_taken byte rest short first ServerOption rows position = (rw (short, short, first) refl, rw (short, short, first) refl)

short_word : (s : Subcommand) (byte : ℕ) (rest : Text) (letter : Option ℕ) → (byte == 45) ≡ false → slice_get (chars (byte ∷ rest)) 0 ≡ letter → short_turn s letter (45 ∷ byte ∷ rest)
unfolding walked bundle_met flags_fault short_turn
short_word s byte rest None short first = record {
  no_option = rw first refl;
  part = operand_part s (45 ∷ byte ∷ rest) (rw short refl) (rw (short, first) refl) (rw first refl);
  turn = λ rows pending position. rw (short, short, first) refl;
  next = λ rows pending position. rw (short, short, first) refl;
  taken = short_taken byte rest short first;
}
short_word s byte rest (Some letter) short first = (
  λ is_h. record {
    no_delimiter = rw short refl;
    is_one = rw first refl;
    part = help_part s (45 ∷ byte ∷ rest) (rw short refl) (rw (short, first, is_h) refl);
    turn = short_help s byte rest letter short first is_h;
  },
  λ no_h. record {
    no_delimiter = rw short refl;
    is_one = rw first refl;
    part = no_help_part s (45 ∷ byte ∷ rest) (rw short refl) (rw (short, first, no_h) refl) (rw first refl) ∙ short_part s byte rest short;
    turn = short_unknown s byte rest letter short first no_h;
  },
)

-- ---- a long option

-- a text that is no name of an option
record NoName (text : Text) : Type 0 where
  no_force : bytes_eq text (codes "force") ≡ false
  no_atomic : bytes_eq text (codes "atomic") ≡ false
  no_verbose : bytes_eq text (codes "verbose") ≡ false
  no_database : bytes_eq text (codes "db") ≡ false
  no_server : bytes_eq text (codes "server") ≡ false
  no_help : bytes_eq text (codes "help") ≡ false

-- a name that is none of theirs
record IsOther (name : Text) : Type 0 where
  no_force : bytes_eq (codes "force") name ≡ false
  no_atomic : bytes_eq (codes "atomic") name ≡ false
  no_verbose : bytes_eq (codes "verbose") name ≡ false
  no_database : bytes_eq (codes "db") name ≡ false
  no_server : bytes_eq (codes "server") name ≡ false
  no_help : bytes_eq (codes "help") name ≡ false

data Name (name : Text) : Type 0 where
  force_name : name ≡ codes "force" → Name name
  atomic_name : name ≡ codes "atomic" → Name name
  verbose_name : name ≡ codes "verbose" → Name name
  database_name : name ≡ codes "db" → Name name
  server_name : name ≡ codes "server" → Name name
  help_name : name ≡ codes "help" → Name name
  other_name : IsOther name → Name name

name_by : (name : Text) (is_force is_atomic is_verbose is_database is_server is_help : Bool) → bytes_eq (codes "force") name ≡ is_force → bytes_eq (codes "atomic") name ≡ is_atomic → bytes_eq (codes "verbose") name ≡ is_verbose
    → bytes_eq (codes "db") name ≡ is_database → bytes_eq (codes "server") name ≡ is_server → bytes_eq (codes "help") name ≡ is_help → Name name
name_by name true _ _ _ _ _ f a v d s h = force_name (sym (same_bytes _ _ f))
name_by name false true _ _ _ _ f a v d s h = atomic_name (sym (same_bytes _ _ a))
name_by name false false true _ _ _ f a v d s h = verbose_name (sym (same_bytes _ _ v))
name_by name false false false true _ _ f a v d s h = database_name (sym (same_bytes _ _ d))
name_by name false false false false true _ f a v d s h = server_name (sym (same_bytes _ _ s))
name_by name false false false false false true f a v d s h = help_name (sym (same_bytes _ _ h))
name_by name false false false false false false f a v d s h = other_name (record { no_force = f; no_atomic = a; no_verbose = v; no_database = d; no_server = s; no_help = h })

valued_no_name : (text : Text) → has_byte 61 text ≡ true → NoName text
valued_no_name text has = record {
  no_force = differs text (codes "force") (no_value_in text (codes "force") refl has);
  no_atomic = differs text (codes "atomic") (no_value_in text (codes "atomic") refl has);
  no_verbose = differs text (codes "verbose") (no_value_in text (codes "verbose") refl has);
  no_database = differs text (codes "db") (no_value_in text (codes "db") refl has);
  no_server = differs text (codes "server") (no_value_in text (codes "server") refl has);
  no_help = differs text (codes "help") (no_value_in text (codes "help") refl has);
}

other_no_name : (text : Text) → IsOther (long_name text) → NoName text
other_no_name text other = record {
  no_force = differs text (codes "force") (no_name_of text (codes "force") other.no_force refl refl);
  no_atomic = differs text (codes "atomic") (no_name_of text (codes "atomic") other.no_atomic refl refl);
  no_verbose = differs text (codes "verbose") (no_name_of text (codes "verbose") other.no_verbose refl refl);
  no_database = differs text (codes "db") (no_name_of text (codes "db") other.no_database refl refl);
  no_server = differs text (codes "server") (no_name_of text (codes "server") other.no_server refl refl);
  no_help = differs text (codes "help") (no_name_of text (codes "help") other.no_help refl refl);
}

-- one that there is not, a flag with a value, and help with a value
long_unknown : (word name : Text) (value : Option Text) → is_delimiter word ≡ false → long_of word ≡ Some (name, value) → IsOther name
    → (rows : List Row) (pending : Option (Text × List Text)) (position : ℕ) → IsMistake (word_turn Batch word rows pending position)
long_unknown word name value plain long other rows pending position = rw (plain, long, other.no_force, other.no_atomic, other.no_database, other.no_server, other.no_verbose, other.no_help) refl

flag_valued : (word value : Text) (a : Argument) → attached_to a ≡ None → IsNamed a → is_delimiter word ≡ false → long_of word ≡ Some (id_of a, Some value)
    → (rows : List Row) (pending : Option (Text × List Text)) (position : ℕ) → IsMistake (word_turn Batch word rows pending position)
flag_valued word value Force alone named plain long rows pending position = rw (plain, long) refl
flag_valued word value Atomic alone named plain long rows pending position = rw (plain, long) refl
flag_valued word value Verbose alone named plain long rows pending position = rw (plain, long) refl
flag_valued word value (Database path) alone named plain long rows pending position = absurd (true≢false (ap is_some alone))
flag_valued word value (Server place) alone named plain long rows pending position = absurd (true≢false (ap is_some alone))
flag_valued word value (File path) alone named plain long rows pending position = absurd named

help_valued : (s : Subcommand) (word value : Text) → is_delimiter word ≡ false → long_of word ≡ Some (codes "help", Some value)
    → (rows : List Row) (pending : Option (Text × List Text)) (position : ℕ) → IsMistake (word_turn s word rows pending position)
help_valued Batch word value plain long rows pending position = rw (plain, long) refl
help_valued Check word value plain long rows pending position = rw (plain, long) refl
help_valued Replay word value plain long rows pending position = rw (plain, long) refl

-- a subcommand that takes a file alone
abbrev IsPlain : Subcommand → Type 0
IsPlain Batch = ⊥
IsPlain _ = Unit {0}

plain_unknown : (s : Subcommand) → IsPlain s → (word name : Text) (value : Option Text) → is_delimiter word ≡ false → long_of word ≡ Some (name, value) → bytes_eq (codes "help") name ≡ false
    → (rows : List Row) (pending : Option (Text × List Text)) (position : ℕ) → IsMistake (word_turn s word rows pending position)
plain_unknown Batch none word name value plain long no_help rows pending position = absurd none
plain_unknown Check none word name value plain long no_help rows pending position = rw (plain, long, no_help) refl
plain_unknown Replay none word name value plain long no_help rows pending position = rw (plain, long, no_help) refl

plain_part : (s : Subcommand) → IsPlain s → (word : Text) → option_part s word ≡ unknown_part
plain_part Batch none word = absurd none
plain_part Check none word = refl
plain_part Replay none word = refl

long_help : (s : Subcommand) → Help s (codes "--help")
unfolding clap_on_literals
long_help Batch = record { no_delimiter = refl; is_one = refl; part = refl; turn = λ rows pending position settled. rw settled refl }
long_help Check = record { no_delimiter = refl; is_one = refl; part = refl; turn = λ rows pending position settled. rw settled refl }
long_help Replay = record { no_delimiter = refl; is_one = refl; part = refl; turn = λ rows pending position settled. rw settled refl }

force_word : Gives (codes "--force") Force
unfolding clap_on_literals
force_word = record { no_delimiter = refl; is_one = refl; part = refl; named = tt; long = refl }

atomic_word : Gives (codes "--atomic") Atomic
unfolding clap_on_literals
atomic_word = record { no_delimiter = refl; is_one = refl; part = refl; named = tt; long = refl }

verbose_word : Gives (codes "--verbose") Verbose
unfolding clap_on_literals
verbose_word = record { no_delimiter = refl; is_one = refl; part = refl; named = tt; long = refl }

pub awaits_option : (option : Valued) → (is_delimiter (option_word option) ≡ false) × (is_option (option_word option) ≡ true)
unfolding clap_on_literals
awaits_option DatabaseOption = (refl, refl)
awaits_option ServerOption = (refl, refl)

-- what the definition makes of one
long_part : (text : Text) → NoName text → option_part Batch (45 ∷ 45 ∷ text)
    ≡ cond (bytes_eq (long_name text) (codes "db")) (argument (Database (after_first is_equals text))) (cond (bytes_eq (long_name text) (codes "server")) (argument (Server (after_first is_equals text))) unknown_part)
long_part text none = rw (none.no_force, none.no_atomic, none.no_verbose, none.no_database, none.no_server, before_hyphens text, after_hyphens text) refl

unknown_option : (s : Subcommand) (byte : ℕ) (rest : Text) → bytes_eq (byte ∷ rest) (codes "help") ≡ false → option_part s (45 ∷ 45 ∷ byte ∷ rest) ≡ unknown_part
    → ((rows : List Row) (pending : Option (Text × List Text)) (position : ℕ) → IsMistake (word_turn s (45 ∷ 45 ∷ byte ∷ rest) rows pending position))
    → Unknown s (45 ∷ 45 ∷ byte ∷ rest)
unfolding chars
unknown_option s byte rest no_help part turn = record {
  no_delimiter = refl;
  is_one = refl;
  part = no_help_part s (45 ∷ 45 ∷ byte ∷ rest) refl (rw no_help refl) refl ∙ part;
  turn = turn;
}

batch_unknown : (byte : ℕ) (rest : Text) → NoName (byte ∷ rest) → bytes_eq (long_name (byte ∷ rest)) (codes "db") ≡ false → bytes_eq (long_name (byte ∷ rest)) (codes "server") ≡ false
    → ((rows : List Row) (pending : Option (Text × List Text)) (position : ℕ) → IsMistake (word_turn Batch (45 ∷ 45 ∷ byte ∷ rest) rows pending position))
    → Class Batch (45 ∷ 45 ∷ byte ∷ rest)
batch_unknown byte rest none no_database no_server turn = unknown (unknown_option Batch byte rest none.no_help (long_part (byte ∷ rest) none ∙ rw (no_database, no_server) refl) turn)

database_valued : (byte : ℕ) (rest : Text) → long_name (byte ∷ rest) ≡ codes "db" → has_byte 61 (byte ∷ rest) ≡ true → Gives (45 ∷ 45 ∷ byte ∷ rest) (Database (after_first is_equals (byte ∷ rest)))
unfolding chars
database_valued byte rest name has = record {
  no_delimiter = refl;
  is_one = refl;
  part = no_help_part Batch (45 ∷ 45 ∷ byte ∷ rest) refl (rw (valued_no_name (byte ∷ rest) has).no_help refl) refl
      ∙ long_part (byte ∷ rest) (valued_no_name (byte ∷ rest) has)
      ∙ ap (λ xs. cond (bytes_eq xs (codes "db")) (argument (Database (after_first is_equals (byte ∷ rest)))) (cond (bytes_eq xs (codes "server")) (argument (Server (after_first is_equals (byte ∷ rest)))) unknown_part)) name;
  named = tt;
  long = long_of_is byte rest true has ∙ ap (λ xs. Some (xs, Some (after_first is_equals (byte ∷ rest)))) name;
}

server_valued : (byte : ℕ) (rest : Text) → long_name (byte ∷ rest) ≡ codes "server" → has_byte 61 (byte ∷ rest) ≡ true → Gives (45 ∷ 45 ∷ byte ∷ rest) (Server (after_first is_equals (byte ∷ rest)))
unfolding chars
server_valued byte rest name has = record {
  no_delimiter = refl;
  is_one = refl;
  part = no_help_part Batch (45 ∷ 45 ∷ byte ∷ rest) refl (rw (valued_no_name (byte ∷ rest) has).no_help refl) refl
      ∙ long_part (byte ∷ rest) (valued_no_name (byte ∷ rest) has)
      ∙ ap (λ xs. cond (bytes_eq xs (codes "db")) (argument (Database (after_first is_equals (byte ∷ rest)))) (cond (bytes_eq xs (codes "server")) (argument (Server (after_first is_equals (byte ∷ rest)))) unknown_part)) name;
  named = tt;
  long = long_of_is byte rest true has ∙ ap (λ xs. Some (xs, Some (after_first is_equals (byte ∷ rest)))) name;
}

-- a word that is a name alone
named_word : (byte : ℕ) (rest name : Text) → long_name (byte ∷ rest) ≡ name → has_byte 61 (byte ∷ rest) ≡ false → (45 ∷ 45 ∷ name) ≡ (45 ∷ 45 ∷ byte ∷ rest)
named_word byte rest name is none = ap (λ xs. 45 ∷ 45 ∷ xs) (sym is ∙ before_none is_equals (byte ∷ rest) none)

flag_class : (byte : ℕ) (rest : Text) (a : Argument) → attached_to a ≡ None → IsNamed a → Gives (45 ∷ 45 ∷ id_of a) a → bytes_eq (id_of a) (codes "db") ≡ false → bytes_eq (id_of a) (codes "server") ≡ false → long_name (byte ∷ rest) ≡ id_of a
    → (has : Bool) → has_byte 61 (byte ∷ rest) ≡ has → Class Batch (45 ∷ 45 ∷ byte ∷ rest)
flag_class byte rest a alone named given other another is false none = gives a tt (subst (λ w. Gives w a) (named_word byte rest (id_of a) is none) given)
flag_class byte rest a alone named given other another is true has = batch_unknown byte rest (valued_no_name (byte ∷ rest) has) (rw is other) (rw is another)
    (flag_valued (45 ∷ 45 ∷ byte ∷ rest) _ a alone named refl (long_of_is byte rest true has ∙ ap (λ xs. Some (xs, Some (after_first is_equals (byte ∷ rest)))) is))

batch_long : (byte : ℕ) (rest : Text) → Name (long_name (byte ∷ rest)) → (has : Bool) → has_byte 61 (byte ∷ rest) ≡ has → Class Batch (45 ∷ 45 ∷ byte ∷ rest)
batch_long byte rest (force_name is) has v = flag_class byte rest Force refl tt force_word refl refl is has v
batch_long byte rest (atomic_name is) has v = flag_class byte rest Atomic refl tt atomic_word refl refl is has v
batch_long byte rest (verbose_name is) has v = flag_class byte rest Verbose refl tt verbose_word refl refl is has v
batch_long byte rest (server_name is) false v = awaits ServerOption tt (sym (named_word byte rest (codes "server") is v))
batch_long byte rest (server_name is) true v = gives (Server (after_first is_equals (byte ∷ rest))) tt (server_valued byte rest is v)
batch_long byte rest (database_name is) false v = awaits DatabaseOption tt (sym (named_word byte rest (codes "db") is v))
batch_long byte rest (database_name is) true v = gives (Database (after_first is_equals (byte ∷ rest))) tt (database_valued byte rest is v)
batch_long byte rest (help_name is) false v = help (subst (Help Batch) (named_word byte rest (codes "help") is v) (long_help Batch))
batch_long byte rest (help_name is) true v = batch_unknown byte rest (valued_no_name (byte ∷ rest) v) (rw is refl) (rw is refl)
    (help_valued Batch (45 ∷ 45 ∷ byte ∷ rest) _ refl (long_of_is byte rest true v ∙ ap (λ xs. Some (xs, Some (after_first is_equals (byte ∷ rest)))) is))
batch_long byte rest (other_name other) has v = batch_unknown byte rest (other_no_name (byte ∷ rest) other) (flipped (codes "db") (long_name (byte ∷ rest)) other.no_database) (flipped (codes "server") (long_name (byte ∷ rest)) other.no_server)
    (long_unknown (45 ∷ 45 ∷ byte ∷ rest) _ _ refl (long_of_is byte rest has v) other)

plain_long : (s : Subcommand) → IsPlain s → (byte : ℕ) (rest : Text) (is_help : Bool) → bytes_eq (codes "help") (long_name (byte ∷ rest)) ≡ is_help → (has : Bool) → has_byte 61 (byte ∷ rest) ≡ has → Class s (45 ∷ 45 ∷ byte ∷ rest)
plain_long s none byte rest true h false v = help (subst (Help s) (named_word byte rest (codes "help") (sym (same_bytes _ _ h)) v) (long_help s))
plain_long s none byte rest true h true v = unknown (unknown_option s byte rest (valued_no_name (byte ∷ rest) v).no_help (plain_part s none (45 ∷ 45 ∷ byte ∷ rest))
    (help_valued s (45 ∷ 45 ∷ byte ∷ rest) _ refl (long_of_is byte rest true v ∙ ap (λ xs. Some (xs, Some (after_first is_equals (byte ∷ rest)))) (sym (same_bytes _ _ h)))))
plain_long s none byte rest false h has v = unknown (unknown_option s byte rest (differs (byte ∷ rest) (codes "help") (no_name_of (byte ∷ rest) (codes "help") h refl refl)) (plain_part s none (45 ∷ 45 ∷ byte ∷ rest))
    (plain_unknown s none (45 ∷ 45 ∷ byte ∷ rest) _ _ refl (long_of_is byte rest has v) h))

long_word : (s : Subcommand) (byte : ℕ) (rest : Text) → Class s (45 ∷ 45 ∷ byte ∷ rest)
long_word Batch byte rest = batch_long byte rest (name_by (long_name (byte ∷ rest)) _ _ _ _ _ _ refl refl refl refl refl refl) _ refl
long_word Check byte rest = plain_long Check tt byte rest _ refl _ refl
long_word Replay byte rest = plain_long Replay tt byte rest _ refl _ refl

-- ---- any word

short_class : (s : Subcommand) (word : Text) (letter : Option ℕ) → short_turn s letter word → Class s word
unfolding short_turn
short_class s word None turn = operand turn
short_class s word (Some letter) turn = go (letter == 104) refl
  where
    go : (is_h : Bool) → (letter == 104) ≡ is_h → Class s word
    go true e = help (turn.0 e)
    go false e = unknown (turn.1 e)

hyphened : (s : Subcommand) (rest : Text) → Class s (45 ∷ rest)
hyphened s [] = operand (hyphen_word s)
hyphened s (byte ∷ rest) = go (byte == 45) refl
  where
    long : (rest : Text) → Class s (45 ∷ 45 ∷ rest)
    long [] = delimiter refl
    long (next ∷ rest) = long_word s next rest

    go : (is_hyphen : Bool) → (byte == 45) ≡ is_hyphen → Class s (45 ∷ byte ∷ rest)
    go true e = subst (λ b. Class s (45 ∷ b ∷ rest)) (sym (eqb-true byte 45 e)) (long rest)
    go false e = short_class s (45 ∷ byte ∷ rest) _ (short_word s byte rest _ e refl)

pub class_of : (s : Subcommand) (word : Text) → Class s word
class_of s [] = operand (empty_word s)
class_of s (byte ∷ rest) = go (byte == 45) refl
  where
    go : (is_hyphen : Bool) → (byte == 45) ≡ is_hyphen → Class s (byte ∷ rest)
    go true e = subst (λ b. Class s (b ∷ rest)) (sym (eqb-true byte 45 e)) (hyphened s rest)
    go false e = operand (plain_word s byte rest e)
