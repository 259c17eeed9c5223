-- The rows of the arguments that a subcommand was given, and what its defaults add.
use Rattle.std.proofs.Common.{◌≡◌, ◌∙◌, ◌||◌, Bool, cond, true, false, refl, ap, List, [], ◌∷◌, ◌++◌, Option, Some, None, option_map, is_some, codes}
use Rattle.std.specs.Prelude.{find, option_and_then, slice_get}
use Rattle.std.specs.List.{fold}
use Rattle.std.specs.Str.{bytes_eq}
use Rattle.clap.specs.Kinds.{Kinds, or_else}
use Rattle.clap.specs.Faults.{defaults_fault, default_fault, given_default_fault, check_fault}
use Rattle.clap.specs.Simple.{filled, help_rule, with_index}
use Rattle.clap.specs.Walk.{Row, Rule, Text, is_empty, first_of, one_of, has_row, row_text, with_default}
use Rattle.clap.specs.declared.parser.matches.ValueSource.TheVariants.{CommandLine, DefaultValue}
use Rattle.clap.specs.declared.builder.value_parser.Reading.TheVariants.{AsWritten}
use Rattle.prt_addr.specs.Word.{Word}
use Rattle.prt_args.specs.CommandLine.{flag_rule, database_rule, file_rule, option_rule}
use Rattle.prt_args.specs.Tasks.{text_of_flag}
use Rattle.prt_args.specs.Invocation.{Argument, Force, Atomic, Verbose, Database, Server, File, Given, Subcommand, Batch, Check, Replay, has_given, with_given}
use Rattle.prt_args.proofs.Rows.{find_kept, find_last, row, valued}
use Rattle.prt_args.proofs.WordClasses.{id_of, rules_of, shape_of}

-- ---- what was given

abbrev pub text_of : Argument → Text
text_of (Database path) = path
text_of (Server place) = place
text_of (File word) = word
text_of _ = codes "true"

abbrev pub row_of : Argument → Row
row_of a = row (id_of a) AsWritten CommandLine (text_of a ∷ [])

abbrev pub find_row : Text → List Row → Option Row
find_row id rows = find (λ r. bytes_eq r.id id) rows

abbrev flag_row : Argument → Bool → Option Row
flag_row a true = Some (row_of a)
flag_row a false = None

-- the row of such an argument, as far as it was given
abbrev pub given_row : Given → Argument → Option Row
given_row given Force = flag_row Force given.forced
given_row given Atomic = flag_row Atomic given.atomic
given_row given Verbose = flag_row Verbose given.verbose
given_row given (Database path) = option_map (λ p. row_of (Database p)) given.database
given_row given (Server place) = option_map (λ p. row_of (Server p)) given.server
given_row given (File word) = option_map (λ w. row_of (File w)) given.operand

abbrev pub AreGiven : Given → List Row → Type 0
AreGiven given rows = (a : Argument) → find_row (id_of a) rows ≡ given_row given a

has_found : (id : Text) (rows : List Row) → has_row id rows ≡ is_some (find_row id rows)
has_found id [] = refl
has_found id (r ∷ rows) = go (bytes_eq r.id id) (has_found id rows)
  where
    go : (here : Bool) → has_row id rows ≡ is_some (find_row id rows) → (here || has_row id rows) ≡ is_some (cond here (Some r) (find_row id rows))
    go true rest = refl
    go false rest = rest

some_flag : (a : Argument) (b : Bool) → is_some (flag_row a b) ≡ b
some_flag a true = refl
some_flag a false = refl

some_mapped : {X Y : Type 0} (f : X → Y) (x : Option X) → is_some (option_map f x) ≡ is_some x
some_mapped f None = refl
some_mapped f (Some x) = refl

some_given : (given : Given) (a : Argument) → is_some (given_row given a) ≡ has_given given a
some_given given Force = some_flag Force given.forced
some_given given Atomic = some_flag Atomic given.atomic
some_given given Verbose = some_flag Verbose given.verbose
some_given given (Database path) = some_mapped (λ p. row_of (Database p)) given.database
some_given given (Server place) = some_mapped (λ p. row_of (Server p)) given.server
some_given given (File word) = some_mapped (λ w. row_of (File w)) given.operand

pub given_has : (given : Given) (rows : List Row) → AreGiven given rows → (a : Argument) → has_row (id_of a) rows ≡ has_given given a
given_has given rows are a = has_found (id_of a) rows ∙ ap is_some (are a) ∙ some_given given a

-- one more argument
pub one_more : (given : Given) (rows : List Row) (a : Argument) → has_row (id_of a) rows ≡ false → AreGiven given rows → AreGiven (with_given given a) (rows ++ row_of a ∷ [])
one_more given rows Force none are Force = find_last (codes "force") rows (row_of Force) none refl
one_more given rows Atomic none are Atomic = find_last (codes "atomic") rows (row_of Atomic) none refl
one_more given rows Verbose none are Verbose = find_last (codes "verbose") rows (row_of Verbose) none refl
one_more given rows (Database path) none are (Database other) = find_last (codes "db") rows (row_of (Database path)) none refl
one_more given rows (Server place) none are (Server other) = find_last (codes "server") rows (row_of (Server place)) none refl
one_more given rows (File word) none are (File other) = find_last (codes "file") rows (row_of (File word)) none refl
one_more given rows a none are b = find_kept (id_of b) rows (row_of a) refl ∙ are b

-- ---- the defaults

either : {X : Type 0} (b : Bool) (x : X) → cond b x x ≡ x
either true x = refl
either false x = refl

quiet : (b : Bool) (kinds : Kinds) → kinds ≡ [] → cond b [] kinds ≡ []
quiet true kinds none = refl
quiet false kinds none = none

quiet_or : (b : Bool) (kinds : Kinds) → cond (b || true) [] kinds ≡ []
quiet_or true kinds = refl
quiet_or false kinds = refl

pub both_quiet : (a b : Kinds) → a ≡ [] → b ≡ [] → or_else a b ≡ []
both_quiet a b p q = rw p q

-- the arguments as they are built
abbrev built_force : Rule
built_force = with_index 1 (filled (flag_rule (codes "force")))

abbrev built_atomic : Rule
built_atomic = with_index 1 (filled (flag_rule (codes "atomic")))

abbrev built_database : Rule
built_database = with_index 1 (filled database_rule)

abbrev built_server : Rule
built_server = with_index 1 (filled (option_rule (codes "server")))

abbrev built_verbose : Rule
built_verbose = with_index 1 (filled (flag_rule (codes "verbose")))

abbrev built_file : Rule
built_file = with_index 1 (filled file_rule)

abbrev built_help : Rule
built_help = with_index 2 (filled help_rule)

no_default : (rows : List Row) (rule : Rule) → is_empty rule.defaults ≡ true → default_fault rows rule ≡ []
no_default rows rule none = rw none (quiet_or (has_row rule.id rows) (given_default_fault rule rule.defaults))

force_quiet : (rows : List Row) → default_fault rows built_force ≡ []
force_quiet rows = quiet (has_row (codes "force") rows || false) (given_default_fault built_force built_force.defaults) refl

atomic_quiet : (rows : List Row) → default_fault rows built_atomic ≡ []
atomic_quiet rows = quiet (has_row (codes "atomic") rows || false) (given_default_fault built_atomic built_atomic.defaults) refl

verbose_quiet : (rows : List Row) → default_fault rows built_verbose ≡ []
verbose_quiet rows = quiet (has_row (codes "verbose") rows || false) (given_default_fault built_verbose built_verbose.defaults) refl

one_quiet : (rows : List Row) (rule : Rule) (rules : List Rule) → default_fault rows rule ≡ [] → defaults_fault (with_default rows rule) rules ≡ [] → defaults_fault rows (rule ∷ rules) ≡ []
unfolding defaults_fault
one_quiet rows rule rules first rest = both_quiet (default_fault rows rule) (defaults_fault (with_default rows rule) rules) first rest

operand_quiet : (rows : List Row) → defaults_fault rows (built_file ∷ built_help ∷ []) ≡ []
unfolding defaults_fault
operand_quiet rows =
    one_quiet rows built_file (built_help ∷ []) (no_default rows built_file refl)
    (one_quiet (with_default rows built_file) built_help [] (no_default (with_default rows built_file) built_help refl) refl)

-- the defaults are right
pub defaults_quiet : (s : Subcommand) (rows : List Row) → defaults_fault rows (rules_of s) ≡ []
defaults_quiet Batch rows =
    let forced = with_default rows built_force in
    let joined = with_default forced built_atomic in
    let named = with_default joined built_database in
    let served = with_default named built_server in
    one_quiet rows built_force (built_atomic ∷ built_database ∷ built_server ∷ built_verbose ∷ built_file ∷ built_help ∷ []) (force_quiet rows)
    (one_quiet forced built_atomic (built_database ∷ built_server ∷ built_verbose ∷ built_file ∷ built_help ∷ []) (atomic_quiet forced)
    (one_quiet joined built_database (built_server ∷ built_verbose ∷ built_file ∷ built_help ∷ []) (no_default joined built_database refl)
    (one_quiet named built_server (built_verbose ∷ built_file ∷ built_help ∷ []) (no_default named built_server refl)
    (one_quiet served built_verbose (built_file ∷ built_help ∷ []) (verbose_quiet served) (operand_quiet (with_default served built_verbose))))))
defaults_quiet Check rows = operand_quiet rows
defaults_quiet Replay rows = operand_quiet rows

pub checks_quiet : (s : Subcommand) (rows : List Row) → check_fault (shape_of s) rows false ≡ []
checks_quiet Batch rows = refl
checks_quiet Check rows = refl
checks_quiet Replay rows = refl

-- the rows with their defaults
abbrev pub defaulted : Subcommand → List Row → List Row
defaulted s rows = fold with_default rows (rules_of s)

abbrev left_out : Text → Row
left_out name = row name AsWritten DefaultValue (codes "false" ∷ [])

abbrev with_flag : Text → List Row → List Row
with_flag name rows = cond (has_row name rows) rows (rows ++ left_out name ∷ [])

force_default : (rows : List Row) (has : Bool) → has_row (codes "force") rows ≡ has → with_default rows built_force ≡ with_flag (codes "force") rows
force_default rows true is = rw is refl
force_default rows false is = rw is (valued (codes "force") AsWritten DefaultValue (codes "false" ∷ []) rows is)

atomic_default : (rows : List Row) (has : Bool) → has_row (codes "atomic") rows ≡ has → with_default rows built_atomic ≡ with_flag (codes "atomic") rows
atomic_default rows true is = rw is refl
atomic_default rows false is = rw is (valued (codes "atomic") AsWritten DefaultValue (codes "false" ∷ []) rows is)

verbose_default : (rows : List Row) (has : Bool) → has_row (codes "verbose") rows ≡ has → with_default rows built_verbose ≡ with_flag (codes "verbose") rows
verbose_default rows true is = rw is refl
verbose_default rows false is = rw is (valued (codes "verbose") AsWritten DefaultValue (codes "false" ∷ []) rows is)

batch_defaults : (rows : List Row) → defaulted Batch rows ≡ with_flag (codes "verbose") (with_flag (codes "atomic") (with_flag (codes "force") rows))
batch_defaults rows =
    let forced = with_default rows built_force in
    let joined = with_default forced built_atomic in
    let named = with_default joined built_database in
    let served = with_default named built_server in
    either _ _ ∙ either _ _ ∙ verbose_default served _ refl
    ∙ ap (with_flag (codes "verbose")) (either _ named ∙ either _ joined ∙ atomic_default forced _ refl ∙ ap (with_flag (codes "atomic")) (force_default rows _ refl))

-- a default adds nothing to another argument
other_flag : (name id : Text) (rows : List Row) → bytes_eq name id ≡ false → find_row id (with_flag name rows) ≡ find_row id rows
other_flag name id rows other = go (has_row name rows)
  where
    go : (has : Bool) → find_row id (cond has rows (rows ++ left_out name ∷ [])) ≡ find_row id rows
    go true = refl
    go false = find_kept id rows (left_out name) other

own_flag : (name : Text) (rows : List Row) (set : Bool) → bytes_eq name name ≡ true → has_row name rows ≡ set → option_and_then row_text (find_row name rows) ≡ cond set (Some (codes "true")) None
    → one_of name (with_flag name rows) ≡ Some (text_of_flag set)
own_flag name rows true same is text = rw is text
own_flag name rows false same is text = rw is (ap (option_and_then row_text) (find_last name rows (left_out name) is same))

flag_value : (given : Given) (set : Bool) (a : Argument) (rows : List Row) → text_of a ≡ codes "true" → find_row (id_of a) rows ≡ flag_row a set → option_and_then row_text (find_row (id_of a) rows) ≡ cond set (Some (codes "true")) None
flag_value given true a rows text is = ap (option_and_then row_text) is ∙ ap (λ t. Some t) text
flag_value given false a rows text is = ap (option_and_then row_text) is

-- a flag whose own row is kept by what comes before its default and after it
flag_at_end : (given : Given) (set : Bool) (a : Argument) (rows before after : List Row) → text_of a ≡ codes "true" → bytes_eq (id_of a) (id_of a) ≡ true
    → find_row (id_of a) rows ≡ flag_row a set → find_row (id_of a) before ≡ find_row (id_of a) rows → find_row (id_of a) after ≡ find_row (id_of a) (with_flag (id_of a) before)
    → one_of (id_of a) after ≡ Some (text_of_flag set)
flag_at_end given set a rows before after text same is kept_before kept_after =
    ap (option_and_then row_text) kept_after
    ∙ own_flag (id_of a) before set same (has_found (id_of a) before ∙ ap is_some (kept_before ∙ is) ∙ some_flag a set)
    (ap (option_and_then row_text) kept_before ∙ flag_value given set a rows text is)

pub forced_at_end : (given : Given) (rows : List Row) → AreGiven given rows → one_of (codes "force") (defaulted Batch rows) ≡ Some (text_of_flag given.forced)
forced_at_end given rows are =
    let forced = with_flag (codes "force") rows in
    ap (one_of (codes "force")) (batch_defaults rows)
    ∙ flag_at_end given given.forced Force rows rows (with_flag (codes "verbose") (with_flag (codes "atomic") forced)) refl refl (are Force) refl
    (other_flag (codes "verbose") (codes "force") (with_flag (codes "atomic") forced) refl ∙ other_flag (codes "atomic") (codes "force") forced refl)

pub atomic_at_end : (given : Given) (rows : List Row) → AreGiven given rows → one_of (codes "atomic") (defaulted Batch rows) ≡ Some (text_of_flag given.atomic)
atomic_at_end given rows are =
    let forced = with_flag (codes "force") rows in
    ap (one_of (codes "atomic")) (batch_defaults rows)
    ∙ flag_at_end given given.atomic Atomic rows forced (with_flag (codes "verbose") (with_flag (codes "atomic") forced)) refl refl (are Atomic) (other_flag (codes "force") (codes "atomic") rows refl)
    (other_flag (codes "verbose") (codes "atomic") (with_flag (codes "atomic") forced) refl)

pub verbose_at_end : (given : Given) (rows : List Row) → AreGiven given rows → one_of (codes "verbose") (defaulted Batch rows) ≡ Some (text_of_flag given.verbose)
verbose_at_end given rows are =
    let forced = with_flag (codes "force") rows in
    let joined = with_flag (codes "atomic") forced in
    ap (one_of (codes "verbose")) (batch_defaults rows)
    ∙ flag_at_end given given.verbose Verbose rows joined (with_flag (codes "verbose") joined) refl refl (are Verbose)
    (other_flag (codes "atomic") (codes "verbose") forced refl ∙ other_flag (codes "force") (codes "verbose") rows refl) refl

first_value : (f : Word → Row) (value : Option Word) → ((word : Word) → slice_get (f word).values 0 ≡ Some word) → option_and_then (λ r. slice_get r.values 0) (option_map f value) ≡ value
first_value f None first = refl
first_value f (Some word) first = first word

named_in_batch : (id : Text) (rows : List Row) → bytes_eq (codes "force") id ≡ false → bytes_eq (codes "atomic") id ≡ false → bytes_eq (codes "verbose") id ≡ false
    → first_of id (defaulted Batch rows) ≡ first_of id rows
named_in_batch id rows no_force no_atomic no_verbose =
    let forced = with_flag (codes "force") rows in
    ap (first_of id) (batch_defaults rows) ∙ ap (option_and_then (λ r. slice_get r.values 0))
    (other_flag (codes "verbose") id (with_flag (codes "atomic") forced) no_verbose ∙ other_flag (codes "atomic") id forced no_atomic ∙ other_flag (codes "force") id rows no_force)

pub file_at_end : (s : Subcommand) (given : Given) (rows : List Row) → AreGiven given rows → first_of (codes "file") (defaulted s rows) ≡ given.operand
file_at_end Batch given rows are =
    named_in_batch (codes "file") rows refl refl refl ∙ ap (option_and_then (λ r. slice_get r.values 0)) (are (File [])) ∙ first_value (λ w. row_of (File w)) given.operand (λ word. refl)
file_at_end Check given rows are =
    ap (first_of (codes "file")) (either _ _ ∙ either _ rows) ∙ ap (option_and_then (λ r. slice_get r.values 0)) (are (File [])) ∙ first_value (λ w. row_of (File w)) given.operand (λ word. refl)
file_at_end Replay given rows are =
    ap (first_of (codes "file")) (either _ _ ∙ either _ rows) ∙ ap (option_and_then (λ r. slice_get r.values 0)) (are (File [])) ∙ first_value (λ w. row_of (File w)) given.operand (λ word. refl)

pub database_at_end : (given : Given) (rows : List Row) → AreGiven given rows → first_of (codes "db") (defaulted Batch rows) ≡ given.database
database_at_end given rows are =
    named_in_batch (codes "db") rows refl refl refl ∙ ap (option_and_then (λ r. slice_get r.values 0)) (are (Database [])) ∙ first_value (λ p. row_of (Database p)) given.database (λ path. refl)

pub server_at_end : (given : Given) (rows : List Row) → AreGiven given rows → first_of (codes "server") (defaulted Batch rows) ≡ given.server
server_at_end given rows are =
    named_in_batch (codes "server") rows refl refl refl ∙ ap (option_and_then (λ r. slice_get r.values 0)) (are (Server [])) ∙ first_value (λ p. row_of (Server p)) given.server (λ place. refl)
