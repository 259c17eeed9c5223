-- The words of a subcommand, as clap reads them and as the definition of an invocation does.
use Rattle.std.proofs.Common.{◌≡◌, ◌∙◌, ◌&&◌, ℕ, Bool, cond, true, false, refl, sym, ap, inl, inr, subst, List, [], ◌∷◌, ◌++◌, Option, Some, None, is_some, codes}
use Rattle.std.specs.Prelude.{option_and_then}
use Rattle.clap.specs.Kinds.{Kinds, or_else}
use Rattle.clap.specs.Faults.{turn_fault, walk_fault, settle_fault, defaults_fault, check_fault}
use Rattle.clap.specs.Walk.{Held, Row, Text, Walk, first_of, has_row, one_of, option as waits_for, pushed, settled_rows, walked}
use Rattle.clap.specs.declared.parser.matches.ValueSource.TheVariants.{CommandLine}
use Rattle.clap.specs.declared.builder.value_parser.Reading.TheVariants.{AsWritten}
use Rattle.clap.specs.declared.error.kind.ErrorKind.TheVariants as kind
use Rattle.clap.proofs.OnLiterals.{clap_on_literals}
use Rattle.prt_addr.specs.Word.{Word}
use Rattle.prt_args.specs.Invocation.{Argument, Force, Atomic, Verbose, Database, Server, File, Given, Invocation, Valued, DatabaseOption, ServerOption, anywhere, argument_of, at_value, awaits, at_operands, asks_help, argument, unknown, Subcommand, Batch, Check, Replay, asked, asked_by, asked_of, file_of, has_given, is_delimiter, is_option, mode_of, nothing_given, option_word, part_of, usage_error, with_given}
use Rattle.prt_args.specs.Tasks.{text_of_flag}
use Rattle.prt_args.specs.declared.task.Mode.{Mode}
use Rattle.prt_args.specs.declared.task.Mode.TheVariants.{InTurn, Together}
use Rattle.prt_args.proofs.Rows.{used_once}
use Rattle.prt_args.proofs.Arguments.{AreGiven, atomic_at_end, both_quiet, checks_quiet, database_at_end, defaults_quiet, file_at_end, forced_at_end, given_has, one_more, row_of, server_at_end, verbose_at_end}
use Rattle.prt_args.proofs.LostWords.{IsLost, end_lost, lost, lost_operands, option_mistaken, position_of}
use Rattle.prt_args.proofs.Walks.{Agrees, Reads, as_part, faults, rows_at_end, word_mistaken, word_refused, word_taken}
use Rattle.prt_args.proofs.WordClasses.{Class, Gives, Operand, IsMistake, after_operand, awaits_option, class_of, id_of, rules_of, settles, shape_of, value_id, value_turn, walk_at, walk_waiting, walk_when, word_turn}
use Rattle.prt_args.proofs.WordClasses as class

-- ---- where the walk is when these were given

-- the rows, with what is still pending
abbrev held_rows : Subcommand → List Row → Option (Text × List Text) → List Row
held_rows s rows pending = settled_rows (rules_of s) pending rows

record HasWalked (s : Subcommand) (given : Given) (rows : List Row) (pending : Option (Text × List Text)) (position : ℕ) : Type 0 where
  settled_here : settles s rows pending
  are : AreGiven given (held_rows s rows pending)
  placed : position ≡ position_of given.operand

has_here : (s : Subcommand) (given : Given) (rows : List Row) (pending : Option (Text × List Text)) (position : ℕ) → HasWalked s given rows pending position
    → (a : Argument) → has_row (id_of a) (held_rows s rows pending) ≡ has_given given a
has_here s given rows pending position stands = given_has given (held_rows s rows pending) stands.are

-- ---- the end of the words

no_faults : (s : Subcommand) (rows : List Row) (pending : Option (Text × List Text)) (position : ℕ) (trailing : Bool) → settles s rows pending → faults s (walk_at rows pending position trailing) [] ≡ []
unfolding walk_fault
no_faults s rows pending position trailing settled_here =
    let held = held_rows s rows pending in
    let checks = check_fault (shape_of s) (rows_at_end s (walk_at rows pending position trailing) []) false in
    both_quiet (settle_fault (rules_of s) false (walk_at rows pending position trailing).held) (or_else (defaults_fault held (rules_of s)) checks) settled_here
    (both_quiet (defaults_fault held (rules_of s)) checks (defaults_quiet s held) (checks_quiet s (rows_at_end s (walk_at rows pending position trailing) [])))

-- a script by what was given, or none if that says how to execute it in no way
batch_at_end : (given : Given) (kinds : Kinds) (rows : List Row) (mode : Option Mode) (server database : Option Word) → mode_of given.forced given.atomic ≡ mode
    → kinds ≡ []
    → option_and_then file_of (first_of (codes "file") rows) ≡ option_and_then file_of given.operand
    → given.database ≡ database
    → first_of (codes "db") rows ≡ database
    → first_of (codes "server") rows ≡ server
    → one_of (codes "force") rows ≡ Some (text_of_flag given.forced)
    → one_of (codes "atomic") rows ≡ Some (text_of_flag given.atomic)
    → one_of (codes "verbose") rows ≡ Some (text_of_flag given.verbose)
    → Agrees (asked_of server mode database given) kinds (Some (codes "batch", rows))
batch_at_end given kinds rows None None database is none file same named served forced atomic verbose = inr (none, refl, inl (given.forced, given.atomic, forced, atomic, is))
batch_at_end given kinds rows (Some mode) None database is none file same named served forced atomic verbose =
    (none, refl, file, named ∙ sym same, (given.forced, given.atomic, forced, atomic, is), verbose, served)
batch_at_end given kinds rows None (Some server) database is none file same named served forced atomic verbose = inr (none, refl, inl (given.forced, given.atomic, forced, atomic, is))
batch_at_end given kinds rows (Some (InTurn on_refusal)) (Some server) database is none file same named served forced atomic verbose =
    inr (none, refl, inr (inl ((server, served), (on_refusal, (given.forced, given.atomic, forced, atomic, is)))))
batch_at_end given kinds rows (Some Together) (Some server) (Some path) is none file same named served forced atomic verbose =
    inr (none, refl, inr (inr ((server, served), (path, named))))
batch_at_end given kinds rows (Some Together) (Some server) None is none file same named served forced atomic verbose =
    (none, refl, file, named, (given.forced, given.atomic, forced, atomic, is), verbose, served)

at_end : (s : Subcommand) (given : Given) (rows : List Row) (pending : Option (Text × List Text)) (position : ℕ) (trailing : Bool) → HasWalked s given rows pending position
    → Reads s (asked s given) (walk_at rows pending position trailing) []
at_end Batch given rows pending position trailing stands =
    let held = held_rows Batch rows pending in
    batch_at_end given _ _ _ given.server given.database refl (no_faults Batch rows pending position trailing stands.settled_here)
    (ap (option_and_then file_of) (file_at_end Batch given held stands.are))
    refl
    (database_at_end given held stands.are)
    (server_at_end given held stands.are)
    (forced_at_end given held stands.are)
    (atomic_at_end given held stands.are)
    (verbose_at_end given held stands.are)
at_end Check given rows pending position trailing stands = (
  no_faults Check rows pending position trailing stands.settled_here,
  refl,
  ap (option_and_then file_of) (file_at_end Check given (held_rows Check rows pending) stands.are),
)
at_end Replay given rows pending position trailing stands = (
  no_faults Replay rows pending position trailing stands.settled_here,
  refl,
  ap (option_and_then file_of) (file_at_end Replay given (held_rows Replay rows pending) stands.are),
)

-- ---- an operand

abbrev pending_file : Word → Option (Text × List Text)
pending_file word = Some (codes "file", word ∷ [])

quiet : (b : Bool) (kinds : Kinds) → kinds ≡ [] → cond b [] kinds ≡ []
quiet true kinds none = refl
quiet false kinds none = none

never : {X : Type 0} (b : Bool) (x y : X) → cond (b && false) x y ≡ y
never true x y = refl
never false x y = refl

-- the first one has no fault, and waits to be used
first_operand : (s : Subcommand) (word : Word) (rows : List Row) (pending : Option (Text × List Text)) → settles s rows pending → value_turn s word rows pending 1 ≡ []
unfolding walked
first_operand Batch word rows pending settled_here = quiet _ _ settled_here
first_operand Check word rows pending settled_here = quiet _ _ settled_here
first_operand Replay word rows pending settled_here = quiet _ _ settled_here

abbrev waiting_operand : Word → Bool → Held → Walk
waiting_operand word trailing held = record (walk_at [] None 2 trailing) { held = pushed (codes "file") word held }

operand_waits : (s : Subcommand) (word : Word) (rows : List Row) (pending : Option (Text × List Text)) (trailing : Bool)
    → after_operand s word rows pending 1 trailing ≡ walk_at (held_rows s rows pending) (pending_file word) 2 trailing
operand_waits Batch word rows pending true = ap (waiting_operand word true) (never _ _ _)
operand_waits Batch word rows pending false = ap (waiting_operand word false) (never _ _ _)
operand_waits Check word rows pending true = ap (waiting_operand word true) (never _ _ _)
operand_waits Check word rows pending false = ap (waiting_operand word false) (never _ _ _)
operand_waits Replay word rows pending true = ap (waiting_operand word true) (never _ _ _)
operand_waits Replay word rows pending false = ap (waiting_operand word false) (never _ _ _)

-- a second one is a mistake
second_operand : (s : Subcommand) (word : Word) (rows : List Row) (pending : Option (Text × List Text)) → IsMistake (value_turn s word rows pending 2)
unfolding walked
second_operand Batch word rows pending = refl
second_operand Check word rows pending = refl
second_operand Replay word rows pending = refl

operand_rows : (s : Subcommand) (word : Word) (rows : List Row) → has_row (codes "file") rows ≡ false → held_rows s rows (pending_file word) ≡ rows ++ row_of (File word) ∷ []
operand_rows Batch word rows none = used_once (codes "file") AsWritten CommandLine (word ∷ []) rows none
operand_rows Check word rows none = used_once (codes "file") AsWritten CommandLine (word ∷ []) rows none
operand_rows Replay word rows none = used_once (codes "file") AsWritten CommandLine (word ∷ []) rows none

operand_settles : (s : Subcommand) (word : Word) (rows : List Row) → has_row (codes "file") rows ≡ false → settles s rows (pending_file word)
operand_settles Batch word rows none = rw none refl
operand_settles Check word rows none = rw none refl
operand_settles Replay word rows none = rw none refl

with_operand : (s : Subcommand) (given : Given) (word : Word) (rows : List Row) (pending : Option (Text × List Text)) (position : ℕ) → has_given given (File word) ≡ false → HasWalked s given rows pending position
    → HasWalked s (with_given given (File word)) (held_rows s rows pending) (pending_file word) 2
with_operand s given word rows pending position free stands =
    let held = held_rows s rows pending in
    let none : has_row (codes "file") held ≡ false = has_here s given rows pending position stands (File word) ∙ free in
    record {
      settled_here = operand_settles s word held none;
      are = subst (AreGiven (with_given given (File word))) (sym (operand_rows s word held none)) (one_more given held (File word) none stands.are);
      placed = refl;
    }

-- a word that is met as a value: the first operand, or one too many
operand_read : (s : Subcommand) (given : Given) (word : Word) (words : List Word) (rows : List Row) (pending : Option (Text × List Text)) (position : ℕ) (trailing : Bool) (more : Given → Invocation)
    → HasWalked s given rows pending position
    → turn_fault (shape_of s) [] (walk_at rows pending position trailing) word ≡ value_turn s word rows pending position
    → walked (rules_of s) [] (walk_at rows pending position trailing) word ≡ after_operand s word rows pending position trailing
    → (HasWalked s (with_given given (File word)) (held_rows s rows pending) (pending_file word) 2
    → Reads s (more (with_given given (File word))) (walk_at (held_rows s rows pending) (pending_file word) 2 trailing) words)
    → Reads s (cond (is_some given.operand) usage_error (more (with_given given (File word)))) (walk_at rows pending position trailing) (word ∷ words)
operand_read s given word words rows pending position trailing more stands turn next rest = go given.operand refl
  where
    go : (operand : Option Word) → given.operand ≡ operand → Reads s (cond (is_some given.operand) usage_error (more (with_given given (File word)))) (walk_at rows pending position trailing) (word ∷ words)
    go None free =
        let first : position ≡ 1 = stands.placed ∙ ap position_of free in
        subst (λ b. Reads s (cond b usage_error (more (with_given given (File word)))) (walk_at rows pending position trailing) (word ∷ words)) (sym (ap is_some free))
        (word_taken s _ _ (walk_at (held_rows s rows pending) (pending_file word) 2 trailing) word words
        (turn ∙ ap (value_turn s word rows pending) first ∙ first_operand s word rows pending stands.settled_here)
        (next ∙ ap (λ p. after_operand s word rows pending p trailing) first ∙ operand_waits s word rows pending trailing)
        (rest (with_operand s given word rows pending position (ap is_some free) stands)))
    go (Some file) taken =
        let second : position ≡ 2 = stands.placed ∙ ap position_of taken in
        subst (λ b. Reads s (cond b usage_error (more (with_given given (File word)))) (walk_at rows pending position trailing) (word ∷ words)) (sym (ap is_some taken))
        (word_mistaken s _ word words (subst IsMistake (sym (turn ∙ ap (value_turn s word rows pending) second)) (second_operand s word rows pending)))

-- after `--`
operands_read : (s : Subcommand) (given : Given) (rows : List Row) (pending : Option (Text × List Text)) (position : ℕ) → HasWalked s given rows pending position
    → (words : List Word) → Reads s (asked_by s words at_operands given) (walk_at rows pending position true) words
unfolding walked
operands_read s given rows pending position stands [] = at_end s given rows pending position true stands
operands_read s given rows pending position stands (word ∷ words) =
    operand_read s given word words rows pending position true (asked_by s words at_operands) stands refl refl
    (λ next. operands_read s (with_given given (File word)) (held_rows s rows pending) (pending_file word) 2 next words)

-- ---- an option that gives an argument

given_turn : (word : Text) (a : Argument) (rows : List Row) (pending : Option (Text × List Text)) (position : ℕ) (has : Bool) → Gives word a → settles Batch rows pending
    → has_row (id_of a) (held_rows Batch rows pending) ≡ has → word_turn Batch word rows pending position ≡ cond has (kind.ArgumentConflict ∷ []) []
given_turn word Force rows pending position true g settled_here is = rw (g.no_delimiter, g.long, settled_here, is) refl
given_turn word Force rows pending position false g settled_here is = rw (g.no_delimiter, g.long, settled_here, is) refl
given_turn word Atomic rows pending position true g settled_here is = rw (g.no_delimiter, g.long, settled_here, is) refl
given_turn word Atomic rows pending position false g settled_here is = rw (g.no_delimiter, g.long, settled_here, is) refl
given_turn word Verbose rows pending position true g settled_here is = rw (g.no_delimiter, g.long, settled_here, is) refl
given_turn word Verbose rows pending position false g settled_here is = rw (g.no_delimiter, g.long, settled_here, is) refl
given_turn word (Database path) rows pending position true g settled_here is = rw (g.no_delimiter, g.long, settled_here, is) refl
given_turn word (Database path) rows pending position false g settled_here is = rw (g.no_delimiter, g.long, settled_here, is) refl
given_turn word (Server place) rows pending position true g settled_here is = rw (g.no_delimiter, g.long, settled_here, is) refl
given_turn word (Server place) rows pending position false g settled_here is = rw (g.no_delimiter, g.long, settled_here, is) refl
given_turn word (File file) rows pending position has g settled_here is = absurd g.named

given_next : (word : Text) (a : Argument) (rows : List Row) (pending : Option (Text × List Text)) (position : ℕ) → Gives word a → has_row (id_of a) (held_rows Batch rows pending) ≡ false
    → walked (rules_of Batch) [] (walk_at rows pending position false) word ≡ walk_at (held_rows Batch rows pending ++ row_of a ∷ []) None position false
unfolding walked
given_next word Force rows pending position g none = rw (g.no_delimiter, g.long)
    (ap (λ rs. walk_at rs None position false) (used_once (codes "force") AsWritten CommandLine (codes "true" ∷ []) (held_rows Batch rows pending) none))
given_next word Atomic rows pending position g none = rw (g.no_delimiter, g.long)
    (ap (λ rs. walk_at rs None position false) (used_once (codes "atomic") AsWritten CommandLine (codes "true" ∷ []) (held_rows Batch rows pending) none))
given_next word Verbose rows pending position g none = rw (g.no_delimiter, g.long)
    (ap (λ rs. walk_at rs None position false) (used_once (codes "verbose") AsWritten CommandLine (codes "true" ∷ []) (held_rows Batch rows pending) none))
given_next word (Database path) rows pending position g none = rw (g.no_delimiter, g.long)
    (ap (λ rs. walk_at rs None position false) (used_once (codes "db") AsWritten CommandLine (path ∷ []) (held_rows Batch rows pending) none))
given_next word (Server place) rows pending position g none = rw (g.no_delimiter, g.long)
    (ap (λ rs. walk_at rs None position false) (used_once (codes "server") AsWritten CommandLine (place ∷ []) (held_rows Batch rows pending) none))
given_next word (File file) rows pending position g none = absurd g.named

same_place : (given : Given) (word : Text) (a : Argument) → Gives word a → position_of given.operand ≡ position_of (with_given given a).operand
same_place given word Force g = refl
same_place given word Atomic g = refl
same_place given word Verbose g = refl
same_place given word (Database path) g = refl
same_place given word (Server place) g = refl
same_place given word (File file) g = absurd g.named

with_option : (given : Given) (word : Text) (a : Argument) (rows : List Row) (pending : Option (Text × List Text)) (position : ℕ) → Gives word a → has_given given a ≡ false → HasWalked Batch given rows pending position
    → HasWalked Batch (with_given given a) (held_rows Batch rows pending ++ row_of a ∷ []) None position
with_option given word a rows pending position g free stands = record {
  settled_here = refl;
  are = one_more given (held_rows Batch rows pending) a (has_here Batch given rows pending position stands a ∙ free) stands.are;
  placed = stands.placed ∙ same_place given word a g;
}

-- ---- the places that words are read from

-- the words that follow are read as they are wherever the walk is
abbrev ReadsOn : Subcommand → List Word → Type 0
ReadsOn s words = (given : Given) (rows : List Row) (pending : Option (Text × List Text)) (position : ℕ) → HasWalked s given rows pending position
    → Reads s (asked_by s words anywhere given) (walk_at rows pending position false) words

-- the same after an option whose value is the next one
abbrev ReadsValue : List Word → Type 0
ReadsValue words = (option : Valued) (given : Given) (rows : List Row) (position : ℕ) → HasWalked Batch given rows None position
    → Reads Batch (asked_by Batch words (at_value option) given) (walk_waiting option rows position) words

option_read : (given : Given) (word : Word) (words : List Word) (rows : List Row) (pending : Option (Text × List Text)) (position : ℕ) (a : Argument) → Gives word a
    → HasWalked Batch given rows pending position → ReadsOn Batch words
    → Reads Batch (cond (has_given given a) usage_error (asked_by Batch words anywhere (with_given given a))) (walk_at rows pending position false) (word ∷ words)
option_read given word words rows pending position a g stands rest = go (has_given given a) refl
  where
    go : (has : Bool) → has_given given a ≡ has → Reads Batch (cond (has_given given a) usage_error (asked_by Batch words anywhere (with_given given a))) (walk_at rows pending position false) (word ∷ words)
    go true again = subst (λ b. Reads Batch (cond b usage_error (asked_by Batch words anywhere (with_given given a))) (walk_at rows pending position false) (word ∷ words)) (sym again)
        (word_mistaken Batch _ word words (subst IsMistake (sym (given_turn word a rows pending position true g stands.settled_here (has_here Batch given rows pending position stands a ∙ again))) refl))
    go false free = subst (λ b. Reads Batch (cond b usage_error (asked_by Batch words anywhere (with_given given a))) (walk_at rows pending position false) (word ∷ words)) (sym free)
        (word_taken Batch _ _ (walk_at (held_rows Batch rows pending ++ row_of a ∷ []) None position false) word words
        (given_turn word a rows pending position false g stands.settled_here (has_here Batch given rows pending position stands a ∙ free))
        (given_next word a rows pending position g (has_here Batch given rows pending position stands a ∙ free))
        (rest (with_given given a) (held_rows Batch rows pending ++ row_of a ∷ []) None position (with_option given word a rows pending position g free stands)))

-- ---- an option and the next word

abbrev pending_value : Valued → Word → Option (Text × List Text)
pending_value option word = Some (value_id option, word ∷ [])

awaits_turn : (option : Valued) (rows : List Row) (pending : Option (Text × List Text)) (position : ℕ) → settles Batch rows pending → word_turn Batch (option_word option) rows pending position ≡ []
unfolding clap_on_literals
awaits_turn DatabaseOption rows pending position settled_here = rw settled_here refl
awaits_turn ServerOption rows pending position settled_here = rw settled_here refl

awaits_next : (option : Valued) (rows : List Row) (pending : Option (Text × List Text)) (position : ℕ)
    → walked (rules_of Batch) [] (walk_at rows pending position false) (option_word option) ≡ walk_waiting option (held_rows Batch rows pending) position
unfolding clap_on_literals
awaits_next DatabaseOption rows pending position = refl
awaits_next ServerOption rows pending position = refl

value_lost : (option : Valued) (word : Word) (rows : List Row) → has_row (id_of (argument_of option word)) rows ≡ true
    → IsMistake (settle_fault (rules_of Batch) false (record { rows = rows; pending = pending_value option word; skip = 0 }))
value_lost DatabaseOption word rows has = rw has refl
value_lost ServerOption word rows has = rw has refl

value_settles : (option : Valued) (word : Word) (rows : List Row) → has_row (id_of (argument_of option word)) rows ≡ false → settles Batch rows (pending_value option word)
value_settles DatabaseOption word rows none = rw none refl
value_settles ServerOption word rows none = rw none refl

value_rows : (option : Valued) (word : Word) (rows : List Row) → has_row (id_of (argument_of option word)) rows ≡ false → held_rows Batch rows (pending_value option word) ≡ rows ++ row_of (argument_of option word) ∷ []
value_rows DatabaseOption word rows none = used_once (codes "db") AsWritten CommandLine (word ∷ []) rows none
value_rows ServerOption word rows none = used_once (codes "server") AsWritten CommandLine (word ∷ []) rows none

value_place : (option : Valued) (given : Given) (word : Word) → position_of given.operand ≡ position_of (with_given given (argument_of option word)).operand
value_place DatabaseOption given word = refl
value_place ServerOption given word = refl

with_value : (option : Valued) (given : Given) (word : Word) (rows : List Row) (position : ℕ) → has_given given (argument_of option word) ≡ false → HasWalked Batch given rows None position
    → HasWalked Batch (with_given given (argument_of option word)) rows (pending_value option word) position
with_value option given word rows position free stands =
    let none : has_row (id_of (argument_of option word)) rows ≡ false = has_here Batch given rows None position stands (argument_of option word) ∙ free in
    record {
      settled_here = value_settles option word rows none;
      are = subst (AreGiven (with_given given (argument_of option word))) (sym (value_rows option word rows none)) (one_more given rows (argument_of option word) none stands.are);
      placed = stands.placed ∙ value_place option given word;
    }

-- what the words ask for from the value on
abbrev asked_from : Valued → Given → Word → List Word → Invocation
asked_from option given word words = cond (has_given given (argument_of option word)) usage_error (asked_by Batch words anywhere (with_given given (argument_of option word)))

value_taken : (option : Valued) (given : Given) (word : Word) (words : List Word) (rows : List Row) (position : ℕ) → Operand Batch word → HasWalked Batch given rows None position → ReadsOn Batch words
    → Reads Batch (asked_from option given word words) (walk_waiting option rows position) (word ∷ words)
value_taken option given word words rows position o stands rest = go (has_given given (argument_of option word)) refl
  where
    go : (has : Bool) → has_given given (argument_of option word) ≡ has → Reads Batch (asked_from option given word words) (walk_waiting option rows position) (word ∷ words)
    go true again = subst (λ b. Reads Batch (cond b usage_error (asked_by Batch words anywhere (with_given given (argument_of option word)))) (walk_waiting option rows position) (word ∷ words)) (sym again)
        (word_taken Batch usage_error _ (walk_at rows (pending_value option word) position false) word words (o.taken option rows position).0 (o.taken option rows position).1
        (subst (λ p. Reads Batch usage_error (walk_at rows (pending_value option word) p false) words) (sym stands.placed)
        (lost option rows (word ∷ []) given.operand (value_lost option word rows (has_here Batch given rows None position stands (argument_of option word) ∙ again)) words)))
    go false free = subst (λ b. Reads Batch (cond b usage_error (asked_by Batch words anywhere (with_given given (argument_of option word)))) (walk_waiting option rows position) (word ∷ words)) (sym free)
        (word_taken Batch _ _ (walk_at rows (pending_value option word) position false) word words (o.taken option rows position).0 (o.taken option rows position).1
        (rest (with_given given (argument_of option word)) rows (pending_value option word) position (with_value option given word rows position free stands)))

-- an option without its value
no_value_lost : (option : Valued) (rows : List Row) → IsLost rows (Some (value_id option, []))
no_value_lost DatabaseOption rows = refl
no_value_lost ServerOption rows = refl

value_missing : ReadsValue []
value_missing option given rows position stands = end_lost (waits_for (value_id option)) rows (Some (value_id option, [])) position false (no_value_lost option rows)

value_ends : (option : Valued) (words : List Word) (given : Given) (rows : List Row) (position : ℕ) → HasWalked Batch given rows None position
    → Reads Batch (asked_by Batch (codes "--" ∷ words) (at_value option) given) (walk_waiting option rows position) (codes "--" ∷ words)
unfolding clap_on_literals
value_ends option words given rows position stands =
    word_taken Batch usage_error (walk_waiting option rows position) (walk_when (waits_for (value_id option)) rows (Some (value_id option, [])) position true) (codes "--") words refl refl
    (subst (λ p. Reads Batch usage_error (walk_when (waits_for (value_id option)) rows (Some (value_id option, [])) p true) words) (sym stands.placed)
    (lost_operands option (waits_for (value_id option)) rows [] given.operand (no_value_lost option rows) words))

-- what the definition makes of the option
option_awaits : (option : Valued) → part_of Batch (option_word option) ≡ awaits option
unfolding clap_on_literals
option_awaits DatabaseOption = refl
option_awaits ServerOption = refl

value_awaited : (option : Valued) (given : Given) (words : List Word) (rows : List Row) (pending : Option (Text × List Text)) (position : ℕ) → HasWalked Batch given rows pending position → ReadsValue words
    → Reads Batch (asked_by Batch (option_word option ∷ words) anywhere given) (walk_at rows pending position false) (option_word option ∷ words)
value_awaited option given words rows pending position stands values =
    as_part Batch anywhere given (option_word option) words (walk_at rows pending position false) (awaits option) (option_awaits option)
    (word_taken Batch (asked_by Batch words (at_value option) given) (walk_at rows pending position false) (walk_waiting option (held_rows Batch rows pending) position) (option_word option) words
    (awaits_turn option rows pending position stands.settled_here) (awaits_next option rows pending position)
    (values option given (held_rows Batch rows pending) position (record { settled_here = refl; are = stands.are; placed = stands.placed })))

value_read : (word : Word) (words : List Word) → ReadsOn Batch words → ReadsValue (word ∷ words)
unfolding walked
value_read word words rest option given rows position stands = go (class_of Batch word)
  where
    mistaken : is_delimiter word ≡ false → is_option word ≡ true → Reads Batch (asked_by Batch (word ∷ words) (at_value option) given) (walk_waiting option rows position) (word ∷ words)
    mistaken plain is = as_part Batch (at_value option) given word words (walk_waiting option rows position) unknown (rw is refl)
        (word_mistaken Batch _ word words (option_mistaken (waits_for (value_id option)) word rows (Some (value_id option, [])) position plain is (no_value_lost option rows)))

    go : Class Batch word → Reads Batch (asked_by Batch (word ∷ words) (at_value option) given) (walk_waiting option rows position) (word ∷ words)
    go (class.operand o) = as_part Batch (at_value option) given word words (walk_waiting option rows position) (argument (argument_of option word)) (rw o.no_option refl) (value_taken option given word words rows position o stands rest)
    go (class.help h) = mistaken h.no_delimiter h.is_one
    go (class.unknown u) = mistaken u.no_delimiter u.is_one
    go (class.gives a batch g) = mistaken g.no_delimiter g.is_one
    go (class.awaits other batch is) = mistaken (subst (λ w. is_delimiter w ≡ false) (sym is) (awaits_option other).0) (subst (λ w. is_option w ≡ true) (sym is) (awaits_option other).1)
    go (class.delimiter is) = subst (λ w. Reads Batch (asked_by Batch (w ∷ words) (at_value option) given) (walk_waiting option rows position) (w ∷ words)) (sym is) (value_ends option words given rows position stands)

-- ---- any word

word_read : (s : Subcommand) (given : Given) (word : Word) (words : List Word) (rows : List Row) (pending : Option (Text × List Text)) (position : ℕ) → HasWalked s given rows pending position
    → ReadsOn s words → ReadsValue words → Class s word → Reads s (asked_by s (word ∷ words) anywhere given) (walk_at rows pending position false) (word ∷ words)
unfolding walked
word_read s given word words rows pending position stands rest values (class.delimiter is) =
    subst (λ w. Reads s (asked_by s (w ∷ words) anywhere given) (walk_at rows pending position false) (w ∷ words)) (sym is)
    (word_taken s (asked_by s words at_operands given) (walk_at rows pending position false) (walk_at rows pending position true) (codes "--") words refl refl (operands_read s given rows pending position stands words))
word_read s given word words rows pending position stands rest values (class.help h) =
    as_part s anywhere given word words (walk_at rows pending position false) asks_help h.part
    (word_refused s (walk_at rows pending position false) word words kind.DisplayHelp [] (h.turn rows pending position stands.settled_here))
word_read s given word words rows pending position stands rest values (class.unknown u) =
    as_part s anywhere given word words (walk_at rows pending position false) unknown u.part
    (word_mistaken s (walk_at rows pending position false) word words (u.turn rows pending position))
word_read Batch given word words rows pending position stands rest values (class.gives a batch g) =
    as_part Batch anywhere given word words (walk_at rows pending position false) (argument a) g.part (option_read given word words rows pending position a g stands rest)
word_read Check given word words rows pending position stands rest values (class.gives a batch g) = absurd batch
word_read Replay given word words rows pending position stands rest values (class.gives a batch g) = absurd batch
word_read Batch given word words rows pending position stands rest values (class.awaits option batch is) =
    subst (λ w. Reads Batch (asked_by Batch (w ∷ words) anywhere given) (walk_at rows pending position false) (w ∷ words)) (sym is)
    (value_awaited option given words rows pending position stands values)
word_read Check given word words rows pending position stands rest values (class.awaits option batch is) = absurd batch
word_read Replay given word words rows pending position stands rest values (class.awaits option batch is) = absurd batch
word_read s given word words rows pending position stands rest values (class.operand o) =
    as_part s anywhere given word words (walk_at rows pending position false) (argument (File word)) o.part
    (operand_read s given word words rows pending position false (asked_by s words anywhere) stands (o.turn rows pending position) (o.next rows pending position)
    (rest (with_given given (File word)) (held_rows s rows pending) (pending_file word) 2))

words_read : (s : Subcommand) (words : List Word) → ReadsOn s words × ReadsValue words
words_read s [] = (λ given rows pending position stands. at_end s given rows pending position false stands, value_missing)
words_read s (word ∷ words) = (
  λ given rows pending position stands. word_read s given word words rows pending position stands (words_read s words).0 (words_read s words).1 (class_of s word),
  value_read word words (words_read Batch words).0,
)

none_given : AreGiven nothing_given []
none_given Force = refl
none_given Atomic = refl
none_given Verbose = refl
none_given (Database path) = refl
none_given (Server place) = refl
none_given (File word) = refl

-- what the words of a subcommand ask for is what clap reads
pub subcommand_reads : (s : Subcommand) (words : List Word) → Reads s (asked_by s words anywhere nothing_given) (walk_at [] None 1 false) words
subcommand_reads s words = (words_read s words).0 nothing_given [] None 1 (record { settled_here = refl; are = none_given; placed = refl })
