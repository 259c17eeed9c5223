-- What a walk over the words of a subcommand comes to, and when that is what the words ask for.
use Rattle.std.proofs.Common.{◌≡◌, ◌⊎◌, Bool, true, false, sym, ap, inl, subst, List, [], ◌∷◌, Option, Some, None, codes}
use Rattle.std.specs.Prelude.{option_and_then}
use Rattle.std.specs.List.{fold}
use Rattle.clap.specs.Kinds.{Kinds, or_else}
use Rattle.clap.specs.Faults.{turn_fault, walk_fault, settle_fault, defaults_fault, check_fault}
use Rattle.clap.specs.Walk.{Held, Row, Text, Walk, walked, settled, finished}
use Rattle.clap.specs.declared.error.kind.ErrorKind.{ErrorKind}
use Rattle.clap.specs.declared.error.kind.ErrorKind.TheVariants as kind
use Rattle.prt_addr.specs.Word.{Word}
use Rattle.prt_args.specs.Tasks.{asks_question, flag_text, named_database, named_file, named_server, subcommand_name, text_of_flag}
use Rattle.prt_refusals.specs.declared.on_refusal.OnRefusal.{OnRefusal}
use Rattle.prt_args.specs.declared.task.Mode.{Mode}
use Rattle.prt_args.specs.declared.task.Mode.TheVariants.{InTurn, Together}
use Rattle.prt_args.specs.Invocation.{Invocation, ArgumentPlace, Part, Given, Subcommand, Batch, Check, Replay, ask, asked_by, asked_with, batch, check, file_of, has_help, help, help_on, mode_of, part_at, replay, serve, submit, usage_error, version}
use Rattle.prt_args.proofs.HelpWords.{AreBad}
use Rattle.prt_args.proofs.WordClasses.{IsMistake, mistaken_or, rules_of, shape_of}

abbrev pub name_of : Subcommand → Text
name_of Batch = codes "batch"
name_of Check = codes "check"
name_of Replay = codes "replay"

-- what a parse finds of `--force` and `--atomic` says that a script's lines are executed so, or in no way
abbrev pub HasMode : Option Mode → Option (Text × List Row) → Type 0
HasMode mode found = (forced atomic : Bool) × (flag_text (codes "force") found ≡ Some (text_of_flag forced)) × (flag_text (codes "atomic") found ≡ Some (text_of_flag atomic)) × (mode_of forced atomic ≡ mode)

-- a server is named
abbrev pub HasServer : Option (Text × List Row) → Type 0
HasServer found = (server : Text) × (named_server found ≡ Some server)

-- a script that was found without an error can be executed in no way: as its words ask, or by a server line by line, or by a server and over a database
abbrev pub HasConflict : Kinds → Option (Text × List Row) → Type 0
HasConflict kinds found =
    (kinds ≡ [])
    × (subcommand_name found ≡ Some (codes "batch"))
    × (HasMode None found
    ⊎ ((HasServer found × ((on_refusal : OnRefusal) × HasMode (Some (InTurn on_refusal)) found))
    ⊎ (HasServer found × ((path : Text) × (named_database found ≡ Some path)))))

-- what a parse finds is what the words ask for: the kinds of error, and the subcommand with its rows
abbrev pub Agrees : Invocation → Kinds → Option (Text × List Row) → Type 0
Agrees (batch script) kinds found =
    (kinds ≡ [])
    × (subcommand_name found ≡ Some (codes "batch"))
    × (option_and_then file_of (named_file found) ≡ script.file)
    × (named_database found ≡ script.database)
    × HasMode (Some script.mode) found
    × (flag_text (codes "verbose") found ≡ Some (text_of_flag script.verbose))
    × (named_server found ≡ None)
Agrees (submit script) kinds found =
    (kinds ≡ [])
    × (subcommand_name found ≡ Some (codes "batch"))
    × (option_and_then file_of (named_file found) ≡ script.file)
    × (named_database found ≡ None)
    × HasMode (Some Together) found
    × (flag_text (codes "verbose") found ≡ Some (text_of_flag script.verbose))
    × (named_server found ≡ Some script.server)
Agrees (check file) kinds found =
    (kinds ≡ [])
    × (subcommand_name found ≡ Some (codes "check"))
    × (option_and_then file_of (named_file found) ≡ file)
Agrees (replay file) kinds found =
    (kinds ≡ [])
    × (subcommand_name found ≡ Some (codes "replay"))
    × (option_and_then file_of (named_file found) ≡ file)
Agrees (serve own) kinds found = (subcommand_name found ≡ Some (codes "serve")) × (has_help own ≡ false → AreBad kinds)
Agrees (ask own) kinds found = (asks_question (subcommand_name found) ≡ true) × (has_help own ≡ false → AreBad kinds)
Agrees help kinds found = kinds ≡ kind.DisplayHelp ∷ []
Agrees version kinds found = kinds ≡ kind.DisplayVersion ∷ []
Agrees help_on kinds found = kinds ≡ kind.DisplayHelp ∷ kind.InvalidSubcommand ∷ []
Agrees usage_error kinds found = IsMistake kinds ⊎ HasConflict kinds found

abbrev end_of : Subcommand → Walk → List Text → Held
end_of s at words = (fold (walked (rules_of s) []) at words).held

abbrev pub faults_after : Subcommand → Walk → List Text → Kinds
faults_after s at words = or_else [] (or_else (settle_fault (rules_of s) false (end_of s at words))
    (or_else (defaults_fault (settled (rules_of s) (end_of s at words)).rows (rules_of s)) (check_fault (shape_of s) (finished (rules_of s) (end_of s at words)) false)))

abbrev pub faults : Subcommand → Walk → List Text → Kinds
faults s at words = or_else (walk_fault (shape_of s) [] at words) (faults_after s at words)

abbrev pub rows_at_end : Subcommand → Walk → List Text → List Row
rows_at_end s at words = finished (rules_of s) (end_of s at words)

abbrev pub Reads : Subcommand → Invocation → Walk → List Text → Type 0
Reads s asks at words = Agrees asks (faults s at words) (Some (name_of s, rows_at_end s at words))

-- a word that is taken
pub word_taken : (s : Subcommand) (asks : Invocation) (at next : Walk) (word : Text) (words : List Text)
    → turn_fault (shape_of s) [] at word ≡ [] → walked (rules_of s) [] at word ≡ next → Reads s asks next words → Reads s asks at (word ∷ words)
unfolding walk_fault
word_taken s asks at next word words turn goes reads =
    subst (λ kinds. Agrees asks (or_else (or_else kinds (walk_fault (shape_of s) [] (walked (rules_of s) [] at word) words)) (faults_after s (walked (rules_of s) [] at word) words))
    (Some (name_of s, rows_at_end s (walked (rules_of s) [] at word) words)))
    (sym turn) (subst (λ (w : Walk). Reads s asks w words) (sym goes) reads)

-- a word that is refused, and one that is a mistake
pub word_refused : (s : Subcommand) (at : Walk) (word : Text) (words : List Text) (k : ErrorKind) (kinds : Kinds) → turn_fault (shape_of s) [] at word ≡ k ∷ kinds → faults s at (word ∷ words) ≡ k ∷ kinds
unfolding walk_fault
word_refused s at word words k kinds turn = ap (λ ks. or_else (or_else ks (walk_fault (shape_of s) [] (walked (rules_of s) [] at word) words)) (faults_after s (walked (rules_of s) [] at word) words)) turn

pub word_mistaken : (s : Subcommand) (at : Walk) (word : Text) (words : List Text) → IsMistake (turn_fault (shape_of s) [] at word) → Reads s usage_error at (word ∷ words)
unfolding walk_fault
word_mistaken s at word words bad =
    let turn = turn_fault (shape_of s) [] at word in
    let rest = walk_fault (shape_of s) [] (walked (rules_of s) [] at word) words in
    inl (mistaken_or (or_else turn rest) (faults_after s (walked (rules_of s) [] at word) words) (mistaken_or turn rest bad))

-- what the definition makes of a word of this part
pub as_part : (s : Subcommand) (place : ArgumentPlace) (given : Given) (word : Word) (words : List Word) (at : Walk) (part : Part) → part_at place s word ≡ part
    → Reads s (asked_with place given part (asked_by s words)) at (word ∷ words) → Reads s (asked_by s (word ∷ words) place given) at (word ∷ words)
as_part s place given word words at part is reads = subst (λ p. Reads s (asked_with place given p (asked_by s words)) at (word ∷ words)) (sym is) reads
