-- When nothing can be asked by the values that a parse gives the options and operands of a question.
use Rattle.std.specs.Prelude.{◌≡◌, ◌≢◌, ◌⊎◌, ◌||◌, Bool, true, false, List, [], ◌∷◌, None, Some, codes, is_some, length, map, option_and_then, option_map}
use Rattle.clap.specs.Matches.{found_of, one_text}
use Rattle.clap.specs.declared.parser.matches.ArgMatches.{ArgMatches}
use Rattle.prt_addr.specs.Word.{Word, all_of}
use Rattle.prt_route.specs.Names.{protocol}
use Rattle.prt_args.specs.Analysis.{IsFlag, IsMisnamed, IsNoPlaceBy, IsServerBy, IsShownBy, NoneIsNamed, paths_of, value_of}
use Rattle.prt_args.specs.Places.{is_folder, names_place, number_within}
use Rattle.prt_args.specs.Reaching.{IsReachBy, names_nothing, span_of, values_of}
use Rattle.prt_args.specs.Services.{IsStatusFormBy}
use Rattle.prt_args.specs.Tasks.{text_of_flag}
use Rattle.prt_args.specs.declared.asking.QuestionWord.{QuestionWord}
use Rattle.prt_args.specs.declared.asking.QuestionWord.TheVariants as word
use Rattle.prt_args.specs.declared.asking.Verb.{Verb}
use Rattle.prt_args.specs.declared.asking.Verb.TheVariants.{Dump, Explain, Get, Replace}
use Rattle.prt_args.specs.declared.fault.BadQuestion.{BadQuestion}
use Rattle.prt_args.specs.declared.fault.BadQuestion.TheVariants.{NoMemory, Words}
use Rattle.prt_args.specs.declared.reach.Ends.TheVariants as ends
use Rattle.prt_args.specs.declared.reach.Reach.{Reach}
use Rattle.prt_args.specs.declared.server_place.ServerPlace.{ServerPlace}
use Rattle.prt_args.specs.declared.server_place.ServerPlace.TheVariants.{Address, Folder}

-- it holds, unless memory was refused
abbrev pub OrNoMemory : Type 0 → BadQuestion → Type 0
OrNoMemory holds (Words text) = holds
OrNoMemory holds NoMemory = Unit {0}

-- the flag is given, and it is left out
abbrev pub IsGiven : ArgMatches → Word → Type 0
IsGiven matches name = IsFlag matches name (λ given. given) true

abbrev pub IsLeftOut : ArgMatches → Word → Type 0
IsLeftOut matches name = IsFlag matches name (λ given. given) false

-- ---- the tables

-- `--db` or `--server` is given
abbrev pub SomeAreNamed : ArgMatches → Type 0
SomeAreNamed matches = (is_some (value_of matches (codes "db")) || is_some (value_of matches (codes "server"))) ≡ true

-- neither is given, both are, or the word of `--server` names no place
abbrev pub NamesNoTables : ArgMatches → Type 0
NamesNoTables matches = NoneIsNamed matches ⊎ IsMisnamed matches

-- `--server` isn't given, or its word names no place
abbrev pub IsNoServer : ArgMatches → Type 0
IsNoServer matches = option_map names_place (value_of matches (codes "server")) ≢ Some true

-- `--server` isn't given, or its word names no folder
abbrev pub IsNoFolder : ArgMatches → Type 0
IsNoFolder matches = option_map is_folder (value_of matches (codes "server")) ≢ Some true

-- ---- `get`, `show`, `explain` and `dump`

-- operands name the packet
abbrev pub needs_words : Verb → Bool
needs_words Get = true
needs_words Explain = true
needs_words _ = false

-- a dump is to replace, and to be in JSON or to call tables by names
abbrev pub IsNoReplacing : ArgMatches → Type 0
IsNoReplacing matches = IsGiven matches (codes "replace") × (IsGiven matches (codes "json") ⊎ IsGiven matches (codes "names"))

abbrev pub IsNoVerb : Verb → ArgMatches → Type 0
IsNoVerb Dump matches = IsNoReplacing matches
IsNoVerb Replace matches = IsNoReplacing matches
IsNoVerb _ matches = ⊥

-- no tables are named; those of an explanation may be made by a script, which the first operand names
abbrev pub HasNoTables : Verb → ArgMatches → (operands : List Word) → Type 0
HasNoTables Explain matches operands = IsMisnamed matches ⊎ (NoneIsNamed matches × (operands ≡ []))
HasNoTables _ matches operands = NamesNoTables matches

-- no operand names the packet: there is none, or only that of the script
abbrev pub HasNoAddress : Verb → ArgMatches → (operands : List Word) → Type 0
HasNoAddress Get matches operands = operands ≡ []
HasNoAddress Explain matches operands = (operands ≡ []) ⊎ (NoneIsNamed matches × ((script : Word) × (operands ≡ script ∷ [])))
HasNoAddress _ matches operands = ⊥

abbrev pub IsNoQuery : Verb → ArgMatches → Type 0
IsNoQuery verb matches =
    HasNoTables verb matches (values_of matches (codes "words"))
    ⊎ (HasNoAddress verb matches (values_of matches (codes "words"))
    ⊎ IsNoVerb verb matches)

-- ---- how far `diff` and `follow` reach

-- a value is none that its option may have, or all of it and a part is named, or neither
abbrev pub IsNoReach : ArgMatches → Type 0
IsNoReach matches =
    (all_of (map (span_of ends.Tables) (values_of matches (codes "table"))) ≡ None)
    ⊎ ((all_of (map protocol (values_of matches (codes "proto"))) ≡ None)
    ⊎ ((all_of (map (span_of ends.Priorities) (values_of matches (codes "priority"))) ≡ None)
    ⊎ ((reach : Reach) × IsReachBy matches reach × (reach.all ≢ names_nothing reach))))

-- ---- the files of `impact`, `assert` and `unused`

-- beside tables that are named there is not one operand; else there are not two, or both are standard input
abbrev pub HasNoFile : ArgMatches → Type 0
HasNoFile matches =
    (SomeAreNamed matches × (length (values_of matches (codes "words")) ≢ 1))
    ⊎ ((NoneIsNamed matches × (length (values_of matches (codes "words")) ≢ 2))
    ⊎ (NoneIsNamed matches × (paths_of matches ≡ None ∷ None ∷ [])))

-- a script is named beside tables
abbrev pub HasScriptToo : ArgMatches → Type 0
HasScriptToo matches = SomeAreNamed matches × (value_of matches (codes "file") ≢ None)

-- ---- where the changes of `apply` go

-- `--atomic` is given for a folder; for an address it names no place, or isn't given though the changes are to be made
abbrev pub IsNoAtomic : ArgMatches → (feed : ServerPlace) → (is_dry_run : Bool) → Type 0
IsNoAtomic matches (Folder path) is_dry_run = value_of matches (codes "atomic") ≢ None
IsNoAtomic matches (Address place) is_dry_run = IsNoPlaceBy matches (codes "atomic") ⊎ ((value_of matches (codes "atomic") ≡ None) × (is_dry_run ≡ false))

-- no tables are named, or no place for the changes
abbrev pub IsNoTarget : ArgMatches → (is_dry_run : Bool) → Type 0
IsNoTarget matches is_dry_run =
    NamesNoTables matches
    ⊎ (((value_of matches (codes "db") ≢ None) × (value_of matches (codes "atomic") ≢ None))
    ⊎ ((feed : ServerPlace) × IsServerBy matches feed × IsNoAtomic matches feed is_dry_run))

-- ---- any question

-- nothing can be asked by the matches of this subcommand
abbrev pub IsNoQuestion : QuestionWord → ArgMatches → Type 0
IsNoQuestion (word.Tables verb) matches = IsNoQuery verb matches
IsNoQuestion word.Diff matches = NamesNoTables matches ⊎ (IsNoReach matches ⊎ IsShownBy matches None)
IsNoQuestion word.Follow matches = IsNoServer matches ⊎ IsNoReach matches
IsNoQuestion word.Wait matches = IsNoServer matches ⊎ (option_and_then (number_within 0 1000000) (value_of matches (codes "seconds")) ≡ None)
IsNoQuestion word.Import matches = ⊥
IsNoQuestion word.Impact matches = IsMisnamed matches ⊎ HasNoFile matches
IsNoQuestion word.Assert matches = IsMisnamed matches ⊎ HasNoFile matches
IsNoQuestion word.Unused matches = IsMisnamed matches ⊎ HasScriptToo matches
IsNoQuestion word.Apply matches = (is_dry_run : Bool) × IsFlag matches (codes "dry-run") (λ given. given) is_dry_run × IsNoTarget matches is_dry_run
IsNoQuestion word.Status matches = IsNoFolder matches ⊎ IsStatusFormBy matches None

-- a parse gave the flag a text, given or not
abbrev pub HasText : ArgMatches → Word → Type 0
HasText matches name = (given : Bool) × (one_text (found_of matches) name ≡ Some (text_of_flag given))

-- it gave one to each flag of the subcommand by which something may not be asked
abbrev pub HasTexts : QuestionWord → ArgMatches → Type 0
HasTexts (word.Tables Dump) matches = HasText matches (codes "replace") × HasText matches (codes "json") × HasText matches (codes "names")
HasTexts (word.Tables Replace) matches = HasText matches (codes "replace") × HasText matches (codes "json") × HasText matches (codes "names")
HasTexts word.Diff matches = HasText matches (codes "all") × HasText matches (codes "check") × HasText matches (codes "impact")
HasTexts word.Follow matches = HasText matches (codes "all")
HasTexts word.Apply matches = HasText matches (codes "dry-run")
HasTexts word.Status matches = HasText matches (codes "json") × HasText matches (codes "metrics")
HasTexts _ matches = Unit {0}
