-- What the words of `serve` and of a question say: the values that a parse gives their options and operands are those of the task.
use Rattle.std.specs.Prelude.{◌≡◌, ◌≢◌, ◌⊎◌, ◌++◌, ℕ, Bool, true, false, List, [], ◌∷◌, Option, None, Some, bytes_eq, codes, if◌then◌else◌}
use Rattle.std.specs.Prelude.{option_and_then, option_map}
use Rattle.clap.specs.Words.{fault_of, found_of, rows_of, subcommand_of}
use Rattle.clap.specs.declared.parser.matches.ArgMatches.{ArgMatches}
use Rattle.prt_addr.specs.Word.{Word}
use Rattle.prt_refusals.specs.declared.refusal.Refusal.TheVariants.{NoMemory}
use Rattle.prt_args.specs.Analysis.{AreNamed, IsFlag, IsNamed, IsNoPlaceBy, IsPlaceBy, IsServerBy, IsSearched, IsShownBy, NoneIsNamed, exactness_of}
use Rattle.prt_args.specs.Analysis.{form_of, on_refusal_of, value_of}
use Rattle.prt_args.specs.Asking.{name_of_asked, name_of_word}
use Rattle.prt_args.specs.CommandLine.{command_line}
use Rattle.prt_args.specs.Invocation.{file_of, invocation, serve}
use Rattle.prt_args.specs.NoQuestion.{IsLeftOut, IsNoQuestion, needs_words}
use Rattle.prt_args.specs.Places.{number_within}
use Rattle.prt_args.specs.Reaching.{IsReachBy, values_of}
use Rattle.prt_args.specs.Services.{IsStatusFormBy, IsTarget, TakesChanges}
use Rattle.prt_args.specs.declared.asking.Asked.{Asked}
use Rattle.prt_args.specs.declared.asking.Asked.TheVariants as asked
use Rattle.prt_args.specs.declared.asking.QueryArgs.{QueryArgs}
use Rattle.prt_args.specs.declared.asking.Labels.{Labels}
use Rattle.prt_args.specs.declared.asking.Labels.TheVariants as labels
use Rattle.prt_args.specs.declared.asking.QuestionWord.{QuestionWord}
use Rattle.prt_args.specs.declared.asking.Source.{Source}
use Rattle.prt_args.specs.declared.asking.Source.TheVariants.{Script}
use Rattle.prt_args.specs.declared.asking.Verb.{Verb}
use Rattle.prt_args.specs.declared.asking.Verb.TheVariants as verb
use Rattle.prt_args.specs.declared.fault.Fault.{Fault}
use Rattle.prt_args.specs.declared.fault.Fault.TheVariants.{Opening}
use Rattle.prt_args.specs.declared.server_place.ServerPlace.TheVariants.{Folder}
use Rattle.prt_args.specs.declared.serving.ServeArgs.{ServeArgs}
use Rattle.prt_args.specs.declared.task.Task.{Task}
use Rattle.prt_args.specs.declared.task.Task.TheVariants as task

-- ---- the line that asks tables

-- each word comes after a space (32)
abbrev pub spaced : List Word → List ℕ
spaced [] = []
spaced (word ∷ words) = 32 ∷ (word ++ spaced words)

-- `rule` or `route` may be left out before what is listed
abbrev pub listing_line : List Word → List ℕ
listing_line [] = codes "route show"
listing_line (object ∷ rest) =
    if bytes_eq object (codes "rule") then codes "rule show" ++ spaced rest
    else (if bytes_eq object (codes "route") then codes "route show" ++ spaced rest
    else codes "route show" ++ spaced (object ∷ rest))

abbrev pub line_of : Verb → List Word → List ℕ
line_of verb.Show words = listing_line words
line_of _ words = codes "route get" ++ spaced words

-- the tables, and the words that ask: the first operand of `explain` is the script if neither `--db` nor `--server` names tables
abbrev pub IsSourceBy : ArgMatches → (queried : Verb) → (operands : List Word) → Source → (words : List Word) → Type 0
IsSourceBy matches queried operands (Script script) words =
    (queried ≡ verb.Explain) × NoneIsNamed matches × (first : Word) × (operands ≡ first ∷ words)
    × (option_map (λ path. path.now) script ≡ file_of first)
IsSourceBy matches queried operands source words = IsNamed matches source × (words ≡ operands)

abbrev pub labels_of : Bool → Labels
labels_of true = labels.Names
labels_of false = labels.Numbers

-- `--replace` makes a dump one that replaces, neither in JSON nor with names
abbrev pub dump_of : Bool → Verb
dump_of true = verb.Replace
dump_of false = verb.Dump

abbrev pub IsVerbBy : ArgMatches → Verb → Type 0
IsVerbBy matches verb.Dump = IsFlag matches (codes "replace") dump_of verb.Dump
IsVerbBy matches verb.Replace = IsFlag matches (codes "replace") dump_of verb.Replace × IsLeftOut matches (codes "json") × IsLeftOut matches (codes "names")
IsVerbBy matches _ = Unit {0}

abbrev pub IsAskingBy : ArgMatches → QueryArgs → Type 0
IsAskingBy matches asking =
    ((words : List Word)
    × IsSourceBy matches asking.verb (values_of matches (codes "words")) asking.source words
    × (asking.line.items ≡ line_of asking.verb words)
    × (needs_words asking.verb ≡ true → words ≢ []))
    × IsVerbBy matches asking.verb
    × IsFlag matches (codes "json") form_of asking.form
    × IsFlag matches (codes "names") labels_of asking.labels

-- ---- any question

-- the file that an operand names; standard input if it is `-` or missing
abbrev pub IsFileBy : ArgMatches → Option Word → Type 0
IsFileBy matches file = file ≡ option_and_then file_of (value_of matches (codes "file"))

abbrev pub IsAskedBy : ArgMatches → Asked → Type 0
IsAskedBy matches (asked.Tables asking) = IsAskingBy matches asking
IsAskedBy matches (asked.Diff diffing) =
    IsNamed matches diffing.source × IsReachBy matches diffing.reach × IsFileBy matches (option_map (λ path. path.now) diffing.file)
    × IsShownBy matches (Some diffing.shown)
IsAskedBy matches (asked.Follow following) =
    IsServerBy matches following.server × IsReachBy matches following.reach
    × IsFileBy matches (option_map (λ path. path.now) following.file) × IsFlag matches (codes "once") (λ given. given) following.is_once
IsAskedBy matches (asked.Wait waiting) =
    IsServerBy matches waiting.server × (option_and_then (number_within 0 1000000) (value_of matches (codes "seconds")) ≡ Some waiting.seconds)
IsAskedBy matches (asked.Import importing) =
    IsFileBy matches (option_map (λ path. path.now) importing.file) × (option_map (λ path. path.now) importing.database ≡ value_of matches (codes "db"))
IsAskedBy matches (asked.Impact rehearsing) =
    AreNamed matches rehearsing.source (option_map (λ path. path.now) rehearsing.file)
    × IsFlag matches (codes "exact") exactness_of rehearsing.exactness
    × IsFlag matches (codes "json") form_of rehearsing.form
    × IsFlag matches (codes "force") on_refusal_of rehearsing.on_refusal
IsAskedBy matches (asked.Assert asserting) =
    AreNamed matches asserting.source (option_map (λ path. path.now) asserting.file) × IsFlag matches (codes "explain") (λ given. given) asserting.is_explained
IsAskedBy matches (asked.Unused source) = IsSearched matches source
IsAskedBy matches (asked.Apply applying) =
    IsTarget matches applying.target
    × TakesChanges applying.target applying.is_dry_run
    × IsFileBy matches (option_map (λ path. path.now) applying.file)
    × IsFlag matches (codes "dry-run") (λ given. given) applying.is_dry_run
    × IsFlag matches (codes "impact") (λ given. given) applying.has_impact
IsAskedBy matches (asked.Status inspecting) = IsServerBy matches (Folder inspecting.folder) × IsStatusFormBy matches (Some inspecting.form)

-- what is served, where, how much of it, and whether it is logged
abbrev pub IsServedBy : ArgMatches → ServeArgs → Type 0
IsServedBy matches serving =
    (value_of matches (codes "db") ≡ Some serving.database.now)
    × IsPlaceBy matches (codes "listen") serving.listen
    × IsPlaceBy matches (codes "atomic") serving.atomic
    × IsPlaceBy matches (codes "feed") serving.feed
    × (option_map (λ path. path.now) serving.sockets ≡ value_of matches (codes "sockets"))
    × (option_and_then (number_within 1 64) (value_of matches (codes "workers")) ≡ Some serving.workers)
    × (option_and_then (number_within 0 1000000) (value_of matches (codes "sessions")) ≡ Some serving.sessions)
    × (option_and_then (number_within 0 1000000) (value_of matches (codes "idle")) ≡ Some serving.idle)
    × IsFlag matches (codes "log") (λ given. given) serving.is_logged

-- nothing can be served: no database is named, no place for sessions, or a value is none that its option may have
abbrev pub IsNoService : ArgMatches → Type 0
IsNoService matches =
    (value_of matches (codes "db") ≡ None)
    ⊎ (IsNoPlaceBy matches (codes "listen")
    ⊎ (IsNoPlaceBy matches (codes "atomic")
    ⊎ (IsNoPlaceBy matches (codes "feed")
    ⊎ (((value_of matches (codes "listen") ≡ None) × (value_of matches (codes "sockets") ≡ None))
    ⊎ ((option_and_then (number_within 1 64) (value_of matches (codes "workers")) ≡ None)
    ⊎ ((option_and_then (number_within 0 1000000) (value_of matches (codes "sessions")) ≡ None)
    ⊎ (option_and_then (number_within 0 1000000) (value_of matches (codes "idle")) ≡ None)))))))

-- ---- all words

-- what a parse of the words finds: a subcommand of this name, with these values
abbrev pub IsFoundIn : List Word → Word → ArgMatches → Type 0
IsFoundIn words name matches = subcommand_of command_line (codes "prt" ∷ words) ≡ Some (name, rows_of (found_of matches))

-- the question is the one that the words ask
abbrev pub IsQuestionIn : List Word → Asked → Type 0
IsQuestionIn words asked = (matches : ArgMatches) × IsFoundIn words (name_of_asked asked) matches × IsAskedBy matches asked

-- the sessions are those that the words ask to be served
abbrev pub IsServiceIn : List Word → ServeArgs → Type 0
IsServiceIn words serving = (matches : ArgMatches) × IsFoundIn words (codes "serve") matches × IsServedBy matches serving

-- `serve` and a question are read of the words
abbrev pub IsReadFrom : List Word → Task → Type 0
IsReadFrom words (task.Serve serving) = IsServiceIn words serving
IsReadFrom words (task.Ask asked) = IsQuestionIn words asked
IsReadFrom words _ = Unit {0}

-- nothing can be served by what a parse finds of the words
abbrev pub ServesNothing : List Word → Type 0
ServesNothing words = (matches : ArgMatches) × IsFoundIn words (codes "serve") matches × IsNoService matches

-- nothing can be asked by what a parse finds of them
abbrev pub AsksNothing : List Word → Type 0
AsksNothing words = (word : QuestionWord) × (matches : ArgMatches) × IsFoundIn words (name_of_word word) matches × IsNoQuestion word matches

-- if a parse takes the words of `serve`, they are refused only if nothing can be served by them, or for want of memory
abbrev pub IsServiceRefused : List Word → Fault → Type 0
IsServiceRefused words fault =
    fault_of command_line (codes "prt" ∷ words) ≡ [] → invocation words ≡ serve words
    → (fault ≡ Opening NoMemory) ⊎ ((matches : ArgMatches) × IsFoundIn words (codes "serve") matches × IsNoService matches)
