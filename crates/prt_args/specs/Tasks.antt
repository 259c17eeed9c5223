-- What a parse finds of the words of a subcommand, and which task that is.
use Rattle.std.specs.Prelude.{◌≡◌, ◌≢◌, ◌⊎◌, ◌≤◌, Bool, true, false, List, Option, Some, None, codes, option_and_then, option_map, slice_get}
use Rattle.std.specs.Option.{option_map_or}
use Rattle.clap.specs.Words.{Row, Text, first_of, one_of}
use Rattle.prt_args.specs.Asking.{name_of_asked}
use Rattle.prt_args.specs.Invocation.{Invocation, ask, batch, check, file_of, is_question, mode_of, replay, serve, submit}
use Rattle.prt_args.specs.Places.{IsPlace, names_place}
use Rattle.prt_args.specs.Reaching.{IsAsked}
use Rattle.prt_args.specs.declared.serving.ServeArgs.{ServeArgs}
use Rattle.prt_args.specs.declared.task.Task.{Task}
use Rattle.prt_args.specs.declared.task.Task.TheVariants.{Ask, Batch, Check, Replay, Serve, Submit}
use Rattle.prt_args.specs.declared.task.Mode.{Mode}
use Rattle.prt_args.specs.declared.task.Mode.TheVariants.{Together}

-- the name of the subcommand, the values of FILE, `--db` and `--server`, and the text of a flag
abbrev pub subcommand_name : Option (Text × List Row) → Option Text
subcommand_name = option_map (λ p. p.0)

abbrev pub named_file : Option (Text × List Row) → Option Text
named_file = option_and_then (λ p. first_of (codes "file") p.1)

abbrev pub named_database : Option (Text × List Row) → Option Text
named_database = option_and_then (λ p. first_of (codes "db") p.1)

abbrev pub named_server : Option (Text × List Row) → Option Text
named_server = option_and_then (λ p. first_of (codes "server") p.1)

abbrev pub flag_text : Text → Option (Text × List Row) → Option Text
flag_text name = option_and_then (λ p. one_of name p.1)

abbrev pub text_of_flag : Bool → Text
text_of_flag true = codes "true"
text_of_flag false = codes "false"

-- how a script's lines are executed by what a parse has for `--force` and `--atomic`; no way for both
abbrev pub IsModeBy : (force atomic : Option Text) → Option Mode → Type 0
IsModeBy force atomic mode = (forced together : Bool) → force ≡ Some (text_of_flag forced) → atomic ≡ Some (text_of_flag together) →
    mode ≡ mode_of forced together

-- how those of the script that a parse found are executed
abbrev pub IsModeOf : Option (Text × List Row) → Option Mode → Type 0
IsModeOf found = IsModeBy (flag_text (codes "force") found) (flag_text (codes "atomic") found)

-- no server at such a place runs such a script: its lines aren't executed together, a database is named too, or the word names no place
abbrev pub IsUnfit : Mode → (database : Option Text) → (server : Text) → Type 0
IsUnfit mode database server = (mode ≢ Together) ⊎ ((database ≢ None) ⊎ (names_place server ≡ false))

-- the parse found a script whose lines can't be executed as its words ask, or not by the server that they name
abbrev pub IsConflict : Option (Text × List Row) → Type 0
IsConflict found =
    (subcommand_name found ≢ Some (codes "check"))
    × (subcommand_name found ≢ Some (codes "replay"))
    × (IsModeOf found None ⊎ ((mode : Mode) × (server : Text) × IsModeOf found (Some mode) × (named_server found ≡ Some server)
    × IsUnfit mode (named_database found) server))

-- the subcommand of this name asks a question
abbrev pub asks_question : Option Text → Bool
asks_question name = option_map_or is_question name false

-- the task is that of the subcommand that a parse found, other than `serve` and a question
abbrev pub IsTaskOf : Option (Text × List Row) → Task → Type 0
IsTaskOf found (Batch script) =
    (subcommand_name found ≢ Some (codes "check"))
    × (subcommand_name found ≢ Some (codes "replay"))
    × (option_map (λ path. path.now) script.file ≡ option_and_then file_of (named_file found))
    × (option_map (λ path. path.now) script.database ≡ named_database found)
    × IsModeOf found (Some script.mode)
    × (flag_text (codes "verbose") found ≡ Some (codes "true") → script.is_verbose ≡ true)
    × (flag_text (codes "verbose") found ≡ Some (codes "false") → script.is_verbose ≡ false)
    × (named_server found ≡ None)
IsTaskOf found (Submit script) =
    (subcommand_name found ≢ Some (codes "check"))
    × (subcommand_name found ≢ Some (codes "replay"))
    × (option_map (λ path. path.now) script.file ≡ option_and_then file_of (named_file found))
    × (named_database found ≡ None)
    × IsModeOf found (Some Together)
    × (flag_text (codes "verbose") found ≡ Some (codes "true") → script.is_verbose ≡ true)
    × (flag_text (codes "verbose") found ≡ Some (codes "false") → script.is_verbose ≡ false)
    × ((server : Text) × (named_server found ≡ Some server) × IsPlace server script.server)
IsTaskOf found (Check file) =
    (subcommand_name found ≡ Some (codes "check"))
    × (option_map (λ path. path.now) file ≡ option_and_then file_of (named_file found))
IsTaskOf found (Replay file) =
    (subcommand_name found ≡ Some (codes "replay"))
    × (option_map (λ path. path.now) file ≡ option_and_then file_of (named_file found))
IsTaskOf found (Serve serving) = ⊥
IsTaskOf found (Ask asked) = ⊥

-- the task is what the words ask for
abbrev pub IsAskedFor : List Text → Invocation → Task → Type 0
IsAskedFor words asked (Batch script) = asked ≡ batch (record {
  mode = script.mode;
  verbose = script.is_verbose;
  database = option_map (λ path. path.now) script.database;
  file = option_map (λ path. path.now) script.file;
})
IsAskedFor words asked (Submit script) =
    (server : Text)
    × (asked ≡ submit (record { verbose = script.is_verbose; server = server; file = option_map (λ path. path.now) script.file }))
    × IsPlace server script.server
IsAskedFor words asked (Check file) = asked ≡ check (option_map (λ path. path.now) file)
IsAskedFor words asked (Replay file) = asked ≡ replay (option_map (λ path. path.now) file)
IsAskedFor words asked (Serve serving) = asked ≡ serve words
IsAskedFor words asked (Ask question) = asked ≡ ask words

-- a question is that of the first word
abbrev pub IsQuestionOf : List Text → Task → Type 0
IsQuestionOf words (Ask asked) = slice_get words 0 ≡ Some (name_of_asked asked)
IsQuestionOf words task = Unit {0}

-- 1 to 64 workers, at most 1,000,000 sessions, and at most as many seconds without a byte
abbrev pub IsServing : ServeArgs → Type 0
IsServing serving = (1 ≤ serving.workers) × (serving.workers ≤ 64) × (serving.sessions ≤ 1000000) × (serving.idle ≤ 1000000)

-- what is to be served or queried is within these limits
abbrev pub IsWithinLimits : Task → Type 0
IsWithinLimits (Serve serving) = IsServing serving
IsWithinLimits (Ask asked) = IsAsked asked
IsWithinLimits task = Unit {0}
