-- What the words after the program's name ask for: `batch [--force | --atomic] [--db PATH] [--verbose] [FILE]`, `batch --atomic
-- --server WHERE [--verbose] [FILE]`, `check [FILE]`, `replay [FILE]`, `serve` and `dump` with their options, the version, or
-- help.
-- Options and operands are distinguished as POSIX.1 does (Base Definitions, section 12.2, guidelines 4, 10 and 13), but options
-- may follow operands, and `--db=PATH` is `--db PATH`.
use Rattle.std.specs.Prelude.{ℕ, ◌==◌, ◌||◌, Bool, true, false, List, [], ◌∷◌, Option, Some, None, is_some, if◌then◌else◌, map, drop, codes}
use Rattle.std.specs.Prelude.{option_and_then, slice_get, chars, bytes_eq, String, string_bytes}
use Rattle.std.specs.List.{before_first, after_first, list_any}
use Rattle.std.specs.Option.{option_map_or}
use Rattle.prt_addr.specs.Word.{Word}
use Rattle.prt_refusals.specs.declared.on_refusal.OnRefusal.TheVariants.{Stop, GoOn}
use Rattle.prt_args.specs.declared.task.Mode.{Mode}
use Rattle.prt_args.specs.declared.task.Mode.TheVariants.{InTurn, Together}

-- A script: how its lines are executed, and whether it is reported to a person.
pub record Script : Type 0 where
  pub mode : Mode
  pub verbose : Bool
  -- the path of its database; none for one in memory
  pub database : Option Word
  -- the path of its file; none for the input
  pub file : Option Word

-- A script whose commands a server is to make together, and whether it is reported to a person.
pub record Submission : Type 0 where
  pub verbose : Bool
  -- where the server is
  pub server : Word
  -- the path of its file; none for the input
  pub file : Option Word

pub data Invocation : Type 0 where
  -- a session over a script
  batch : Script → Invocation
  -- a script that goes to a server
  submit : Submission → Invocation
  -- a check of the file of this path, or of the input
  check : Option Word → Invocation
  -- a replay of the file of this path, or of the input
  replay : Option Word → Invocation
  -- the word `serve` and those after it: sessions over TCP, help on that, or bad words
  serve : List Word → Invocation
  -- the word of a question and those after it: what tables say, what differs from them or is imported, whether a server answers,
  -- what an analysis finds, what a server does, or what tables are made, help on that, or bad words
  ask : List Word → Invocation
  help : Invocation
  -- the version, and the formats of database file that are read
  version : Invocation
  -- the word `help`, and what help is asked on, if there is such a thing
  help_on : Invocation
  usage_error : Invocation

-- ---- one word

-- the character after a hyphen (45): `h` (104) of `-h`, another hyphen of `--force`, none of `-`
abbrev pub option_letter : Word → Option ℕ
option_letter [] = None
option_letter (byte ∷ rest) = if byte == 45 then slice_get (chars rest) 0 else None

-- a hyphen and more: `-` alone is an operand
abbrev pub is_option : Word → Bool
is_option word = is_some (option_letter word)

-- `--`, which ends the options
abbrev pub is_delimiter : Word → Bool
is_delimiter word = bytes_eq word (codes "--")

-- `--help`, or `-h` and what begins so
abbrev pub is_help : Word → Bool
is_help word = bytes_eq word (codes "--help") || option_map_or (λ letter. letter == 104) (option_letter word) false

-- some word asks for help
abbrev pub has_help : List Word → Bool
has_help = list_any is_help

-- `--version`, or `-V` and what begins so
abbrev pub is_version : Word → Bool
is_version word = bytes_eq word (codes "--version") || option_map_or (λ letter. letter == 86) (option_letter word) false

-- `-` is the input
abbrev pub file_of : Word → Option Word
file_of word = if bytes_eq word (codes "-") then None else Some word

-- ---- the arguments of a subcommand

pub data Subcommand : Type 0 where
  Batch : Subcommand
  Check : Subcommand
  Replay : Subcommand

pub data Argument : Type 0 where
  -- `--force`
  Force : Argument
  -- `--atomic`
  Atomic : Argument
  -- `--verbose`
  Verbose : Argument
  -- `--db PATH`
  Database : Word → Argument
  -- `--server WHERE`
  Server : Word → Argument
  -- FILE
  File : Word → Argument

-- What its words have given so far.
pub record Given : Type 0 where
  pub forced : Bool
  pub atomic : Bool
  pub verbose : Bool
  pub database : Option Word
  pub server : Option Word
  pub operand : Option Word

abbrev pub nothing_given : Given
nothing_given = record { forced = false; atomic = false; verbose = false; database = None; server = None; operand = None }

-- such an argument was given
abbrev pub has_given : Given → Argument → Bool
has_given given Force = given.forced
has_given given Atomic = given.atomic
has_given given Verbose = given.verbose
has_given given (Database path) = is_some given.database
has_given given (Server place) = is_some given.server
has_given given (File word) = is_some given.operand

abbrev pub with_given : Given → Argument → Given
with_given given Force = record given { forced = true }
with_given given Atomic = record given { atomic = true }
with_given given Verbose = record given { verbose = true }
with_given given (Database path) = record given { database = Some path }
with_given given (Server place) = record given { server = Some place }
with_given given (File word) = record given { operand = Some word }

-- how the lines are executed, by whether `--force` and `--atomic` are given; no way for both
abbrev pub mode_of : Bool → Bool → Option Mode
mode_of false false = Some (InTurn Stop)
mode_of true false = Some (InTurn GoOn)
mode_of false true = Some Together
mode_of true true = None

abbrev pub asked_in : Option Mode → Given → Invocation
asked_in None given = usage_error
asked_in (Some mode) given = batch (record { mode = mode; verbose = given.verbose; database = given.database; file = option_and_then file_of given.operand })

-- with a server: it makes commands together, and there is no other database
abbrev pub submitted : Word → Option Mode → Option Word → Given → Invocation
submitted server None database given = usage_error
submitted server (Some (InTurn on_refusal)) database given = usage_error
submitted server (Some Together) (Some path) given = usage_error
submitted server (Some Together) None given = submit (record { verbose = given.verbose; server = server; file = option_and_then file_of given.operand })

abbrev pub asked_of : Option Word → Option Mode → Option Word → Given → Invocation
asked_of None mode database given = asked_in mode given
asked_of (Some server) mode database given = submitted server mode database given

-- what the subcommand asks for with this
abbrev pub asked : Subcommand → Given → Invocation
asked Batch given = asked_of given.server (mode_of given.forced given.atomic) given.database given
asked Check given = check (option_and_then file_of given.operand)
asked Replay given = replay (option_and_then file_of given.operand)

-- ---- what a word of a subcommand is

-- an option whose value may be the next word
pub data Valued : Type 0 where
  DatabaseOption : Valued
  ServerOption : Valued

abbrev pub option_word : Valued → Word
option_word DatabaseOption = codes "--db"
option_word ServerOption = codes "--server"

abbrev pub argument_of : Valued → Word → Argument
argument_of DatabaseOption word = Database word
argument_of ServerOption word = Server word

pub data Part : Type 0 where
  delimiter : Part
  asks_help : Part
  argument : Argument → Part
  -- the value of this option is the next word
  awaits : Valued → Part
  -- an option that there is not
  unknown : Part

-- `=` (61)
abbrev pub is_equals : ℕ → Bool
is_equals byte = byte == 61

-- an option other than help; `--db=` and `--server=` pass the value that follows at once
abbrev pub option_part : Subcommand → Word → Part
option_part Check word = unknown
option_part Replay word = unknown
option_part Batch word =
    if bytes_eq word (codes "--force") then argument Force
    else (if bytes_eq word (codes "--atomic") then argument Atomic
    else (if bytes_eq word (codes "--verbose") then argument Verbose
    else (if bytes_eq word (option_word DatabaseOption) then awaits DatabaseOption
    else (if bytes_eq word (option_word ServerOption) then awaits ServerOption
    else (if bytes_eq (before_first is_equals word) (option_word DatabaseOption) then argument (Database (after_first is_equals word))
    else (if bytes_eq (before_first is_equals word) (option_word ServerOption) then argument (Server (after_first is_equals word))
    else unknown))))))

abbrev pub part_of : Subcommand → Word → Part
part_of subcommand word =
    if is_delimiter word then delimiter
    else (if is_help word then asks_help
    else (if is_option word then option_part subcommand word
    else argument (File word)))

-- Where a word is.
pub data ArgumentPlace : Type 0 where
  anywhere : ArgumentPlace
  -- after such an option
  at_value : Valued → ArgumentPlace
  -- after `--`
  at_operands : ArgumentPlace

-- a value that begins with a hyphen is given by `--db=PATH`, except for `-` alone, which is a file of that name
abbrev pub part_at : ArgumentPlace → Subcommand → Word → Part
part_at anywhere subcommand word = part_of subcommand word
part_at (at_value option) subcommand word = if is_option word then unknown else argument (argument_of option word)
part_at at_operands subcommand word = argument (File word)

-- ---- the words of a subcommand, from left to right

abbrev pub place_after : ArgumentPlace → ArgumentPlace
place_after at_operands = at_operands
place_after _ = anywhere

-- each argument is given once; `more` says what the words after this one ask for
abbrev pub asked_with : ArgumentPlace → Given → Part → (ArgumentPlace → Given → Invocation) → Invocation
asked_with place given delimiter more = more at_operands given
asked_with place given asks_help more = help
asked_with place given (argument a) more = if has_given given a then usage_error else more (place_after place) (with_given given a)
asked_with place given (awaits option) more = more (at_value option) given
asked_with place given unknown more = usage_error

abbrev pub asked_at_end : Subcommand → ArgumentPlace → Given → Invocation
asked_at_end subcommand (at_value option) given = usage_error
asked_at_end subcommand _ given = asked subcommand given

-- help if an option asks for it and the words before it are right
abbrev pub asked_by : Subcommand → List Word → ArgumentPlace → Given → Invocation
asked_by subcommand [] place given = asked_at_end subcommand place given
asked_by subcommand (word ∷ words) place given = asked_with place given (part_at place subcommand word) (asked_by subcommand words)

-- ---- all words

-- the words after the program's name
abbrev pub arguments : {Z : Type 0} → List (String Z) → List Word
arguments words = drop 1 (map string_bytes words)

-- `impact`, `assert` and `unused`
abbrev pub is_analysis : Word → Bool
is_analysis word = bytes_eq word (codes "impact") || (bytes_eq word (codes "assert") || bytes_eq word (codes "unused"))

-- `apply` and `status`
abbrev pub is_service : Word → Bool
is_service word = bytes_eq word (codes "apply") || bytes_eq word (codes "status")

-- `get`, `show`, `explain`, `dump`, `diff`, `follow`, `wait`, `import` and these
abbrev pub is_question : Word → Bool
is_question word = bytes_eq word (codes "get")
    || (bytes_eq word (codes "show")
    || (bytes_eq word (codes "explain")
    || (bytes_eq word (codes "dump")
    || (bytes_eq word (codes "diff")
    || (bytes_eq word (codes "follow")
    || (bytes_eq word (codes "wait") || (bytes_eq word (codes "import") || (is_analysis word || is_service word))))))))

-- what they ask for
abbrev pub invocation : List Word → Invocation
invocation [] = usage_error
invocation (word ∷ words) =
    if bytes_eq word (codes "batch") then asked_by Batch words anywhere nothing_given
    else (if bytes_eq word (codes "check") then asked_by Check words anywhere nothing_given
    else (if bytes_eq word (codes "replay") then asked_by Replay words anywhere nothing_given
    else (if bytes_eq word (codes "serve") then serve (word ∷ words)
    else (if is_question word then ask (word ∷ words)
    else (if bytes_eq word (codes "help") then help_on
    else (if is_help word then help
    else (if is_version word then version else usage_error)))))))
