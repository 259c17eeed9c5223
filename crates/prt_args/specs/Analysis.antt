-- Which tables and which file the words of `impact`, `assert` and `unused` name, and what the flags of these and of `diff` say.
use Rattle.std.specs.Prelude.{◌≡◌, ◌⊎◌, ◌&&◌, ◌||◌, Bool, true, false, Option, None, Some, List, [], ◌∷◌, codes, is_some, map, option_and_then, option_map}
use Rattle.std.specs.declared.net.socket_addr.SocketAddrV4.{SocketAddrV4}
use Rattle.clap.specs.Matches.{first_value, found_of, one_text}
use Rattle.clap.specs.declared.parser.matches.ArgMatches.{ArgMatches}
use Rattle.prt_addr.specs.Word.{Word}
use Rattle.prt_refusals.specs.declared.on_refusal.OnRefusal.{OnRefusal}
use Rattle.prt_refusals.specs.declared.on_refusal.OnRefusal.TheVariants.{GoOn, Stop}
use Rattle.prt_args.specs.Places.{IsPlace, address_and_port, ends_of, names_place}
use Rattle.prt_args.specs.Tasks.{text_of_flag}
use Rattle.prt_args.specs.Invocation.{file_of}
use Rattle.prt_args.specs.Reaching.{values_of}
use Rattle.prt_args.specs.declared.analysis.Exactness.{Exactness}
use Rattle.prt_args.specs.declared.analysis.Exactness.TheVariants.{Outcomes, Verdicts}
use Rattle.prt_args.specs.declared.asking.Form.{Form}
use Rattle.prt_args.specs.declared.asking.Form.TheVariants.{Json, Lines}
use Rattle.prt_args.specs.declared.asking.Shown.{Shown}
use Rattle.prt_args.specs.declared.asking.Shown.TheVariants as shown
use Rattle.prt_args.specs.declared.asking.Source.{Source}
use Rattle.prt_args.specs.declared.asking.Source.TheVariants.{Database, Script, Server}
use Rattle.prt_args.specs.declared.server_place.ServerPlace.{ServerPlace}

-- the value that the words have for an option, or for an operand
abbrev pub value_of : ArgMatches → Word → Option Word
value_of matches name = first_value (found_of matches) name

-- the server is at the place that `--server` names
abbrev pub IsServerBy : ArgMatches → ServerPlace → Type 0
IsServerBy matches place = (word : Word) × (value_of matches (codes "server") ≡ Some word) × IsPlace word place

-- the place is the one that the option's value denotes; none if it isn't given
abbrev pub IsPlaceBy : ArgMatches → Word → Option SocketAddrV4 → Type 0
IsPlaceBy matches name (Some place) = option_and_then address_and_port (value_of matches name) ≡ Some (ends_of place)
IsPlaceBy matches name None = value_of matches name ≡ None

-- the option's value denotes no place
abbrev pub IsNoPlaceBy : ArgMatches → Word → Type 0
IsNoPlaceBy matches name = option_map address_and_port (value_of matches name) ≡ Some None

-- `--db` or `--server`, and not both, names the tables
abbrev pub IsNamed : ArgMatches → Source → Type 0
IsNamed matches (Database path) = (value_of matches (codes "db") ≡ Some path.now) × (value_of matches (codes "server") ≡ None)
IsNamed matches (Server place) = (value_of matches (codes "db") ≡ None) × IsServerBy matches place
IsNamed matches (Script script) = ⊥

-- both are given, or the word of `--server` names no place
abbrev pub IsMisnamed : ArgMatches → Type 0
IsMisnamed matches = ((is_some (value_of matches (codes "db")) && is_some (value_of matches (codes "server"))) ≡ true)
    ⊎ (option_map names_place (value_of matches (codes "server")) ≡ Some false)

abbrev pub NoneIsNamed : ArgMatches → Type 0
NoneIsNamed matches = (value_of matches (codes "db") ≡ None) × (value_of matches (codes "server") ≡ None)

-- the paths of the operands; none for `-`, which is standard input
abbrev pub paths_of : ArgMatches → List (Option Word)
paths_of matches = map file_of (values_of matches (codes "words"))

-- the tables are those of `--db` or `--server`, and the operand is the file; or a script makes them, and the file comes after it. Standard input is not both.
abbrev pub AreNamed : ArgMatches → Source → Option Word → Type 0
AreNamed matches (Script script) file =
    NoneIsNamed matches
    × (paths_of matches ≡ option_map (λ path. path.now) script ∷ file ∷ [])
    × ((is_some script || is_some file) ≡ true)
AreNamed matches source file = IsNamed matches source × (paths_of matches ≡ file ∷ [])

-- the tables are those of `--db` or `--server`, or a script makes them
abbrev pub IsSearched : ArgMatches → Source → Type 0
IsSearched matches (Script script) = NoneIsNamed matches × (option_map (λ path. path.now) script ≡ option_and_then file_of (value_of matches (codes "file")))
IsSearched matches source = IsNamed matches source × (value_of matches (codes "file") ≡ None)

-- what a flag says, given or not
abbrev pub IsFlag : {X : Type 0} → ArgMatches → Word → (Bool → X) → X → Type 0
IsFlag matches name says it = (given : Bool) → one_text (found_of matches) name ≡ Some (text_of_flag given) → it ≡ says given

abbrev pub exactness_of : Bool → Exactness
exactness_of true = Verdicts
exactness_of false = Outcomes

abbrev pub form_of : Bool → Form
form_of true = Json
form_of false = Lines

abbrev pub on_refusal_of : Bool → OnRefusal
on_refusal_of true = GoOn
on_refusal_of false = Stop

-- what is shown of what differs, by whether `--check` and `--impact` are given; not both
abbrev pub shown_of : Bool → Bool → Option Shown
shown_of false false = Some shown.Lines
shown_of false true = Some shown.Impact
shown_of true false = Some shown.Status
shown_of true true = None

abbrev pub IsShownBy : ArgMatches → Option Shown → Type 0
IsShownBy matches shown = (tested rehearsed : Bool) → one_text (found_of matches) (codes "check") ≡ Some (text_of_flag tested) →
    one_text (found_of matches) (codes "impact") ≡ Some (text_of_flag rehearsed) → shown ≡ shown_of tested rehearsed
