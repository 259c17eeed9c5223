-- Which tables the words of `apply` name, and in which form those of `status` want it.
use Rattle.std.specs.Prelude.{◌≡◌, Bool, true, false, Option, None, Some, codes}
use Rattle.clap.specs.Matches.{found_of, one_text}
use Rattle.clap.specs.declared.parser.matches.ArgMatches.{ArgMatches}
use Rattle.prt_args.specs.Analysis.{IsNamed, IsPlaceBy, value_of}
use Rattle.prt_args.specs.Tasks.{text_of_flag}
use Rattle.prt_args.specs.declared.asking.Source.TheVariants as sources
use Rattle.prt_args.specs.declared.server_place.ServerPlace.{ServerPlace}
use Rattle.prt_args.specs.declared.server_place.ServerPlace.TheVariants.{Address, Folder}
use Rattle.prt_args.specs.declared.service.StatusForm.{StatusForm}
use Rattle.prt_args.specs.declared.service.StatusForm.TheVariants.{Json, Lines, Metrics}
use Rattle.prt_args.specs.declared.service.Target.{Target}
use Rattle.prt_args.specs.declared.service.Target.TheVariants.{Database, Server}

-- by whether `--json` and `--metrics` are given; not both
abbrev pub status_form_of : Bool → Bool → Option StatusForm
status_form_of false false = Some Lines
status_form_of true false = Some Json
status_form_of false true = Some Metrics
status_form_of true true = None

abbrev pub IsStatusFormBy : ArgMatches → Option StatusForm → Type 0
IsStatusFormBy matches form = (json metrics : Bool) → one_text (found_of matches) (codes "json") ≡ Some (text_of_flag json) →
    one_text (found_of matches) (codes "metrics") ≡ Some (text_of_flag metrics) → form ≡ status_form_of json metrics

-- a folder that tells tables takes the changes too; beside an address, the place that `--atomic` names does, if any
abbrev pub IsAtomicBy : ArgMatches → (feed : ServerPlace) → (atomic : Option ServerPlace) → Type 0
IsAtomicBy matches (Folder path) atomic = (value_of matches (codes "atomic") ≡ None) × (atomic ≡ Some (Folder path))
IsAtomicBy matches (Address feed) None = value_of matches (codes "atomic") ≡ None
IsAtomicBy matches (Address feed) (Some (Address place)) = IsPlaceBy matches (codes "atomic") (Some place)
IsAtomicBy matches (Address feed) (Some (Folder path)) = ⊥

-- `--db` or `--server`, and not both, names the tables that are changed, and where the changes go
abbrev pub IsTarget : ArgMatches → Target → Type 0
IsTarget matches (Database path) = IsNamed matches (sources.Database path) × (value_of matches (codes "atomic") ≡ None)
IsTarget matches (Server ends) = IsNamed matches (sources.Server ends.feed) × IsAtomicBy matches ends.feed ends.atomic

-- some place takes the changes, unless they are only printed
abbrev pub TakesChanges : Target → (is_dry_run : Bool) → Type 0
TakesChanges (Database path) is_dry_run = Unit {0}
TakesChanges (Server ends) is_dry_run = ends.atomic ≡ None → is_dry_run ≡ true
