-- Tables that are made what a script makes of a new database.
use Rattle.std.specs.Prelude.{◌≡◌, ◌⊎◌, ◌++◌, ℕ, Bool, true, false, List, [], Option, Some, codes, decimal, length}
use Rattle.std.specs.Io.KnownBytes.{Appends}
use Rattle.sqlite.specs.Held.{Held, state}
use Rattle.sqlite.specs.State.{HasCleanDisk}
use Rattle.sqlite.specs.Store.{Ghosts}
use Rattle.prt_command.specs.declared.request.Command.{Command}
use Rattle.prt_diff.specs.Apply.Brings.{AreAlike}
use Rattle.prt_diff.specs.Apply.Plan.{plan}
use Rattle.prt_diff.specs.Text.{commands_text}
use Rattle.prt_published.specs.Line.{line_state}
use Rattle.prt_impact.specs.Groups.{AreGroups}
use Rattle.prt_impact.specs.declared.group.Group.{Group}
use Rattle.prt_import.specs.Accepted.{IsExecuted}
use Rattle.prt_import.specs.declared.accepted.Accepted.{Accepted}
use Rattle.prt_partition.specs.declared.sameness.Sameness.TheVariants.{Outcomes}
use Rattle.prt_publisher.specs.Exits.{HaveCommitted}
use Rattle.prt_publisher.specs.Openings.{OpensOne}
use Rattle.prt_publisher.specs.Standing.{IsQuiet, Standing, Stands}
use Rattle.prt_publisher.specs.declared.phase.Phase.TheVariants.{Ready}
use Rattle.prt_version.specs.State.{State}
use Rattle.prt_args.specs.declared.server_place.ServerPlace.{ServerPlace}
use Rattle.prt_args.specs.declared.service.ApplyArgs.{ApplyArgs}
use Rattle.prt_args.specs.declared.service.Target.{Target}
use Rattle.prt_args.specs.declared.service.Target.TheVariants.{Database, Server}
use Rattle.prt_questions.specs.Asking.{IsCutOff, IsNotOpened, comments_of}
use Rattle.prt_machine.specs.declared.database_opener.DatabaseOpener.{Ghosts as Opener}
use Rattle.prt_machine.specs.Closing.{IsClosedAgain}
use Rattle.prt_questions.specs.LeftOut.{AreKernels}
use Rattle.prt_questions.specs.Sources.{Gives, Sources, path_of}
use Rattle.prt_questions.specs.Submitting.{AreMadeInParts}
use Rattle.prt_machine.specs.declared.database_opener.Wanted.{Wanted}
use Rattle.prt_machine.specs.declared.database_opener.Wanted.TheVariants.{Any, Ours}

-- ---- what is printed

-- the lines of the commands, and how many there are
abbrev pub made_text : List Command → List ℕ
made_text commands = commands_text commands ++ codes "changes " ++ decimal (length commands) ++ codes "\n"

-- what a plan prints, after the packets that it sends another way if these are to be shown
abbrev pub IsPlanText : (shows : Bool) → (found wanted : State) → List ℕ → Type 0
IsPlanText true found wanted text =
    (groups : List Group) × AreGroups Outcomes found wanted groups × (text ≡ comments_of groups ++ made_text (plan found wanted))
IsPlanText false found wanted text = text ≡ made_text (plan found wanted)

-- ---- what is done to a database

-- What a publisher leaves at its end, with no command under way: the tables as it had them. Of a known file they hold what it
-- published or, once it is closed, that or what was stored and not published.
pub record Leaves {S : Type 0} (g : Ghosts S) (begun : Standing (Held S)) (last : Held S) : Type 0 where
  pub done : Standing (Held S)
  pub its : done.tables ≡ last
  pub quiet : IsQuiet done.phase
  pub file : done.ours_first ≡ begun.ours_first
  pub stands : Stands g done

-- all changes were stored in one transaction, unless there were none
abbrev pub AreStoredTogether : {S : Type 0} → Ghosts S → Standing (Held S) → List Command → Standing (Held S) → Type 0
AreStoredTogether g old commands new = ((commands ≡ []) × (new ≡ old)) ⊎ (HasCleanDisk (state g new.tables) → HaveCommitted g old commands new.tables)

-- It made the tables those that are wanted, together, and is ready: what it published is stored. Or the changes were only
-- planned, and nothing was stored.
abbrev pub MakesTables : {S : Type 0} {g : Ghosts S} {begun : Standing (Held S)} {last : Held S} → (is_dry_run : Bool) → State → Leaves g begun last → Type 0
MakesTables {S} {g} {begun} false wanted left =
    (left.done.phase ≡ Ready) × AreAlike (line_state left.done.line) wanted
    × AreStoredTogether g begun (plan (line_state begun.line) wanted) left.done
MakesTables {S} {g} {begun} true wanted left = left.done ≡ begun

-- all that is printed of a plan was printed
abbrev pub IsPrinted : (shows : Bool) → (found wanted : State) → (writer0 writer : Option (List ℕ)) → Type 0
IsPrinted shows found wanted writer0 writer = (text : List ℕ) × IsPlanText shows found wanted text × Appends writer0 writer text

-- or a part of it, perhaps none
abbrev pub IsPrintedAtMost : (shows : Bool) → (found wanted : State) → (writer0 writer : Option (List ℕ)) → Type 0
IsPrintedAtMost shows found wanted writer0 writer = (writer ≡ writer0) ⊎ ((text : List ℕ) × IsPlanText shows found wanted text × IsCutOff text writer0 writer)

-- a publisher was opened over the first tables, and made those of the last that are wanted
abbrev pub Makes : {S : Type 0} → Ghosts S → (shows is_dry_run : Bool) → (wanted : State) → (writer0 writer : Option (List ℕ)) → Held S → Held S → Type 0
Makes g shows is_dry_run wanted writer0 writer first last =
    (begun : Standing (Held _)) × OpensOne g (λ was. was ≡ first) begun × ((left : Leaves g begun last) × MakesTables is_dry_run wanted left)
    × IsPrinted shows (line_state begun.line) wanted writer0 writer

-- or it did so in part; of changes that are only planned it stores none
abbrev pub MakesAtMost : {S : Type 0} → Ghosts S → (shows is_dry_run : Bool) → (wanted : State) → (writer0 writer : Option (List ℕ)) → Held S → Held S → Type 0
MakesAtMost g shows is_dry_run wanted writer0 writer first last =
    (begun : Standing (Held _)) × OpensOne g (λ was. was ≡ first) begun
    × ((left : Leaves g begun last) × (is_dry_run ≡ true → left.done ≡ begun))
    × IsPrintedAtMost shows (line_state begun.line) wanted writer0 writer

-- which database is opened: changes that are only printed make none
abbrev pub wanted_by : (is_dry_run : Bool) → Wanted
wanted_by true = Ours
wanted_by false = Any

-- the tables at a path were made these, and what was printed says how
abbrev pub IsMadeAt : {M S : Type 0} → Ghosts S → Opener M (Held S) → (old new : M) → (writer0 writer : Option (List ℕ)) → (path : List ℕ) →
    (shows is_dry_run : Bool) → (wanted : State) → Type 0
IsMadeAt g by old new writer0 writer path shows is_dry_run wanted =
    IsClosedAgain by (wanted_by is_dry_run) (Makes g shows is_dry_run wanted writer0 writer) old new path

-- a server accepted the changes that make the tables that it told those that are wanted, where it takes them; or they were only planned
abbrev pub AreMadeBy : (submits : ServerPlace → List ℕ → List ℕ → Type 0) → Option ServerPlace → (is_dry_run : Bool) → (told wanted : State) → Type 0
AreMadeBy submits named true told wanted = Unit {0}
AreMadeBy submits named false told wanted = (place : ServerPlace) × (named ≡ Some place) × AreMadeInParts (submits place) told.count (plan told wanted)

-- what a script that was read makes of a new database, none of whose lines is refused
abbrev pub IsScript : (reads : List ℕ → Type 0) → Accepted → Type 0
IsScript reads made = (text : List ℕ) × reads text × IsExecuted made text × AreKernels made.left.items

module _ {M S : Type 0} (g : Ghosts S) (by : Opener M (Held S)) (old new : M) (writer0 writer : Option (List ℕ)) where
  -- in any case: the database could not be opened and nothing was printed, or a part at most
  abbrev pub IsMadeAtMost : (path : List ℕ) (shows is_dry_run : Bool) → (wanted : State) → Type 0
  IsMadeAtMost path shows is_dry_run wanted =
      (IsNotOpened g by old new (wanted_by is_dry_run) path × (writer ≡ writer0))
      ⊎ IsClosedAgain by (wanted_by is_dry_run) (MakesAtMost g shows is_dry_run wanted writer0 writer) old new path

module _ {M S : Type 0} (g : Ghosts S) (by : Opener M (Held S)) (from : Sources) (old new : M) (writer0 writer : Option (List ℕ)) where
  -- the tables of a target were made these: a server told what they were before, and accepted the changes
  abbrev pub IsAppliedTo : Target → (shows is_dry_run : Bool) → (wanted : State) → Type 0
  IsAppliedTo (Database path) shows is_dry_run wanted = IsMadeAt g by old new writer0 writer path.now shows is_dry_run wanted
  IsAppliedTo (Server ends) shows is_dry_run wanted =
      (new ≡ old) × ((told : State) × from.tells ends.feed told × AreMadeBy from.submits ends.atomic is_dry_run told wanted
      × IsPrinted shows told wanted writer0 writer)

  -- in any case
  abbrev pub IsAppliedAtMost : Target → (shows is_dry_run : Bool) → (wanted : State) → Type 0
  IsAppliedAtMost (Database path) shows is_dry_run wanted = IsMadeAtMost g by old new writer0 writer path.now shows is_dry_run wanted
  IsAppliedAtMost (Server ends) shows is_dry_run wanted =
      (new ≡ old) × ((writer ≡ writer0) ⊎ ((told : State) × from.tells ends.feed told × IsPrintedAtMost shows told wanted writer0 writer))

  -- the tables were made what the script makes
  abbrev pub HasApplied : ApplyArgs → Type 0
  HasApplied applying = (made : Accepted) × IsScript (Gives from (path_of applying.file)) made
      × IsAppliedTo applying.target applying.has_impact applying.is_dry_run made.version

  -- in any case: a line of the script is refused, or it can't be read, and nothing was done; or it was applied at most
  abbrev pub HasAppliedAtMost : ApplyArgs → Type 0
  HasAppliedAtMost applying =
      ((new ≡ old) × (writer ≡ writer0))
      ⊎ ((made : Accepted) × IsScript (Gives from (path_of applying.file)) made
      × IsAppliedAtMost applying.target applying.has_impact applying.is_dry_run made.version)
