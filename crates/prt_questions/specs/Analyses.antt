-- What comes of questions about all packets: what a script changes, which claims don't hold, and what no packet needs.
use Rattle.std.specs.Prelude.{◌≡◌, ◌≢◌, ◌⊎◌, ℕ, List, [], ◌++◌, Bool, false, if◌then◌else◌, flat_map, Option}
use Rattle.std.specs.List.{list_all}
use Rattle.std.specs.Io.KnownBytes.{Appends}
use Rattle.sqlite.specs.Held.{Held}
use Rattle.sqlite.specs.Store.{Ghosts}
use Rattle.prt_analyses.specs.Claims.Checking.{IsChecked, breach_line}
use Rattle.prt_analyses.specs.declared.claims.checking.Breach.{Breach}
use Rattle.prt_analyses.specs.declared.claims.checking.Checked.{Checked}
use Rattle.prt_impact.specs.Groups.{AreGroups}
use Rattle.prt_impact.specs.Text.{groups_text}
use Rattle.prt_impact.specs.GroupsJson.{groups_json}
use Rattle.prt_impact.specs.declared.group.Group.{Group}
use Rattle.prt_import.specs.Accepted.{IsExecuted, IsExecutedOver}
use Rattle.prt_import.specs.declared.accepted.Accepted.{Accepted}
use Rattle.prt_explain.specs.Explanation.{explanation_text}
use Rattle.prt_json.specs.Fields.{json_line}
use Rattle.prt_partition.specs.declared.sameness.Sameness.{Sameness}
use Rattle.prt_partition.specs.declared.sameness.Sameness.TheVariants.{Outcomes, Verdicts}
use Rattle.prt_refusals.specs.declared.on_refusal.OnRefusal.TheVariants.{Stop}
use Rattle.prt_analyses.specs.Unused.Text.{unused_text}
use Rattle.prt_analyses.specs.Unused.{AreUnused}
use Rattle.prt_analyses.specs.declared.unused.report.Unused.{Unused}
use Rattle.prt_version.specs.State.{State}
use Rattle.prt_args.specs.declared.analysis.AssertArgs.{AssertArgs}
use Rattle.prt_args.specs.declared.analysis.Exactness.{Exactness}
use Rattle.prt_args.specs.declared.analysis.Exactness.TheVariants as exactness
use Rattle.prt_args.specs.declared.analysis.ImpactArgs.{ImpactArgs}
use Rattle.prt_args.specs.declared.asking.Form.{Form}
use Rattle.prt_args.specs.declared.asking.Form.TheVariants.{Json, Lines}
use Rattle.prt_args.specs.declared.asking.Source.{Source}
use Rattle.prt_args.specs.declared.asking.Source.TheVariants.{Script}
use Rattle.prt_args.specs.declared.fault.TheConstants.{DONE}
use Rattle.prt_questions.specs.Asking.{IsAskedOf, IsCutOff, IsNotAsked}
use Rattle.prt_questions.specs.LeftOut.{AreKernels, is_kernels}
use Rattle.prt_questions.specs.Sources.{Gives, Sources, path_of}
use Rattle.prt_questions.specs.declared.asking.TheConstants.{REFUSED}
use Rattle.prt_machine.specs.declared.database_opener.DatabaseOpener.{Ghosts as Opener}

-- ---- a change

abbrev pub sameness_of : Exactness → Sameness
sameness_of exactness.Outcomes = Outcomes
sameness_of exactness.Verdicts = Verdicts

-- the groups of packets, a line each, or as JSON
abbrev pub impact_text : Form → List Group → List ℕ
impact_text Lines groups = groups_text groups
impact_text Json groups = json_line (groups_json groups)

-- a script that was read was executed over a state, and these are the packets that go another way after it
pub record Rehearsed (reads : List ℕ → Type 0) (sameness : Sameness) (state : State) : Type 0 where
  pub made : Accepted
  pub script : List ℕ
  pub read : reads script
  pub executed : IsExecutedOver state made script
  pub groups : List Group
  pub are : AreGroups sameness state made.version groups

-- a line of the script is refused, and nothing was compared
pub record IsStopped (reads : List ℕ → Type 0) (rehearsing : ImpactArgs) (state : State) : Type 0 where
  pub stops : rehearsing.on_refusal ≡ Stop
  pub made : Accepted
  pub script : List ℕ
  pub read : reads script
  pub executed : IsExecutedOver state made script
  pub refused : list_all is_kernels made.left.items ≡ false

-- ---- claims

-- the packet of a claim that doesn't hold, with its answer; and why it gets that, if asked for
abbrev pub breach_lines : Bool → State → Breach → List ℕ
breach_lines explained state breach = breach_line state breach ++ (if explained then explanation_text state breach.packet else [])

abbrev pub breaches_text : Bool → State → List Breach → List ℕ
breaches_text explained state breaches = flat_map (breach_lines explained state) breaches

-- ---- what is written

-- of the script or the claims that were read
module _ (reads : List ℕ → Type 0) (writer0 writer : Option (List ℕ)) where
  -- all groups were written; with status 0 there are none, and no line of the script is refused
  abbrev pub ShowsImpact : ImpactArgs → (status : ℕ) → State → Type 0
  ShowsImpact rehearsing status state =
      (rehearsed : Rehearsed reads (sameness_of rehearsing.exactness) state)
      × Appends writer0 writer (impact_text rehearsing.form rehearsed.groups)
      × (rehearsing.on_refusal ≡ Stop → AreKernels rehearsed.made.left.items)
      × (status ≡ DONE → (rehearsed.groups ≡ []) × AreKernels rehearsed.made.left.items)

  -- or nothing was written, since a line of the script is refused; then the status is 1
  abbrev pub IsRehearsed : ImpactArgs → (status : ℕ) → State → Type 0
  IsRehearsed rehearsing status state =
      (IsStopped reads rehearsing state × (writer ≡ writer0) × (status ≡ REFUSED))
      ⊎ ShowsImpact rehearsing status state

  -- in any case: nothing was written, or a part at most
  abbrev pub IsRehearsedAtMost : ImpactArgs → State → Type 0
  IsRehearsedAtMost rehearsing state =
      (writer ≡ writer0)
      ⊎ ((rehearsed : Rehearsed reads (sameness_of rehearsing.exactness) state) × IsCutOff (impact_text rehearsing.form rehearsed.groups) writer0 writer)

  -- each claim of a text that doesn't hold was written, with a packet; with status 0 there are none
  abbrev pub IsAsserted : AssertArgs → (status : ℕ) → State → Type 0
  IsAsserted asserting status state =
      (text : List ℕ) × reads text × (checked : Checked) × IsChecked state text checked × (checked.bad.items ≡ [])
      × Appends writer0 writer (breaches_text asserting.is_explained state checked.breaches.items)
      × (status ≡ DONE → checked.breaches.items ≡ [])

  -- a line of the text is no claim, and nothing was written
  abbrev pub IsUnreadable : State → Type 0
  IsUnreadable state = (text : List ℕ) × reads text × (checked : Checked) × IsChecked state text checked × (checked.bad.items ≢ []) × (writer ≡ writer0)

  abbrev pub IsAssertedAtMost : AssertArgs → State → Type 0
  IsAssertedAtMost asserting state =
      (writer ≡ writer0)
      ⊎ ((text : List ℕ) × reads text × (checked : Checked) × IsChecked state text checked
      × IsCutOff (breaches_text asserting.is_explained state checked.breaches.items) writer0 writer)

module _ (writer0 writer : Option (List ℕ)) where
  -- all unused rules and routes were written; with status 0 there are none
  abbrev pub IsSearched : (status : ℕ) → State → Type 0
  IsSearched status state =
      (unused : Unused) × AreUnused state unused × Appends writer0 writer (unused_text unused)
      × (status ≡ DONE → (unused.rules.items ≡ []) × (unused.routes.items ≡ []))

  abbrev pub IsSearchedAtMost : State → Type 0
  IsSearchedAtMost state =
      (writer ≡ writer0)
      ⊎ ((unused : Unused) × AreUnused state unused × IsCutOff (unused_text unused) writer0 writer)

-- ---- of the tables of a source

module _ {M S : Type 0} (g : Ghosts S) (by : Opener M (Held S)) (from : Sources) (old new : M) where
  -- the tables of a source were read; if this status is 0, no line of a script was left out, except what the kernel makes itself
  abbrev pub HaveTables : Source → (left : ℕ) → State → Type 0
  HaveTables (Script file) left tables =
      (new ≡ old) × (made : Accepted) × (text : List ℕ) × Gives from (path_of file) text × IsExecuted made text
      × (left ≡ DONE → AreKernels made.left.items) × (tables ≡ made.version)
  HaveTables source left tables = IsAskedOf g by from old new source (λ state. tables ≡ state)

  -- they were not, or memory was refused after that
  abbrev pub IsNotRead : Source → Type 0
  IsNotRead source = IsNotAsked g by old new source ⊎ IsAskedOf g by from old new source (λ state. Unit {0})

  -- this holds of them and of what was written; with status 0 no line of a script was left out
  abbrev pub IsFoundOf : Source → (status : ℕ) → (State → Type 0) → Type 0
  IsFoundOf (Script file) status Holds =
      (new ≡ old) × (made : Accepted) × (text : List ℕ) × Gives from (path_of file) text × IsExecuted made text
      × (status ≡ DONE → AreKernels made.left.items) × Holds made.version
  IsFoundOf source status Holds = IsAskedOf g by from old new source Holds

  -- in any case: they were not read, and nothing was written; or this holds
  abbrev pub IsFoundAtMost : (writer0 writer : Option (List ℕ)) → Source → (State → Type 0) → Type 0
  IsFoundAtMost writer0 writer source Holds = (IsNotRead source × (writer ≡ writer0)) ⊎ IsAskedOf g by from old new source Holds
