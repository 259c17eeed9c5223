-- What is read of the input once something else was.
use Rattle.std.proofs.Common.{◌≡◌, ◌⊎◌, IfSome, inl, inr, ℕ, List, [], Option, Some, None, subst}
use Rattle.std.specs.Prelude.{option_map}
use Rattle.std.specs.Io.KnownBytes.{Appends}
use Rattle.sqlite.specs.Held.{Held}
use Rattle.sqlite.specs.Store.{Ghosts}
use Rattle.prt_addr.specs.Word.{Word}
use Rattle.prt_diff.specs.Text.{changes_text}
use Rattle.prt_diff.specs.declared.fence.Fence.{Fence}
use Rattle.prt_partition.specs.declared.sameness.Sameness.{Sameness}
use Rattle.prt_version.specs.State.{State}
use Rattle.prt_args.specs.declared.analysis.AssertArgs.{AssertArgs}
use Rattle.prt_args.specs.declared.analysis.ImpactArgs.{ImpactArgs}
use Rattle.prt_args.specs.declared.asking.Shown.{Shown}
use Rattle.prt_args.specs.declared.asking.Shown.TheVariants.{Impact, Lines, Status}
use Rattle.prt_args.specs.declared.asking.Source.{Source}
use Rattle.prt_args.specs.declared.asking.Source.TheVariants.{Database, Server, Script}
use Rattle.prt_questions.specs.Analyses.{IsAsserted, IsAssertedAtMost, IsNotRead, IsRehearsed, IsRehearsedAtMost, IsStopped, IsUnreadable, Rehearsed, sameness_of}
use Rattle.prt_questions.specs.Asking.{IsAnswered, IsAnsweredAtMost, IsAskedOf, IsCutOff, IsShown, IsShownAtMost, IsWholeChange, IsWithImpact}
use Rattle.prt_questions.specs.Sources.{HasLeft, IsRead, Sources, after, path_of}
use Rattle.prt_machine.specs.declared.database_opener.DatabaseOpener.{Ghosts as Opener}

pub later : (files : List ℕ → List ℕ → Type 0) (rest : List ℕ → List ℕ) (input0 input : Option (List ℕ)) → HasLeft rest input0 input → (file : Option Word) (text : List ℕ) → IsRead files input file text → IsRead files (option_map rest input0) file text
later files rest input0 input left (Some path) text read = read
later files rest None input left None text read = tt
later files rest (Some all) input left None text read = subst (λ known. IfSome known (λ all. text ≡ all)) left read

-- by what was read of a script, or of claims
module _ (reads gives : List ℕ → Type 0) (more : (text : List ℕ) → reads text → gives text) (writer0 writer : Option (List ℕ)) where
  stopped_by : (rehearsing : ImpactArgs) (state : State) → IsStopped reads rehearsing state → IsStopped gives rehearsing state
  stopped_by rehearsing state is = record { stops = is.stops; made = is.made; script = is.script; read = more is.script is.read; executed = is.executed; refused = is.refused }

  shown_by : (sameness : Sameness) (state : State) → Rehearsed reads sameness state → Rehearsed gives sameness state
  shown_by sameness state is = record { made = is.made; script = is.script; read = more is.script is.read; executed = is.executed; groups = is.groups; are = is.are }

  pub rehearsed_by : (rehearsing : ImpactArgs) (status : ℕ) (state : State) → IsRehearsed reads writer0 writer rehearsing status state → IsRehearsed gives writer0 writer rehearsing status state
  unfolding shown_by
  rehearsed_by rehearsing status state (inl stopped) = inl (stopped_by rehearsing state stopped.0, stopped.1, stopped.2)
  rehearsed_by rehearsing status state (inr shown) = inr (shown_by (sameness_of rehearsing.exactness) state shown.0, shown.1, shown.2, shown.3)

  pub rehearsed_at_most_by : (rehearsing : ImpactArgs) (state : State) → IsRehearsedAtMost reads writer0 writer rehearsing state → IsRehearsedAtMost gives writer0 writer rehearsing state
  unfolding shown_by
  rehearsed_at_most_by rehearsing state (inl same) = inl same
  rehearsed_at_most_by rehearsing state (inr shown) = inr (shown_by (sameness_of rehearsing.exactness) state shown.0, shown.1)

  pub asserted_by : (asserting : AssertArgs) (status : ℕ) (state : State) → IsAsserted reads writer0 writer asserting status state → IsAsserted gives writer0 writer asserting status state
  asserted_by asserting status state is = (is.0, more is.0 is.1, is.2, is.3, is.4, is.5, is.6)

  pub unreadable_by : (state : State) → IsUnreadable reads writer0 writer state → IsUnreadable gives writer0 writer state
  unreadable_by state is = (is.0, more is.0 is.1, is.2, is.3, is.4, is.5)

  pub asserted_at_most_by : (asserting : AssertArgs) (state : State) → IsAssertedAtMost reads writer0 writer asserting state → IsAssertedAtMost gives writer0 writer asserting state
  asserted_at_most_by asserting state (inl same) = inl same
  asserted_at_most_by asserting state (inr is) = inr (is.0, more is.0 is.1, is.2, is.3, is.4)

module _ {M S : Type 0} (g : Ghosts S) (by : Opener M (Held S)) (from : Sources) (rest : List ℕ → List ℕ) (input : Option (List ℕ)) (left : HasLeft rest from.input input) (old new : M) where
  -- what was asked once something else was read
  pub asked_later : (source : Source) (P : State → Type 0) → IsAskedOf g by (record from { input = input }) old new source P → IsAskedOf g by (after rest from) old new source P
  asked_later (Database path) P asked = asked
  asked_later (Server place) P asked = asked
  asked_later (Script file) P asked = (asked.0, asked.1, asked.2, later from.files rest from.input input left (path_of file) asked.2 asked.3, asked.4, asked.5)

  -- or was not asked
  pub asked_or_not_later : (source : Source) → IsNotRead g by (record from { input = input }) old new source → IsNotRead g by (after rest from) old new source
  asked_or_not_later source (inl not_asked) = inl not_asked
  asked_or_not_later source (inr asked) = inr (asked_later source (λ state. Unit {0}) asked)

  pub compared_later : {Unwritten : Type 0} (source : Source) (P : State → Type 0) → (Unwritten × IsNotRead g by (record from { input = input }) old new source) ⊎ IsAskedOf g by (record from { input = input }) old new source P
      → (Unwritten × IsNotRead g by (after rest from) old new source) ⊎ IsAskedOf g by (after rest from) old new source P
  compared_later source P (inl none) = inl (none.0, asked_or_not_later source none.1)
  compared_later source P (inr asked) = inr (asked_later source P asked)

  module _ (writer0 writer : Option (List ℕ)) where
    -- and what was answered
    pub answered_later : (source : Source) (says : State → List ℕ) (IsWhole : State → Type 0) → IsAnswered g by (record from { input = input }) old new writer0 writer source says IsWhole → IsAnswered g by (after rest from) old new writer0 writer source says IsWhole
    answered_later (Database path) says IsWhole answered = answered
    answered_later (Server place) says IsWhole answered = answered
    answered_later (Script file) says IsWhole answered = (answered.0, answered.1, answered.2, later from.files rest from.input input left (path_of file) answered.2 answered.3, answered.4, answered.5, answered.6, answered.7)

    pub answered_at_most_later : (source : Source) (says : State → List ℕ) → IsAnsweredAtMost g by (record from { input = input }) old new writer0 writer source says → IsAnsweredAtMost g by (after rest from) old new writer0 writer source says
    answered_at_most_later source says (inl not_asked) = inl not_asked
    answered_at_most_later source says (inr asked) = inr (asked_later source (λ state. IsCutOff (says state) writer0 writer) asked)

    -- and what was shown of a difference
    pub shown_later : (shown : Shown) (fence : Fence) (found : State) (source : Source) → IsShown g by (record from { input = input }) old new writer0 writer fence found shown source → IsShown g by (after rest from) old new writer0 writer fence found shown source
    shown_later Lines fence found source is = answered_later source (changes_text fence found) (IsWholeChange fence found) is
    shown_later Impact fence found source is = asked_later source (λ state. (text : List ℕ) × IsWithImpact fence found state text × Appends writer0 writer text × IsWholeChange fence found state) is
    shown_later Status fence found source is = (is.0, asked_later source (λ state. (changes_text fence found state ≡ []) × IsWholeChange fence found state) is.1)

    pub shown_at_most_later : (shown : Shown) (fence : Fence) (found : State) (source : Source) → IsShownAtMost g by (record from { input = input }) old new writer0 writer fence found shown source → IsShownAtMost g by (after rest from) old new writer0 writer fence found shown source
    shown_at_most_later Lines fence found source is = answered_at_most_later source (changes_text fence found) is
    shown_at_most_later Impact fence found source is = compared_later source (λ state. (text : List ℕ) × IsWithImpact fence found state text × IsCutOff text writer0 writer) is
    shown_at_most_later Status fence found source is = (is.0, asked_or_not_later source is.1)
