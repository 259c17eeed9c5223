-- What a rehearsal shows.
use Rattle.std.proofs.Common.{◌≡◌, ◌≢◌, ◌⊎◌, inl, inr, ℕ, List, [], Option}
use Rattle.std.specs.Io.KnownBytes.{Appends}
use Rattle.prt_impact.specs.Groups.{AreGroups}
use Rattle.prt_impact.specs.declared.group.Group.{Group}
use Rattle.prt_refusals.specs.declared.on_refusal.OnRefusal.TheVariants.{Stop}
use Rattle.prt_import.specs.Accepted.{IsExecutedOver}
use Rattle.prt_import.specs.declared.accepted.Accepted.{Accepted}
use Rattle.prt_version.specs.State.{State}
use Rattle.prt_args.specs.declared.analysis.ImpactArgs.{ImpactArgs}
use Rattle.prt_args.specs.declared.fault.TheConstants.{DONE}
use Rattle.prt_questions.specs.Analyses.{IsRehearsed, IsRehearsedAtMost, impact_text, sameness_of}
use Rattle.prt_questions.specs.Asking.{IsCutOff}
use Rattle.prt_questions.specs.LeftOut.{AreKernels}
use Rattle.prt_questions.specs.declared.asking.TheConstants.{REFUSED}

-- lines were refused
pub are_refused : (left : ℕ) → (left ≡ DONE) ⊎ (left ≡ REFUSED) → left ≢ DONE → left ≡ REFUSED
are_refused left (inl is) other = absurd (other is)
are_refused left (inr is) other = is

module _ (reads : List ℕ → Type 0) (writer0 writer : Option (List ℕ)) (rehearsing : ImpactArgs) (state : State) (made : Accepted) (script : List ℕ) (read : reads script) (executed : IsExecutedOver state made script) where
  pub shows : (status : ℕ) (groups : List Group) → AreGroups (sameness_of rehearsing.exactness) state made.version groups → Appends writer0 writer (impact_text rehearsing.form groups) → (rehearsing.on_refusal ≡ Stop → AreKernels made.left.items) → (status ≡ DONE → (groups ≡ []) × AreKernels made.left.items) → IsRehearsed reads writer0 writer rehearsing status state
  shows status groups are appended goes_on none = inr (record { made = made; script = script; read = read; executed = executed; groups = groups; are = are }, appended, goes_on, none)

  pub shows_at_most : (writer ≡ writer0) ⊎ ((groups : List Group) × AreGroups (sameness_of rehearsing.exactness) state made.version groups × IsCutOff (impact_text rehearsing.form groups) writer0 writer) → IsRehearsedAtMost reads writer0 writer rehearsing state
  shows_at_most (inl same) = inl same
  shows_at_most (inr (groups, are, cut)) = inr (record { made = made; script = script; read = read; executed = executed; groups = groups; are = are }, cut)
