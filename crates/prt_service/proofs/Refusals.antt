-- Why a publisher refuses commands.
use Rattle.std.proofs.Common.{◌≡◌, ◌∙◌, ap, true, false, refl, inl, inr, List, sym, subst}
use Rattle.std.proofs.lemmas.Bool.{false≢true}
use Rattle.sqlite.specs.Held.{Held}
use Rattle.sqlite.specs.Store.{Ghosts}
use Rattle.prt_refusals.specs.declared.refusal.Refusal.{Refusal}
use Rattle.prt_refusals.specs.declared.refusal.Refusal.TheVariants.{CountFull, Exists, Full, NoSuch}
use Rattle.prt_command.specs.declared.request.Command.{Command}
use Rattle.prt_published.specs.Line.{line_state}
use Rattle.prt_version.proofs.Refused.{IsOfState, all_refused_by}
use Rattle.prt_publisher.specs.Exits.{AreNotAcknowledged, AreNotPrepared}
use Rattle.prt_publisher.specs.Standing.{Standing}
use Rattle.prt_publisher.specs.declared.phase.Phase.{Phase}
use Rattle.prt_publisher.specs.declared.phase.Phase.TheVariants as phase
use Rattle.prt_service.specs.Group.{HaveUnknownFate, have_unknown_fate}
use Rattle.prt_service.specs.Service.{IsServiceRefusal}
use Rattle.prt_version.specs.State.{State}

state_fine : (why : Refusal) → IsOfState why → IsServiceRefusal why
state_fine Exists of = tt
state_fine NoSuch of = tt
state_fine Full of = tt
state_fine CountFull of = tt
state_fine _ of = absurd of

prepared_fine : (p : Phase) (state : State) (commands : List Command) (why : Refusal) → AreNotPrepared p state commands why → IsServiceRefusal why
prepared_fine phase.Closed state commands why is = subst IsServiceRefusal (sym is) tt
prepared_fine p state commands why (inl (inl is)) = state_fine why (all_refused_by state commands why is)
prepared_fine p state commands why (inl (inr (is, _))) = subst IsServiceRefusal (sym is) tt
prepared_fine p state commands why (inr (_, inl is)) = subst IsServiceRefusal (sym is) tt
prepared_fine p state commands why (inr (_, inr is)) = subst IsServiceRefusal (sym is) tt

pub acknowledged_fine : {S : Type 0} (g : Ghosts S) (old : Standing (Held S)) (commands : List Command) (why : Refusal) (new : Standing (Held S)) → AreNotAcknowledged g old commands why new → IsServiceRefusal why
acknowledged_fine g old commands why new (inl (_, refused)) = prepared_fine old.phase (line_state old.line) commands why refused
acknowledged_fine g old commands why new (inr (inl failed)) = subst IsServiceRefusal (sym failed.why_is) tt
acknowledged_fine g old commands why new (inr (inr failed)) = subst IsServiceRefusal (sym failed.why_is) tt

-- ---- commands whose fate is unknown

state_known : (why : Refusal) → IsOfState why → have_unknown_fate why ≡ false
state_known Exists of = refl
state_known NoSuch of = refl
state_known Full of = refl
state_known CountFull of = refl
state_known _ of = absurd of

prepared_known : (p : Phase) (state : State) (commands : List Command) (why : Refusal) → AreNotPrepared p state commands why → have_unknown_fate why ≡ false
prepared_known phase.Closed state commands why is = ap have_unknown_fate is
prepared_known p state commands why (inl (inl is)) = state_known why (all_refused_by state commands why is)
prepared_known p state commands why (inl (inr (is, _))) = ap have_unknown_fate is
prepared_known p state commands why (inr (_, inl is)) = ap have_unknown_fate is
prepared_known p state commands why (inr (_, inr is)) = ap have_unknown_fate is

module _ {S : Type 0} (g : Ghosts S) (old : Standing (Held S)) (commands : List Command) (why : Refusal) (new : Standing (Held S)) where
  pub unknown_fate : AreNotAcknowledged g old commands why new → have_unknown_fate why ≡ true → HaveUnknownFate g old commands why new
  unknown_fate (inl (_, refused)) unknown = absurd (false≢true (sym (prepared_known old.phase (line_state old.line) commands why refused) ∙ unknown))
  unknown_fate (inr failed) unknown = failed

  pub nothing_changed : AreNotAcknowledged g old commands why new → have_unknown_fate why ≡ false → new ≡ old
  nothing_changed (inl (same, _)) known = same
  nothing_changed (inr (inl failed)) known = absurd (false≢true (sym known ∙ ap have_unknown_fate failed.why_is))
  nothing_changed (inr (inr failed)) known = absurd (false≢true (sym known ∙ ap have_unknown_fate failed.why_is))
