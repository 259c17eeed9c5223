-- Commands that are accepted one after another, and what they leave.
use Rattle.std.proofs.Common.{◌≡◌, List, [], ◌∷◌, ◌++◌, Result, Ok, Err, refl, sym, ap, ◌∙◌, subst}
use Rattle.std.specs.Result.{result_err}
use Rattle.prt_refusals.specs.declared.refusal.Refusal.{Refusal}
use Rattle.prt_route.specs.declared.route.Route.{Route}
use Rattle.prt_rule.specs.declared.rule.Rule.{Rule}
use Rattle.prt_command.specs.declared.request.Command.{Command}
use Rattle.prt_version.specs.Accepted.{IsAccepted}
use Rattle.prt_version.specs.Change.{apply, check, fold, put, put_if}
use Rattle.prt_version.specs.Sound.{IsSound}
use Rattle.prt_version.specs.State.{State}
use Rattle.prt_version.specs.declared.change.Change.{Change}
use Rattle.prt_version.proofs.Folds.{accepted_append, fold_append}
use Rattle.prt_diff.proofs.Leads.{put_sound}

apply_by : (state : State) (command : Command) (checked : Result Change Refusal) → check state command ≡ checked → IsSound state → IsSound (put_if state checked)
apply_by state command (Ok made) is sound = put_sound state command made sound is
apply_by state command (Err reason) is sound = sound

-- a sound state is sound after commands
pub fold_sound : (state : State) (commands : List Command) → IsSound state → IsSound (fold state commands)
fold_sound state [] sound = sound
fold_sound state (command ∷ commands) sound = fold_sound (apply state command) commands (apply_by state command (check state command) refl sound)

-- The commands are accepted, and leave these rules and routes.
pub record Leave (state : State) (commands : List Command) (rules : List Rule) (routes : List Route) : Type 0 where
  pub accepted : IsAccepted state commands
  pub rules_are : (fold state commands).rules ≡ rules
  pub routes_are : (fold state commands).routes ≡ routes

pub leave_all : (state : State) → Leave state [] state.rules state.routes
leave_all state = record { accepted = tt; rules_are = refl; routes_are = refl }

-- one command before others
pub leave_first : (state : State) (command : Command) (made : Change) (commands : List Command) (rules : List Rule) (routes : List Route) → check state command ≡ Ok made → Leave (put state made) commands rules routes → Leave state (command ∷ commands) rules routes
leave_first state command made commands rules routes is rest =
    let next : apply state command ≡ put state made = ap (put_if state) is in
    record {
      accepted = (ap result_err is, subst (λ s. IsAccepted s commands) (sym next) rest.accepted);
      rules_are = ap (λ s. (fold s commands).rules) next ∙ rest.rules_are;
      routes_are = ap (λ s. (fold s commands).routes) next ∙ rest.routes_are;
    }

pub leave_both : (state : State) (first second : List Command) (rules : List Rule) (routes : List Route) → IsAccepted state first → Leave (fold state first) second rules routes → Leave state (first ++ second) rules routes
leave_both state first second rules routes accepted rest = record {
  accepted = accepted_append state first second accepted rest.accepted;
  rules_are = ap (λ s. s.rules) (fold_append state first second) ∙ rest.rules_are;
  routes_are = ap (λ s. s.routes) (fold_append state first second) ∙ rest.routes_are;
}
