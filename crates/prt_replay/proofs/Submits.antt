-- Commands that a replay checks together.
use Rattle.std.proofs.Common.{◌≡◌, Bool, List, None, length, sym, ap, ◌∙◌}
use Rattle.std.specs.Prelude.{nat_lt}
use Rattle.prt_command.specs.declared.request.Command.{Command}
use Rattle.prt_grace.specs.declared.limits.TheConstants.{MOST_RETIRED}
use Rattle.prt_version.specs.Accepted.{IsAccepted, refusal_all}
use Rattle.prt_version.specs.State.{State}
use Rattle.prt_version.proofs.Folds.{none_refused}
use Rattle.prt_replay.specs.Machine.{MachineState, prepare_all, submit_by}
use Rattle.prt_replay.specs.declared.stage.Stage.TheVariants.{Ready}

-- none of the commands is refused, and there is room or there is none
pub none_refused_by : (m : MachineState) (commands : List Command) (published : State) (room : Bool) → published ≡ m.published → room ≡ nat_lt (length m.lookers.registry.retired) MOST_RETIRED → IsAccepted published commands → submit_by m commands Ready ≡ prepare_all m commands None room
none_refused_by m commands published room shown has accepted =
    ap (λ reason. prepare_all m commands reason (nat_lt (length m.lookers.registry.retired) MOST_RETIRED)) (ap (λ state. refusal_all state commands) (sym shown) ∙ none_refused published commands accepted)
    ∙ ap (prepare_all m commands None) (sym has)
