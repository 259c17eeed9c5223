-- States after commands.
use Rattle.std.proofs.Common.{◌≡◌, ◌+◌, List, [], ◌∷◌, ◌++◌, length, take, refl, sym, ap, ◌∙◌, arith}
use Rattle.std.proofs.lemmas.List.{take_all}
use Rattle.prt_command.specs.declared.request.Command.{Command}
use Rattle.prt_version.specs.Accepted.{IsAccepted}
use Rattle.prt_version.specs.Change.{fold}
use Rattle.prt_version.specs.State.{State, opening_state}
use Rattle.prt_version.proofs.Folds.{count_fold, fold_append}
use Rattle.prt_replay.specs.Durability.{state_after}
use Rattle.prt_replay.specs.World.{with_count}

-- the rows of commands, and then their count
pub written_whole : (state : State) (commands : List Command) → IsAccepted state commands → with_count (state.count + length commands) (with_count state.count (fold state commands)) ≡ fold state commands
written_whole state commands allowed = ap (λ n. with_count n (fold state commands)) (sym (count_fold state commands allowed))

-- the state after more commands
pub state_after_more : (state : State) (commands more : List Command) → state ≡ state_after commands state.count → commands ≡ take state.count commands ++ more → length commands ≡ state.count + length more → IsAccepted state more → fold state more ≡ state_after commands (fold state more).count
state_after_more state commands more is ends long allowed =
    let counted : (fold state more).count ≡ state.count + length more = count_fold state more allowed in
    let whole : take (fold state more).count commands ≡ commands = take_all (fold state more).count commands (omega arith) in
    ap (λ s. fold s more) is
    ∙ sym (fold_append opening_state (take state.count commands) more)
    ∙ ap (fold opening_state) (sym ends)
    ∙ ap (fold opening_state) (sym whole)

pub taken_before : {X : Type 0} (xs more : List X) → take (length xs) (xs ++ more) ≡ xs
taken_before [] more = refl
taken_before (first ∷ rest) more = ap (λ xs. first ∷ xs) (taken_before rest more)
