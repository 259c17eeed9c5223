-- Commands that are made at the number that was expected.
use Rattle.std.proofs.Common.{◌≡◌, ◌+◌, ℕ, Option, Some, None, IfSome, List, ◌++◌, ap, arith, length, length-append, refl, subst, sym, ◌∙◌}
use Rattle.prt_command.specs.declared.request.Command.{Command}
use Rattle.prt_published.specs.Line.{Line, grown_by, line_state}
use Rattle.prt_service.specs.Service.{IsAfter}
use Rattle.prt_version.proofs.Folds.{count_fold, fold_append}
use Rattle.prt_version.specs.Accepted.{IsAccepted}
use Rattle.prt_version.specs.State.{State}

-- the list before the commands has the number of its version, as the list of their receipt has its own
after_its_number : (old : Line) (commands : List Command) (number last : ℕ) → IsAccepted (line_state old) commands → number ≡ (line_state old).count → last ≡ old.base.count + length (old.list ++ commands) → last ≡ (line_state (grown_by old commands)).count → IsAfter number commands (grown_by old commands)
after_its_number old commands number last accepted numbered value count =
    let grown : last ≡ (line_state old).count + length commands = count ∙ ap (λ (state : State). state.count) (fold_append old.base old.list commands) ∙ count_fold (line_state old) commands accepted in
    let long = length-append old.list commands in
    let before : old.base.count + length old.list ≡ number = omega (arith, grown, long, value, numbered) in
    (old.list, refl, before)

pub made_after : (old receipt : Line) (commands : List Command) (expected : Option ℕ) (number last : ℕ) → receipt ≡ grown_by old commands → IsAccepted (line_state old) commands → IfSome expected (λ other. other ≡ number) → number ≡ (line_state old).count → last ≡ receipt.base.count + length receipt.list → last ≡ (line_state receipt).count →
    IfSome expected (λ other. IsAfter other commands receipt)
made_after old receipt commands None number last is accepted met numbered value count = tt
made_after old receipt commands (Some other) number last is accepted met numbered value count =
    subst (IsAfter other commands) (sym is) (after_its_number old commands other last accepted (met ∙ numbered) (value ∙ ap (λ (line : Line). line.base.count + length line.list) is) (count ∙ ap (λ (line : Line). (line_state line).count) is))

pub expected_met : (expected : Option ℕ) (number count : ℕ) → IfSome expected (λ other. other ≡ number) → number ≡ count → IfSome expected (λ other. other ≡ count)
expected_met None number count met numbered = tt
expected_met (Some other) number count met numbered = met ∙ numbered
