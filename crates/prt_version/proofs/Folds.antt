-- States after commands.
use Rattle.std.proofs.Common.{◌≡◌, ◌+◌, List, [], ◌∷◌, ◌++◌, Option, Some, None, Result, Ok, Err, length, refl, arith}
use Rattle.std.specs.Result.{result_err}
use Rattle.prt_refusals.specs.declared.refusal.Refusal.{Refusal}
use Rattle.prt_command.specs.declared.request.Command.{Command}
use Rattle.prt_version.specs.Accepted.{IsAccepted, or_later, refusal_all}
use Rattle.prt_version.specs.Change.{apply, check, fold, put, put_if, refusal}
use Rattle.prt_version.specs.State.{State}
use Rattle.prt_version.specs.declared.change.Change.{Change}
use Rattle.prt_version.specs.declared.change.Change.TheVariants as change

pub fold_push : (state : State) (commands : List Command) (command : Command) → fold state (commands ++ command ∷ []) ≡ apply (fold state commands) command
fold_push state [] command = refl
fold_push state (first ∷ commands) command = fold_push (apply state first) commands command

-- each change is counted
pub put_count : (state : State) (made : Change) → (put state made).count ≡ state.count + 1
put_count state (change.Route edit) = refl
put_count state (change.RouteAdd route) = refl
put_count state (change.RulePut rule) = refl
put_count state (change.RuleDrop id) = refl
put_count state change.RuleFlush = refl

counted_by : (state : State) (r : Result Change Refusal) → result_err r ≡ None → (put_if state r).count ≡ state.count + 1
counted_by state (Ok made) allowed = put_count state made
counted_by state (Err reason) allowed = absurd cc

-- a command that is not refused is counted
pub apply_count : (state : State) (command : Command) → refusal state command ≡ None → (apply state command).count ≡ state.count + 1
apply_count state command allowed = counted_by state (check state command) allowed

-- the count goes up by one for each accepted command
pub count_fold : (state : State) (commands : List Command) → IsAccepted state commands → (fold state commands).count ≡ state.count + length commands
count_fold state [] accepted = omega arith
count_fold state (command ∷ commands) accepted =
    let first = apply_count state command accepted.0 in
    let rest = count_fold (apply state command) commands accepted.1 in
    omega (arith, first, rest)

-- one command more that is refused for nothing
pub accepted_grown : (state : State) (commands : List Command) (command : Command) → IsAccepted state commands → refusal (fold state commands) command ≡ None → IsAccepted state (commands ++ command ∷ [])
accepted_grown state [] command accepted allowed = (allowed, tt)
accepted_grown state (first ∷ commands) command accepted allowed = (accepted.0, accepted_grown (apply state first) commands command accepted.1 allowed)

-- ---- several commands more

pub fold_append : (state : State) (commands more : List Command) → fold state (commands ++ more) ≡ fold (fold state commands) more
fold_append state [] more = refl
fold_append state (first ∷ commands) more = fold_append (apply state first) commands more

pub accepted_append : (state : State) (commands more : List Command) → IsAccepted state commands → IsAccepted (fold state commands) more → IsAccepted state (commands ++ more)
accepted_append state [] more accepted all = all
accepted_append state (first ∷ commands) more accepted all = (accepted.0, accepted_append (apply state first) commands more accepted.1 all)

neither : (first later : Option Refusal) → or_later first later ≡ None → (first ≡ None) × (later ≡ None)
neither None later none = (refl, none)
neither (Some reason) later none = absurd (cc none)

both_none : (first later : Option Refusal) → first ≡ None → later ≡ None → or_later first later ≡ None
both_none None later first_none none = none
both_none (Some reason) later first_none none = absurd (cc first_none)

-- commands of which none is refused are accepted
pub accepted_all : (state : State) (commands : List Command) → refusal_all state commands ≡ None → IsAccepted state commands
accepted_all state [] none = tt
accepted_all state (command ∷ commands) none =
    let two = neither (refusal state command) (refusal_all (apply state command) commands) none in
    (two.0, accepted_all (apply state command) commands two.1)

-- of accepted commands none is refused
pub none_refused : (state : State) (commands : List Command) → IsAccepted state commands → refusal_all state commands ≡ None
none_refused state [] accepted = refl
none_refused state (command ∷ commands) accepted =
    both_none (refusal state command) (refusal_all (apply state command) commands) accepted.0 (none_refused (apply state command) commands accepted.1)
