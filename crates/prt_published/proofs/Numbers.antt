-- The number of a published version.
use Rattle.std.proofs.Common.{◌≡◌, ℕ, zero, suc, ◌+◌, ◌≤◌, Bool, true, false, List, [], ◌∷◌, ◌++◌, length, take, None, Result, Ok, Err, refl, ap, sym, ◌∙◌, cond, arith}
use Rattle.std.proofs.lemmas.Bool.Decides.{nat_tests}
use Rattle.std.specs.Prelude.{nat_lt}
use Rattle.std.specs.Result.{result_err}
use Rattle.prt_refusals.specs.declared.refusal.Refusal.{Refusal}
use Rattle.prt_refusals.specs.declared.refusal.Refusal.TheVariants.{CountFull}
use Rattle.prt_command.specs.declared.request.Command.{Command}
use Rattle.prt_version.specs.Accepted.{IsAccepted}
use Rattle.prt_version.specs.Change.{apply, change_of, fold, unless_count_full}
use Rattle.prt_version.specs.State.{State}
use Rattle.prt_version.specs.declared.change.Change.{Change}
use Rattle.prt_version.specs.declared.limits.TheConstants.{MOST_COMMANDS}
use Rattle.prt_version.proofs.Folds.{accepted_append, apply_count, count_fold, fold_append}
use Rattle.prt_published.specs.Line.{Line, grown_by, line_state}

-- the loaded number, and that of the commands since
pub number_is : (line : Line) → IsAccepted line.base line.list → (line_state line).count ≡ line.base.count + length line.list
number_is line accepted = count_fold line.base line.list accepted

-- commands more add theirs
pub number_next : (line : Line) (commands : List Command) → IsAccepted line.base line.list → IsAccepted (line_state line) commands → (line_state (grown_by line commands)).count ≡ line.base.count + length line.list + length commands
number_next line commands accepted all =
    ap (λ (state : State). state.count) (fold_append line.base line.list commands)
    ∙ (count_fold (line_state line) commands all ∙ ap (λ n. n + length commands) (number_is line accepted))

-- a stamp says by how much it is past what is shown
pub counts_on : (now known shown : Line) (commands : List Command) (after before : ℕ) → known ≡ now → shown ≡ known → IsAccepted known.base known.list
    → after ≡ now.base.count + length now.list + length commands → before ≡ (line_state shown).count → after ≡ before + length commands
counts_on now known shown commands after before same is accepted stamped counted =
    let number = number_is known accepted in
    let was : before ≡ (line_state known).count = counted ∙ ap (λ (l : Line). (line_state l).count) is in
    let will : after ≡ known.base.count + length known.list + length commands = stamped ∙ ap (λ (l : Line). l.base.count + length l.list + length commands) (sym same) in
    omega (arith, number, was, will)

-- ---- how many commands there can be

less_by : (count : ℕ) (made : Change) (b : Bool) → nat_lt count MOST_COMMANDS ≡ b → result_err (cond b (Ok made) (Err CountFull)) ≡ None → count + 1 ≤ MOST_COMMANDS
less_by count made true below allowed = grind (arith, nat_tests)
less_by count made false below allowed = absurd (cc allowed)

less_than_most : (count : ℕ) (r : Result Change Refusal) → result_err (unless_count_full count r) ≡ None → count + 1 ≤ MOST_COMMANDS
less_than_most count (Ok made) allowed = less_by count made (nat_lt count MOST_COMMANDS) refl allowed
less_than_most count (Err reason) allowed = absurd (cc allowed)

-- accepted commands are counted
pub at_most : (state : State) (commands : List Command) → IsAccepted state commands → length commands ≤ MOST_COMMANDS
at_most state [] accepted = omega arith
at_most state (command ∷ commands) accepted = let counted = counted_up state command commands accepted in omega (arith, counted)
  where
    counted_up : (state : State) (command : Command) (commands : List Command) → IsAccepted state (command ∷ commands) → state.count + length (command ∷ commands) ≤ MOST_COMMANDS
    counted_up state command [] accepted = let less = less_than_most state.count (change_of state command) accepted.0 in omega (arith, less)
    counted_up state command (next ∷ commands) accepted =
        let more = counted_up (apply state command) next commands accepted.1 in
        let one = apply_count state command accepted.0 in
        omega (arith, more, one)

-- so are those of a history and the ones that are added
pub at_most_added : (base : State) (list commands : List Command) → IsAccepted base list → IsAccepted (fold base list) commands → length (list ++ commands) ≤ MOST_COMMANDS
at_most_added base list commands accepted more = at_most base (list ++ commands) (accepted_append base list commands accepted more)

-- ---- the first of accepted commands

pub accepted_first : (state : State) (count : ℕ) (commands : List Command) → IsAccepted state commands → IsAccepted state (take count commands)
accepted_first state zero commands accepted = tt
accepted_first state (suc count) [] accepted = tt
accepted_first state (suc count) (command ∷ commands) accepted = (accepted.0, accepted_first (apply state command) count commands accepted.1)
