-- Commands that are accepted one after another, and what holds before and after each.
use Rattle.std.proofs.Common.{◌≡◌, ℕ, ◌+◌, ◌<◌, true, List, [], ◌∷◌, ◌++◌, None, Ok, length, refl, sym, ap, ◌∙◌, subst, arith}
use Rattle.std.specs.Prelude.{nat_lt}
use Rattle.std.specs.Result.{result_err}
use Rattle.std.proofs.lemmas.Bool.Decides.{nat_tests}
use Rattle.std.proofs.lemmas.List.{length-append}
use Rattle.prt_command.specs.declared.request.Command.{Command}
use Rattle.prt_version.specs.Accepted.{IsAccepted}
use Rattle.prt_version.specs.Change.{apply, check, fold, put, put_if, refusal}
use Rattle.prt_version.specs.Sound.{IsSound}
use Rattle.prt_version.specs.State.{State}
use Rattle.prt_version.specs.declared.change.Change.{Change}
use Rattle.prt_version.specs.declared.change.Change.TheVariants as change
use Rattle.prt_version.proofs.Successor.{next_sound}
use Rattle.prt_diff.specs.Between.{EachState}

accepted_both : (state : State) (first second : List Command) → IsAccepted state first → IsAccepted (fold state first) second → IsAccepted state (first ++ second)
accepted_both state [] second one two = two
accepted_both state (command ∷ first) second one two = (one.0, accepted_both (apply state command) first second one.1 two)

fold_both : (state : State) (first second : List Command) → fold state (first ++ second) ≡ fold (fold state first) second
fold_both state [] second = refl
fold_both state (command ∷ first) second = fold_both (apply state command) first second

each_more : (P : State → Type 0) (state : State) (commands : List Command) (command : Command) → EachState P state commands → P (fold state (commands ++ command ∷ [])) → EachState P state (commands ++ command ∷ [])
each_more P state [] command each last = (each, last)
each_more P state (first ∷ commands) command each last = (each.0, each_more P (apply state first) commands command each.1 last)

pub each_state : (P Q : State → Type 0) → ((state : State) → P state → Q state) → (state : State) (commands : List Command) → EachState P state commands → EachState Q state commands
each_state P Q gives state [] each = gives state each
each_state P Q gives state (command ∷ commands) each = (gives state each.0, each_state P Q gives (apply state command) commands each.1)

put_count : (state : State) (made : Change) → (put state made).count ≡ state.count + 1
put_count state (change.Route edit) = refl
put_count state (change.RouteAdd route) = refl
put_count state (change.RulePut rule) = refl
put_count state (change.RuleDrop id) = refl
put_count state change.RuleFlush = refl

pub put_sound : (state : State) (command : Command) (made : Change) → IsSound state → check state command ≡ Ok made → IsSound (put state made)
put_sound state command made sound is =
    subst (λ n. IsSound (record { count = n; rules = (put state made).rules; routes = (put state made).routes })) (sym (put_count state made))
    (next_sound state state made (put state made).rules (put state made).routes refl sound (record { command = command; makes = is }) refl refl)

-- The commands lead there, and this holds before and after each.
pub record Leads (P : State → Type 0) (found : State) (commands : List Command) (after : State) : Type 0 where
  pub accepted : IsAccepted found commands
  pub makes : fold found commands ≡ after
  pub each : EachState P found commands
  pub sound : IsSound after
  pub count : after.count ≡ found.count + length commands

pub leads_nowhere : (P : State → Type 0) (found : State) → IsSound found → P found → Leads P found [] found
leads_nowhere P found sound holds = record { accepted = tt; makes = refl; each = holds; sound = sound; count = omega arith }

pub leads_on : (P : State → Type 0) (found state : State) (commands : List Command) (command : Command) (made : Change) → Leads P found commands state → check state command ≡ Ok made → P (put state made) → Leads P found (commands ++ command ∷ []) (put state made)
leads_on P found state commands command made leads is holds =
    let allowed : refusal state command ≡ None = ap result_err is in
    let next : apply state command ≡ put state made = ap (put_if state) is in
    let makes : fold found (commands ++ command ∷ []) ≡ put state made = fold_both found commands (command ∷ []) ∙ ap (λ s. fold s (command ∷ [])) leads.makes ∙ next in
    let l : length (commands ++ command ∷ []) ≡ length commands + length (command ∷ []) = length-append commands (command ∷ []) in
    let before = leads.count in
    let more = put_count state made in
    record {
      accepted = accepted_both found commands (command ∷ []) leads.accepted (subst (λ s. IsAccepted s (command ∷ [])) (sym leads.makes) (allowed, tt));
      makes = makes;
      each = each_more P found commands command leads.each (subst P (sym makes) holds);
      sound = put_sound state command made leads.sound is;
      count = omega (arith, l, before, more);
    }

pub has_room : (n most : ℕ) → n < most → nat_lt n most ≡ true
has_room n most below = grind (arith, nat_tests)
