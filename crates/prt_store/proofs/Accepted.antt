-- The changes of accepted commands may be committed together.
use Rattle.std.proofs.Common.{◌≡◌, ℕ, suc, ◌+◌, List, [], ◌∷◌, length, None, Result, Ok, Err, refl, sym, ap, subst, ◌∙◌, arith}
use Rattle.std.proofs.lemmas.List.Elements.{All-head, All-tail}
use Rattle.std.specs.Prelude.{All}
use Rattle.std.specs.Result.{result_err}
use Rattle.prt_refusals.specs.declared.refusal.Refusal.{Refusal}
use Rattle.prt_command.specs.Storable.{IsStorable}
use Rattle.prt_command.specs.declared.request.Command.{Command}
use Rattle.prt_version.specs.Accepted.{IsAccepted, changes_of, with_made}
use Rattle.prt_version.specs.Change.{apply, check, fold, put, put_if}
use Rattle.prt_version.specs.Sound.{IsSound}
use Rattle.prt_version.specs.State.{State}
use Rattle.prt_version.specs.declared.change.Change.{Change}
use Rattle.prt_store.specs.Next.{AreMade, AreNext, put_all}

-- the first change, then those after it
made_first : (r : Result Change Refusal) (rest : List Change) → result_err r ≡ None → (made : Change) × (r ≡ Ok made) × (with_made r rest ≡ made ∷ rest)
made_first (Ok made) rest allowed = (made, refl, refl)
made_first (Err reason) rest allowed = absurd (cc allowed)

-- changes of accepted commands are those that a store takes, and lead to the state after the commands
pub are_made : (published : State) (commands : List Command) → All IsStorable commands → IsAccepted published commands → AreMade published (changes_of published commands) × (put_all published (changes_of published commands) ≡ fold published commands)
are_made published [] storable accepted = (tt, refl)
are_made published (command ∷ commands) storable accepted =
    let mine : IsStorable command = All-head IsStorable command commands storable in
    let others : All IsStorable commands = All-tail IsStorable command commands storable in
    let first = made_first (check published command) (changes_of (apply published command) commands) accepted.0 in
    let after : put published first.0 ≡ apply published command = sym (ap (put_if published) first.1) in
    let rest = are_made (apply published command) commands others accepted.1 in
    subst (λ (changes : List Change). AreMade published changes × (put_all published changes ≡ fold (apply published command) commands)) (sym first.2)
    (subst (λ (state : State). (((c : Command) × IsStorable c × (check published c ≡ Ok first.0)) × AreMade state (changes_of (apply published command) commands)) × (put_all state (changes_of (apply published command) commands) ≡ fold (apply published command) commands)) (sym after)
    (((command, mine, first.1), rest.0), rest.1))

pub as_many : (published : State) (commands : List Command) → IsAccepted published commands → length (changes_of published commands) ≡ length commands
as_many published [] accepted = refl
as_many published (command ∷ commands) accepted =
    let first = made_first (check published command) (changes_of (apply published command) commands) accepted.0 in
    ap length first.2 ∙ ap suc (as_many (apply published command) commands accepted.1)

-- under the number of the state after them
pub are_next : (published : State) (commands : List Command) (number : ℕ) → IsSound published → All IsStorable commands → IsAccepted published commands → number ≡ published.count + length commands → AreNext published (changes_of published commands) number
are_next published commands number sound storable accepted counts =
    record { sound = sound; made = (are_made published commands storable accepted).0; counts = omega (arith, counts, as_many published commands accepted) }
