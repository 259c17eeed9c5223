-- Tables that were made those that are wanted.
use Rattle.std.proofs.Common.{◌≡◌, ◌∙◌, ℕ, List, Bool, true, false, refl, sym, ap, subst}
use Rattle.sqlite.specs.Held.{Held}
use Rattle.sqlite.specs.Store.{Ghosts}
use Rattle.prt_command.specs.declared.request.Command.{Command}
use Rattle.prt_diff.specs.Apply.Brings.{AreAlike}
use Rattle.prt_diff.specs.Apply.Plan.{plan}
use Rattle.prt_diff.proofs.Applying.Room.{accepted_leaves}
use Rattle.prt_publisher.specs.Openings.{OpensOne}
use Rattle.prt_publisher.specs.Standing.{Standing}
use Rattle.prt_publisher.specs.declared.phase.Phase.TheVariants.{Ready}
use Rattle.prt_published.specs.Line.{line_state}
use Rattle.prt_version.specs.Accepted.{IsAccepted}
use Rattle.prt_version.specs.Change.{fold}
use Rattle.prt_version.specs.Sound.{IsSound}
use Rattle.prt_version.specs.State.{State}
use Rattle.prt_questions.specs.Applying.{AreStoredTogether, IsPlanText, Leaves, MakesTables}
use Rattle.prt_questions.specs.Tried.{IsTriedFor, IsTriedWith}
use Rattle.prt_questions.specs.declared.apply_remote.Tried.{Tried}
use Rattle.prt_questions.specs.declared.apply_remote.Tried.TheVariants.{Failed, Moved, Text}

-- the commands of the plan were accepted, so they made the tables those that are wanted
pub brought : (found wanted shown : State) (commands slice : List Command) (end : State) → shown ≡ found → IsSound shown → IsSound wanted → commands ≡ plan shown wanted → slice ≡ commands
    → IsAccepted found slice → end ≡ fold found slice → AreAlike end wanted
brought found wanted shown commands slice end is sound wanted_sound planned same accepted made =
    let all : slice ≡ plan found wanted = same ∙ planned ∙ ap (λ s. plan s wanted) is in
    subst (λ s. AreAlike s wanted) (sym (made ∙ ap (fold found) all))
    (accepted_leaves found wanted (subst IsSound is sound) wanted_sound (subst (IsAccepted found) all accepted))

-- what a publisher leaves, by whether the changes were only planned
pub makes_tables : {S : Type 0} {g : Ghosts S} {begun : Standing (Held S)} {last : Held S} (is_dry_run : Bool) (wanted : State) (left : Leaves g begun last)
    → (is_dry_run ≡ true → left.done ≡ begun) → (is_dry_run ≡ false → (left.done.phase ≡ Ready) × AreAlike (line_state left.done.line) wanted)
    → (is_dry_run ≡ false → AreStoredTogether g begun (plan (line_state begun.line) wanted) left.done) → MakesTables is_dry_run wanted left
makes_tables true wanted left same made together = same refl
makes_tables false wanted left same made together = ((made refl).0, (made refl).1, together refl)

-- the publisher was opened over the tables that were found
pub over_found : {S : Type 0} (g : Ghosts S) (IsFound : Held S → Type 0) (begun : Standing (Held S)) (opens : OpensOne g IsFound begun) → OpensOne g (λ was. was ≡ opens.was) begun
over_found g IsFound begun opens = record { was = opens.was; found = refl; format = opens.format; opened = opens.opened; begun = opens.begun }

-- what was tried with the text of a plan
pub tried_with : (tells done : State → Type 0) (Done : Type 0) (shows : Bool) (told wanted : State) (planned : List ℕ) (tried : Tried) → tells told → IsPlanText shows told wanted planned → (Done → done told) → IsTriedWith Done planned tried → IsTriedFor tells done shows wanted tried
tried_with tells done Done shows told wanted planned (Text text) tells_it plans does is = (told, tells_it, does is.1, subst (IsPlanText shows told wanted) (sym is.0) plans)
tried_with tells done Done shows told wanted planned Moved tells_it plans does is = tt
tried_with tells done Done shows told wanted planned (Failed status) tells_it plans does is = is
