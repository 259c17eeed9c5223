-- What several changes make, one after the other in one transaction.
use Rattle.std.proofs.Common.{◌≡◌, ℕ, ◌+◌, ◌<◌, ◌≤◌, ◌^◌, List, [], ◌∷◌, length, Ok, refl, sym, subst, ◌∙◌, arith}
use Rattle.std.specs.List.{AllByRecursion as Each}
use Rattle.sqlite.specs.Effect.{Database}
use Rattle.sqlite.specs.Held.{Held, state}
use Rattle.sqlite.specs.Schema.{Schema}
use Rattle.sqlite.specs.State.{Executes}
use Rattle.sqlite.specs.Store.{Ghosts}
use Rattle.sqlite_rules.specs.Lists.{Has}
use Rattle.prt_rows.specs.Format.{IsFormat2}
use Rattle.prt_rows.specs.Kept.{count_values}
use Rattle.prt_rows.specs.Statements.{set_count}
use Rattle.prt_version.specs.Change.{put}
use Rattle.prt_version.specs.Sound.{IsSound}
use Rattle.prt_version.specs.State.{State}
use Rattle.prt_version.specs.declared.change.Change.{Change}
use Rattle.prt_version.specs.declared.limits.TheConstants.{MOST_COMMANDS}
use Rattle.prt_store.proofs.Changes.{Holds, IsChanged, changed_by, holds}
use Rattle.prt_store.proofs.Commits.{counted}
use Rattle.prt_store.proofs.Nexts.{next_is_sound, next_storable, number_is, small_ids}
use Rattle.prt_store.specs.Made.{MakesChanges, WritesAll}
use Rattle.prt_store.specs.Next.{AreMade, AreNext, IsNext, MakesNext, put_all}
use Rattle.prt_store.specs.Openings.{HasDone, begun_from}
use Rattle.prt_store.specs.Stored.{FitsTables, Stores}
use Rattle.prt_store.specs.Written.{HasStorableIds, IsTyped}

first_next : (before : State) (made : Change) (more : List Change) → IsSound before → AreMade before (made ∷ more) → IsNext before made (before.count + 1)
first_next before made more sound all = record { sound = sound; command = all.0.0; storable = all.0.1; makes = all.0.2; counts = refl }

-- the state after all of them is sound, and has the last number
sound_all : (before : State) (changes : List Change) → IsSound before → AreMade before changes → IsSound (put_all before changes)
sound_all before [] sound all = sound
sound_all before (made ∷ more) sound all =
    let next = first_next before made more sound all in
    sound_all (put before made) more (next_is_sound before made (before.count + 1) next) all.1

count_all : (before : State) (changes : List Change) → IsSound before → AreMade before changes → (put_all before changes).count ≡ before.count + length changes
count_all before [] sound all = omega arith
count_all before (made ∷ more) sound all =
    let next = first_next before made more sound all in
    let one : before.count + 1 ≡ (put before made).count = number_is before made (before.count + 1) next in
    let rest = count_all (put before made) more (next_is_sound before made (before.count + 1) next) all.1 in
    omega (arith, one, rest)

-- what an integer of the file can be
pub small_numbers : (before : State) (changes : List Change) (number : ℕ) → AreNext before changes number → number < 2 ^ 63
small_numbers before changes number next =
    let is = count_all before changes next.sound next.made in
    let fits : (put_all before changes).count ≤ MOST_COMMANDS = (sound_all before changes next.sound next.made).count_fits in
    let numbered = next.counts in
    omega (arith, is, fits, numbered)

pub small_ids_all : (before : State) (changes : List Change) → IsSound before → AreMade before changes → Each HasStorableIds changes
small_ids_all before [] sound all = tt
small_ids_all before (made ∷ more) sound all =
    let next = first_next before made more sound all in
    (small_ids before made (before.count + 1) next, small_ids_all (put before made) more (next_is_sound before made (before.count + 1) next) all.1)

-- it fits the tables
fits_all : (before : State) (changes : List Change) → FitsTables before → AreMade before changes → Each IsTyped changes → FitsTables (put_all before changes)
fits_all before [] fits all typed = fits
fits_all before (made ∷ more) fits all typed =
    let next = first_next before made more fits.sound all in
    fits_all (put before made) more (next_storable before made (before.count + 1) next fits typed.0) all.1 typed.1

-- two changes in a row
chained : (old mid last : Database) (next final : State) → IsChanged old mid next → IsChanged mid last final → IsChanged old last final
chained old mid last next final one two = record {
  schema = two.schema ∙ one.schema;
  kept = two.kept;
  count = two.count ∙ one.count;
  others = λ table there no_rules no_routes no_lengths. two.others table (subst (λ (s : Schema). Has s.tables table) (sym one.schema) there) no_rules no_routes no_lengths ∙ one.others table there no_rules no_routes no_lengths;
}

unchanged : (db : Database) (before : State) → Holds db before → IsChanged db db before
unchanged db before held = record {
  schema = refl;
  kept = held.kept;
  count = refl;
  others = λ table there no_rules no_routes no_lengths. refl;
}

changed_all : {S : Type 0} (g : Ghosts S) (old last : Held S) (before : State) (changes : List Change) → Holds (state g old).now before → AreMade before changes → Each IsTyped changes → WritesAll g changes old last
    → IsChanged (state g old).now (state g last).now (put_all before changes)
changed_all g old last before [] held all typed same = subst (λ h. IsChanged (state g old).now (state g h).now before) (sym same) (unchanged (state g old).now before held)
changed_all g old last before (made ∷ more) held all typed did =
    let mid = did.0 in
    let one = changed_by g made old mid before held typed.0 did.1 in
    let next = first_next before made more held.fits.sound all in
    let after : Holds (state g mid).now (put before made) =
    record { tables = subst IsFormat2 (sym one.schema) held.tables; kept = one.kept; fits = next_storable before made (before.count + 1) next held.fits typed.0 } in
    chained (state g old).now (state g mid).now (state g last).now (put before made) (put_all before (made ∷ more)) one (changed_all g mid last (put before made) more after all.1 typed.1 did.2)

-- what was done makes the state after all changes of what was stored
pub makes_all_next : {S : Type 0} (g : Ghosts S) (changes : List Change) (number : ℕ) (old : Held S) (db : Database) (before : State) → AreNext before changes number → Each IsTyped changes → Stores (state g old).now before
    → HasDone g (MakesChanges g changes number) old db → MakesNext (state g old).now (put_all before changes) db
makes_all_next g changes number old db before next typed held done =
    let start = state g (begun_from old) in
    let last = state g done.0 in
    let mid = done.1.0 in
    let count = done.1.2 in
    let half = changed_all g (begun_from old) mid before changes (holds start.now before held) next.made typed done.1.1 in
    let numbered : number ≡ (put_all before changes).count = next.counts ∙ sym (count_all before changes held.fits.sound next.made) in
    let ran = subst (λ n. Executes set_count (count_values n) (state g mid) last (Ok count.0)) numbered count.1 in
    subst (MakesNext start.now (put_all before changes)) (sym done.2) (counted start (state g mid) last before (put_all before changes) held half (fits_all before changes held.fits next.made typed) count.0 ran)
