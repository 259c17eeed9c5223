-- The exchange that adds commands keeps the rule.
use Rattle.std.proofs.Common.{◌≡◌, ℕ, ◌+◌, ◌-◌, ◌<◌, ◌==◌, Bool, true, false, List, [], ◌∷◌, ◌++◌, length, map, refl, ap, sym, subst, ◌∙◌, arith, inl, length-append, None}
use Rattle.std.proofs.lemmas.List.{append-nil}
use Rattle.std.proofs.lemmas.Bool.Decides.{nat_tests}
use mathlib.Core.List.{IsPrefix}
use prog.Atomic.{either}
use Rattle.logbook.specs.Pages.{Cell, cell, keeps, no_nib, step, Moves, Goes}
use Rattle.prt_version.specs.State.{State}
use Rattle.prt_version.specs.Accepted.{IsAccepted}
use Rattle.prt_version.specs.Change.{fold}
use Rattle.prt_command.specs.declared.request.Command.{Command}
use Rattle.prt_published.specs.declared.history.Entry.{Entry}
use Rattle.prt_published.specs.declared.history.Entry.TheVariants.{Accepted, Loaded}
use Rattle.prt_published.specs.History.{Adds, IsKept, IsLegal, asked_commands, entries}
use Rattle.prt_version.proofs.Folds.{accepted_append}
use Rattle.prt_published.proofs.Histories.{entries_grown, entries_length}
use Rattle.prt_published.proofs.Prefixes.{begins_whole}

abbrev pub shown : List Entry → List Entry
shown log = []

abbrev pub moved : List Entry → List Entry → ℕ → Type 0
moved xs ys n = Unit {0}

pub adds_goes : (log : List Entry) (s : State) (cs : List Command) (ask : Entry) (old : ℕ) → length cs ≡ old → IsAccepted (fold s cs) (asked_commands ask) → IsAccepted s cs → IsLegal log → IsPrefix (entries s cs) log
    → (b : Bool) → (length log - 1 == old) ≡ b
    → Goes IsKept shown moved 0 (entries s cs, (no_nib, None)) (λ n. either (n == old) (old + length (asked_commands ask)) n) (Adds (step 0 old (old + length (asked_commands ask)) ask) (entries s cs, (no_nib, None))) ((length log - 1, true) ∷ []) log
adds_goes log s cs ask old len may all legal pre true is =
    let here : length log - 1 ≡ old = grind (arith, nat_tests) in
    let some : 0 < length log = omega (arith, sym (ap length pre.1) ∙ length-append (entries s cs) pre.0) in
    let same : entries s cs ≡ log = begins_whole (entries s cs) log pre (omega (arith, entries_length cs)) in
    let more = asked_commands ask in
    let grown : log ++ map Accepted more ≡ entries s (cs ++ more) = ap (λ l. l ++ map Accepted more) (sym same) ∙ ap (λ l. Loaded s ∷ l) (entries_grown cs more) in
    let n : either (length log - 1 == old) (old + length more) (length log - 1) ≡ length (log ++ map Accepted more) - 1 = rw is (omega (arith, length-append log (map Accepted more), entries_length more)) in (
      keeps,
      map Accepted more,
      None,
      tt,
      record { words = ap (λ (k : ℕ). (k, true) ∷ []) n; legal = record { base = s; list = cs ++ more; is = grown; accepted = accepted_append s cs more all may } },
      inl (refl, refl),
      rw is (ap (λ w. w ++ map Accepted more) (sym same)),
    )
adds_goes log s cs ask old len may all legal pre false is =
    let whole : log ++ [] ≡ log = append-nil log in
    let legal' : IsLegal (log ++ []) = subst IsLegal (sym whole) legal in
    let n : either (length log - 1 == old) (old + length (asked_commands ask)) (length log - 1) ≡ length (log ++ []) - 1 = rw is (ap (λ (l : List Entry). length l - 1) (sym whole)) in (
      keeps,
      [],
      None,
      tt,
      record { words = ap (λ (k : ℕ). (k, true) ∷ []) n; legal = legal' },
      inl (refl, refl),
      rw is tt,
    )

-- whatever the history is, the exchange adds the commands to all that was seen, or finds another length
pub adds_moves : (s : State) (cs : List Command) (ask : Entry) (old : ℕ) → length cs ≡ old → IsAccepted (fold s cs) (asked_commands ask) → IsAccepted s cs
    → Moves IsKept shown moved 0 (entries s cs, (no_nib, None)) (λ n. either (n == old) (old + length (asked_commands ask)) n) (Adds (step 0 old (old + length (asked_commands ask)) ask) (entries s cs, (no_nib, None)))
adds_moves s cs ask old len may all cells log kept pre away =
    let P : List Cell → Type 0 = λ k. (0 < length k) × ((cell k 0).1 ≡ true) × Goes IsKept shown moved 0 (entries s cs, (no_nib, None)) (λ n. either (n == old) (old + length (asked_commands ask)) n) (Adds (step 0 old (old + length (asked_commands ask)) ask) (entries s cs, (no_nib, None))) k log in
    subst P (sym kept.words) (omega arith, refl, adds_goes log s cs ask old len may all kept.legal pre (length log - 1 == old) refl)
