-- A fault that was reported, and an input that was left alone.
use Rattle.std.proofs.Common.{◌≡◌, ◌≢◌, ◌⊎◌, ◌∙◌, ℕ, arith, inl, inr, refl, sym, List, Option, Some, None, Result, Ok, Err}
use Rattle.std.specs.Prelude.{OnErr}
use Rattle.prt_addr.specs.Word.{Word}
use Rattle.prt_refusals.specs.declared.refusal.Refusal.{Refusal}
use Rattle.prt_program.specs.Faults.{IsDatabaseFault, IsFault, IsOpening, database_of}
use Rattle.prt_args.proofs.WordsRead.{either_status}
use Rattle.prt_args.specs.Faults.{IsStatusOf, fault_status}
use Rattle.prt_args.specs.Invocation.{Invocation, batch, check, replay}
use Rattle.prt_program.specs.Program.{IsUntouched, LeavesInput, LeavesInputFor, RunsNothing}
use Rattle.prt_args.specs.declared.fault.Fault.{Fault}
use Rattle.prt_args.specs.declared.fault.Fault.TheVariants.{Words, Opening, Listener}

module _ {D : Type 0} (refuses : D → D → Word → Refusal → Type 0) (old new : D) where
  pub untouched : (path : Option Word) → new ≡ old → IsUntouched refuses path old new
  untouched None same = same
  untouched (Some path) same = inl same

  -- words that ask for no run name no database
  same_databases : (asked : Invocation) (status : ℕ) → IsStatusOf asked status → IsUntouched refuses (database_of asked) old new → new ≡ old
  same_databases (batch script) status may left = absurd may
  same_databases (check file) status may left = absurd may
  same_databases (replay file) status may left = absurd may
  same_databases _ status may left = left

  pub reported : (asked : Invocation) (fault : Fault) (status : ℕ) (writer0 writer1 writer : Option (List ℕ)) → IsFault asked fault → status ≡ fault_status fault
      → writer1 ≡ writer0 → (status ≢ 0 → writer ≡ writer1) → IsUntouched refuses (database_of asked) old new → RunsNothing refuses old new asked writer0 writer status
  reported asked (Words error) status writer0 writer1 writer may is same kept left = go (either_status _)
    where
      stays : new ≡ old
      stays = same_databases asked (fault_status (Words error)) may left

      go : (fault_status (Words error) ≡ 0) ⊎ (fault_status (Words error) ≡ 2) → RunsNothing refuses old new asked writer0 writer status
      go (inl zero) = inl (rw is may, is ∙ zero, stays)
      go (inr two) = inr (inl (rw is may, is ∙ two, kept (λ zero. let bad : 2 ≡ 0 = sym (is ∙ two) ∙ zero in absurd (omega arith)) ∙ same, stays))
  reported asked (Opening reason) status writer0 writer1 writer may is same kept left =
      inr (inr (is, kept (λ zero. let bad : 3 ≡ 0 = sym is ∙ zero in absurd (omega arith)) ∙ same, left))
  reported asked Listener status writer0 writer1 writer may is same kept left = absurd may

unread_for : (file : Option Word) (input : Option (List ℕ)) → LeavesInputFor file input input
unread_for None input = tt
unread_for (Some path) input = refl

pub unread : (asked : Invocation) (input : Option (List ℕ)) → LeavesInput asked input input
unread (batch script) input = unread_for script.file input
unread (check file) input = unread_for file input
unread (replay file) input = unread_for file input
unread _ input = refl

-- what holds in any case holds at a fault
pub at_fault : {A E P : Type 0} (r : Result A E) → P → OnErr r P
at_fault (Ok value) holds = tt
at_fault (Err error) holds = holds

-- no database was opened, and that was reported
pub not_run : {D : Type 0} (refuses : D → D → Word → Refusal → Type 0) (old new : D) (path : Word) (fault : Fault) (status : ℕ) (writer0 writer1 writer : Option (List ℕ))
    → IsOpening (IsDatabaseFault (Some path)) fault → status ≡ fault_status fault → writer1 ≡ writer0 → (status ≢ 0 → writer ≡ writer1) → IsUntouched refuses (Some path) old new
    → (status ≡ 3) × (writer ≡ writer0) × IsUntouched refuses (Some path) old new
not_run refuses old new path (Words error) status writer0 writer1 writer may is same kept left = absurd may
not_run refuses old new path (Opening reason) status writer0 writer1 writer may is same kept left = (is, kept (λ zero. let bad : 3 ≡ 0 = sym is ∙ zero in absurd (omega arith)) ∙ same, left)
not_run refuses old new path Listener status writer0 writer1 writer may is same kept left = absurd may
