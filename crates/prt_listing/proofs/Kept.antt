-- What failed pushes leave.
use Rattle.std.proofs.Common.{◌≡◌, ℕ, List, ◌++◌, ◌∙◌, ap, append_assoc, Result, Ok, Err, OnErr}
use Rattle.prt_listing.specs.Keeps.{Keeps}

-- a text was pushed before the push that failed
pub keeps_before : (old text middle new : List ℕ) → middle ≡ old ++ text → Keeps middle new → Keeps old new
keeps_before old text middle new pushed kept = record {
  added = text ++ kept.added;
  whole = kept.whole ∙ ap (λ xs. xs ++ kept.added) pushed ∙ append_assoc old text kept.added;
}

-- what holds anyhow holds after a failure
pub anyhow : {T E : Type 0} (result : Result T E) (P : Type 0) → P → OnErr result P
anyhow (Ok value) P holds = tt
anyhow (Err reason) P holds = holds

-- a text was pushed before the last push
pub keeps_before_one : {T E : Type 0} (result : Result T E) (old text middle new : List ℕ) → middle ≡ old ++ text → OnErr result (Keeps middle new) → OnErr result (Keeps old new)
keeps_before_one (Ok value) old text middle new pushed kept = tt
keeps_before_one (Err reason) old text middle new pushed kept = keeps_before old text middle new pushed kept

-- two texts were pushed before the last push
pub keeps_before_two : {T E : Type 0} (result : Result T E) (old one two first second new : List ℕ) → first ≡ old ++ one → second ≡ first ++ two → OnErr result (Keeps second new) → OnErr result (Keeps old new)
keeps_before_two (Ok value) old one two first second new pushed_one pushed_two kept = tt
keeps_before_two (Err reason) old one two first second new pushed_one pushed_two kept =
    keeps_before old one first new pushed_one (keeps_before first two second new pushed_two kept)
