-- Texts that are appended.
use Rattle.std.proofs.Common.{◌≡◌, ℕ, List, ◌++◌, ap, ◌∙◌, append_assoc}
use Rattle.std.specs.Prelude.{Result, Ok, Err, OnOk}

-- what follows from an outcome's fact
pub then_ok : {T E : Type 0} (result : Result T E) {P Q : Type 0} → (P → Q) → OnOk result P → OnOk result Q
then_ok (Ok value) gives held = gives held
then_ok (Err reason) gives held = tt

pub pushed_three : (old one two new first second third : List ℕ) → one ≡ old ++ first → two ≡ one ++ second → new ≡ two ++ third → new ≡ old ++ ((first ++ second) ++ third)
pushed_three old one two new first second third a b c =
    c ∙ ap (λ xs. xs ++ third) (b ∙ ap (λ xs. xs ++ second) a ∙ append_assoc old first second) ∙ append_assoc old (first ++ second) third
