-- A text that is appended in two parts, if the second is.
use Rattle.std.proofs.Common.{◌≡◌, OnOk, ℕ, List, ◌++◌, Result, Ok, Err, ap, ◌∙◌, append_assoc}

pub appended : {T E : Type 0} (result : Result T E) (old mid new head text : List ℕ) → mid ≡ old ++ head → OnOk result (new ≡ mid ++ text) → OnOk result (new ≡ old ++ (head ++ text))
appended (Ok x) old mid new head text is e = e ∙ ap (λ xs. xs ++ text) is ∙ append_assoc old head text
appended (Err x) old mid new head text is e = tt
