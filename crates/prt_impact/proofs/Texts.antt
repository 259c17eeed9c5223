-- Texts that are appended one after the other.
use Rattle.std.proofs.Common.{◌≡◌, ℕ, List, ◌++◌, ap, ◌∙◌, append_assoc}

-- one text, and then the next one
pub appended : (old text next one new : List ℕ) → one ≡ old ++ text → new ≡ one ++ next → new ≡ old ++ (text ++ next)
appended old text next one new first second = second ∙ ap (λ xs. xs ++ next) first ∙ append_assoc old text next
