-- Lines as they are written, part by part.
use Rattle.std.proofs.Common.{◌≡◌, ℕ, ◌+◌, ◌<◌, List, [], ◌∷◌, ◌++◌, Option, Some, None, Result, Ok, Err, OnOk, refl, sym, ap, ◌∙◌, append_assoc, length, map, take, get_or}
use Rattle.std.proofs.lemmas.List.{append-nil}
use Rattle.prt_listing.specs.Parts.{spaced}
use Rattle.prt_listing.proofs.Spaced.{parts-more}
use Rattle.prt_spelling.specs.Steps.{after_space, after_spaces}

-- the parts after a first one
pub spaced_after : (first : List ℕ) (parts : List (Option (List ℕ))) → spaced (Some first ∷ parts) ≡ first ++ after_spaces parts
spaced_after first [] = sym (append-nil first)
spaced_after first (None ∷ parts) = spaced_after first parts
spaced_after first (Some text ∷ parts) = ap (λ xs. first ++ 32 ∷ xs) (spaced_after text parts)

pub after_both : (parts others : List (Option (List ℕ))) → after_spaces (parts ++ others) ≡ after_spaces parts ++ after_spaces others
after_both [] others = refl
after_both (part ∷ parts) others = ap (λ xs. after_space part ++ xs) (after_both parts others) ∙ sym (append_assoc (after_space part) (after_spaces parts) (after_spaces others))

-- one part more
pub pushed_more : {X : Type 0} (f : X → Option (List ℕ)) (parts : List X) (i : ℕ) (part : X) (before old new : List ℕ) → i < length parts → part ≡ get_or parts i part → old ≡ before ++ after_spaces (map f (take i parts)) → new ≡ old ++ after_space (f part) → new ≡ before ++ after_spaces (map f (take (i + 1) parts))
pushed_more f parts i part before old new within is held pushed =
    pushed
    ∙ ap (λ xs. xs ++ after_space (f part)) held
    ∙ append_assoc before (after_spaces (map f (take i parts))) (after_space (f part))
    ∙ ap (λ xs. before ++ (after_spaces (map f (take i parts)) ++ xs)) (sym (append-nil (after_space (f part))))
    ∙ ap (λ xs. before ++ xs) (sym (after_both (map f (take i parts)) (f part ∷ [])))
    ∙ ap (λ parts. before ++ after_spaces parts) (sym (parts-more f parts i part within is))

-- ---- a line

-- what follows if a call succeeds
pub ok_then : {T E : Type 0} (r : Result T E) (P Q : Type 0) → (P → Q) → OnOk r P → OnOk r Q
ok_then (Ok x) P Q gives p = gives p
ok_then (Err e) P Q gives p = tt

-- a line is pushed in two pieces
pub line_pushed : (old one new pushed verb : List ℕ) (parts : List (Option (List ℕ))) → one ≡ old ++ pushed → pushed ≡ verb → new ≡ one ++ after_spaces parts → new ≡ old ++ spaced (Some verb ∷ parts)
line_pushed old one new pushed verb parts first is second =
    second
    ∙ ap (λ xs. xs ++ after_spaces parts) (first ∙ ap (λ xs. old ++ xs) is)
    ∙ append_assoc old verb (after_spaces parts)
    ∙ ap (λ xs. old ++ xs) (sym (spaced_after verb parts))

-- what is appended to nothing
pub appended : (old new line : List ℕ) → new ≡ old ++ line → old ≡ [] → new ≡ line
appended old new line is none = is ∙ ap (λ xs. xs ++ line) none
