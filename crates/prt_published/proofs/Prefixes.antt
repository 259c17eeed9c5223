-- Beginnings of one list.
use Rattle.std.proofs.Common.{◌≡◌, ◌≤◌, List, [], ◌∷◌, ◌++◌, length, refl, sym, ap, ◌∙◌, append_assoc, arith}
use Rattle.std.proofs.lemmas.List.{append-nil}
use mathlib.Core.List.{IsPrefix}
use Rattle.prt_published.specs.Line.{Begins, Line}

prefix_trans : {A : Type 0} (xs ys zs : List A) → IsPrefix xs ys → IsPrefix ys zs → IsPrefix xs zs
prefix_trans xs ys zs p q = (p.0 ++ q.0, sym (append_assoc xs p.0 q.0) ∙ (ap (λ w. w ++ q.0) p.1 ∙ q.1))

-- a line is a prefix of itself
pub begins_self : (l : Line) → Begins l l
begins_self l = (refl, refl, ([], append-nil l.list))

-- a prefix of a prefix is a prefix of the line
pub begins_trans : (l m n : Line) → Begins l m → Begins m n → Begins l n
begins_trans l m n p q = (q.0 ∙ p.0, q.1 ∙ p.1, prefix_trans l.list m.list n.list p.2 q.2)

-- of two prefixes of one list the shorter is a prefix of the longer
pub shorter_begins : {A : Type 0} (xs ys whole : List A) → IsPrefix xs whole → IsPrefix ys whole → length xs ≤ length ys → IsPrefix xs ys
shorter_begins [] ys whole p q shorter = (ys, refl)
shorter_begins (x ∷ xs) [] whole p q shorter = absurd (omega arith)
shorter_begins (x ∷ xs) (y ∷ ys) [] p q shorter = absurd (cc (p.1))
shorter_begins (x ∷ xs) (y ∷ ys) (first ∷ whole) p q shorter =
    let heads : x ≡ y = cc (p.1, q.1) in
    let rest = shorter_begins xs ys whole (p.0, cc (p.1)) (q.0, cc (q.1)) (omega arith) in
    (rest.0, cc (heads, rest.1))

-- a prefix as long as the whole is the whole
pub begins_whole : {A : Type 0} (xs whole : List A) → IsPrefix xs whole → length whole ≤ length xs → xs ≡ whole
begins_whole [] [] p longer = refl
begins_whole [] (first ∷ whole) p longer = absurd (omega arith)
begins_whole (x ∷ xs) [] p longer = absurd (cc (p.1))
begins_whole (x ∷ xs) (first ∷ whole) p longer =
    let rest = begins_whole xs whole (p.0, cc (p.1)) (omega arith) in
    cc (p.1, rest)
