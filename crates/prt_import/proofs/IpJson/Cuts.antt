-- The first part of a text.
use Rattle.std.proofs.Common.{◌≡◌, ℕ, zero, suc, ◌+◌, ◌<◌, ◌≤◌, ◌==◌, true, false, if◌then◌else◌, List, [], ◌∷◌, ◌++◌, length, take, drop, get_or, refl, sym, ap, ap₂, ◌∙◌, arith}
use Rattle.std.proofs.lemmas.List.{drop_all, drop_more, take_all, take_more}
use Rattle.std.specs.List.{onto_first}
use Rattle.prt_import.specs.IpJson.Documents.{depth_after, ends, mode_after, parts_from}
use Rattle.prt_import.specs.declared.ip_json.cut.Mode.{Mode}
use Rattle.prt_import.specs.declared.ip_json.cut.Mode.TheVariants.{Between}

-- these bytes before the first part
abbrev pub before : List ℕ → List (List ℕ) → List (List ℕ)
before [] parts = parts
before (b ∷ bs) parts = onto_first b (before bs parts)

before-last : (front : List ℕ) (b : ℕ) (parts : List (List ℕ)) → before (front ++ b ∷ []) parts ≡ before front (onto_first b parts)
before-last [] b parts = refl
before-last (c ∷ front) b parts = ap (onto_first c) (before-last front b parts)

before-part : (front part : List ℕ) (parts : List (List ℕ)) → before front (part ∷ parts) ≡ (front ++ part) ∷ parts
before-part [] part parts = refl
before-part (c ∷ front) part parts = ap (onto_first c) (before-part front part parts)

before-nothing : (c : ℕ) (front : List ℕ) → before (c ∷ front) [] ≡ (c ∷ front) ∷ []
before-nothing c [] = refl
before-nothing c (d ∷ front) = ap (onto_first c) (before-nothing d front)

-- the whole text is one part
pub whole : (text : List ℕ) → 0 < length text → before text [] ≡ text ∷ []
whole [] some = absurd (omega (arith, some))
whole (c ∷ front) some = before-nothing c front

-- a text that was gone through
pub gone_through : (text : List ℕ) (at depth : ℕ) (mode : Mode) → 0 < length text → length text ≤ at → before (take at text) (parts_from depth mode (drop at text)) ≡ text ∷ []
gone_through text at depth mode some over =
    ap₂ (λ front back. before front (parts_from depth mode back)) (take_all at text over) (drop_all at text over) ∙ whole text some

-- a byte that ends a part
pub ended : (text : List ℕ) (at d depth : ℕ) (mode : Mode) → at < length text → ends depth mode (get_or text at d) ≡ true → before (take at text) (parts_from depth mode (drop at text)) ≡ take (at + 1) text ∷ parts_from 0 Between (drop (at + 1) text)
ended text at d depth mode within end =
    let b = get_or text at d in
    let rest = parts_from 0 Between (drop (at + 1) text) in
    ap (λ bs. before (take at text) (parts_from depth mode bs)) (drop_more text at d within)
    ∙ ap (λ x. before (take at text) (if x then (b ∷ []) ∷ rest else onto_first b (parts_from (depth_after depth mode b) (mode_after mode b) (drop (at + 1) text)))) end
    ∙ before-part (take at text) (b ∷ []) rest
    ∙ ap (λ bs. bs ∷ rest) (sym (take_more text at d within))

-- a byte that ends no part
pub gone_on : (text : List ℕ) (at d depth : ℕ) (mode : Mode) → at < length text → ends depth mode (get_or text at d) ≡ false → before (take at text) (parts_from depth mode (drop at text)) ≡ before (take (at + 1) text) (parts_from (depth_after depth mode (get_or text at d)) (mode_after mode (get_or text at d)) (drop (at + 1) text))
gone_on text at d depth mode within end =
    let b = get_or text at d in
    let rest = parts_from (depth_after depth mode b) (mode_after mode b) (drop (at + 1) text) in
    ap (λ bs. before (take at text) (parts_from depth mode bs)) (drop_more text at d within)
    ∙ ap (λ x. before (take at text) (if x then (b ∷ []) ∷ parts_from 0 Between (drop (at + 1) text) else onto_first b rest)) end
    ∙ sym (before-last (take at text) b rest)
    ∙ ap (λ bs. before bs rest) (sym (take_more text at d within))

-- of a text that is not empty
pub some_of : (n : ℕ) → n == 0 ≡ false → 0 < n
some_of zero h = absurd cc
some_of (suc n) h = omega arith
