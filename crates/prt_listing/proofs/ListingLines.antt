-- One line more of a listing.
use Rattle.std.proofs.Common.{◌≡◌, ℕ, ◌+◌, ◌<◌, List, [], ◌∷◌, ◌++◌, sym, ap, ◌∙◌, append_assoc, length, take, map, get_or}
use Rattle.std.proofs.lemmas.List.{append-nil, take_more, map-append}
use Rattle.std.specs.Prelude.{codes}
use Rattle.prt_listing.specs.QueryText.{lines_text}

lines-more : (lines : List (List ℕ)) (line : List ℕ) → lines_text (lines ++ line ∷ []) ≡ lines_text lines ++ (line ++ codes "\n")
lines-more [] line = append-nil (line ++ codes "\n")
lines-more (first ∷ lines) line =
    ap (λ xs. (first ++ codes "\n") ++ xs) (lines-more lines line)
    ∙ sym (append_assoc (first ++ codes "\n") (lines_text lines) (line ++ codes "\n"))

-- the rows before the next one, and that one
rows-more : {X : Type 0} (f : X → List ℕ) (rows : List X) (i : ℕ) (row : X) → i < length rows → row ≡ get_or rows i row → map f (take (i + 1) rows) ≡ map f (take i rows) ++ f row ∷ []
rows-more f rows i row within is =
    ap (map f) (take_more rows i row within)
    ∙ map-append f (take i rows) (get_or rows i row ∷ [])
    ∙ ap (λ x. map f (take i rows) ++ f x ∷ []) (sym is)

-- after the lines of the rows so far, the line of the next row
pub listed_more : {X : Type 0} (f : X → List ℕ) (rows : List X) (i : ℕ) (row : X) (before old new : List ℕ) → i < length rows → row ≡ get_or rows i row → old ≡ before ++ lines_text (map f (take i rows)) → new ≡ old ++ (f row ++ codes "\n") → new ≡ before ++ lines_text (map f (take (i + 1) rows))
listed_more f rows i row before old new within is held pushed =
    pushed
    ∙ ap (λ xs. xs ++ (f row ++ codes "\n")) held
    ∙ append_assoc before (lines_text (map f (take i rows))) (f row ++ codes "\n")
    ∙ ap (λ xs. before ++ xs) (sym (lines-more (map f (take i rows)) (f row)))
    ∙ ap (λ lines. before ++ lines_text lines) (sym (rows-more f rows i row within is))
