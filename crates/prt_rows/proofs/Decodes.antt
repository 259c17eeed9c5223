-- What is written in one way only is read back; lists are read member by member.
use Rattle.std.proofs.Common.{◌≡◌, ◌<◌, ◌+◌, ℕ, List, [], ◌∷◌, ◌++◌, All, Any, Some, None, get_or, length, map, take, refl, sym, ap, ◌∙◌}
use Rattle.std.proofs.lemmas.List.{get_or-map, length-map, map-append, map_more, take-map}
use Rattle.std.proofs.lemmas.List.Elements.{All-push}
use Rattle.prt_rows.specs.Decodes.{Decodes, ReadsBack}

pub reads_back : {V X : Type 0} (write : X → V) (Fits : X → Type 0) → ((x y : X) → Fits x → Fits y → write x ≡ write y → x ≡ y) → ReadsBack write Fits
reads_back write Fits same x fits None none = absurd (none x fits refl)
reads_back write Fits same x fits (Some y) is = ap Some (sym (same x y fits is.0 is.1))

module _ {R V X : Type 0} (write : X → V) (Fits : X → Type 0) (part : R → V) (rows : List R) (at : ℕ) (row : R) (within : at < length rows) (here : row ≡ get_or rows at row) where
  -- the values of the members so far, and the next one
  pub one_more : (olds news : List X) (x : X) → Decodes write Fits (part row) (Some x) → news ≡ olds ++ x ∷ []
      → Decodes (map write) (All Fits) (take at (map part rows)) (Some olds) → Decodes (map write) (All Fits) (take (at + 1) (map part rows)) (Some news)
  one_more olds news x is more so_far =
      rw more (
        All-push Fits olds x so_far.0 is.0,
        take-map part (at + 1) rows ∙ map_more part rows at row within ∙ ap (λ r. map part (take at rows) ++ part r ∷ []) (sym here) ∙ ap (λ v. map part (take at rows) ++ v ∷ []) is.1
            ∙ ap (λ vs. vs ++ write x ∷ []) (sym (take-map part at rows) ∙ so_far.1) ∙ sym (map-append write olds (x ∷ [])),
      )

  -- one of the members is not decoded
  pub none_here : Decodes write Fits (part row) None → Any (λ v. Decodes write Fits v None) (map part rows)
  none_here none = (at, part row, rw (length-map rows part) within, get_or-map part rows at row (part row) within ∙ ap part (sym here), none)
