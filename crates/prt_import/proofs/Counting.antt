-- What is counted of remarks.
use Rattle.std.proofs.Common.{◌≡◌, ℕ, ◌+◌, OnOk, Result, Ok, Err, cond, false, List, [], ◌∷◌, ◌++◌, map, refl, sym, ap, ◌∙◌, arith, inl, inr}
use Rattle.std.proofs.lemmas.Bool.{cases_Bool}
use Rattle.std.proofs.lemmas.Bool.Decides.{nat_tests}
use Rattle.std.specs.List.{count_by, fold}
use Rattle.std.specs.Prelude.{◌==◌, codes}
use Rattle.prt_import.specs.Comments.{comment, count_body, count_comment, kernel_routes}
use Rattle.prt_import.specs.Told.{is_kernel_made, remark_of}
use Rattle.prt_import.specs.declared.omitted_line.OmittedLine.{OmittedLine}

fold_map : {A X Y : Type 0} (f : A → Y → A) (g : X → Y) (a : A) (xs : List X) → fold f a (map g xs) ≡ fold (λ a x. f a (g x)) a xs
fold_map f g a [] = refl
fold_map f g a (x ∷ xs) = fold_map f g (f a (g x)) xs

-- as many of the remarks are of routes that the kernel makes as of the lines
pub same_count : (left : List OmittedLine) → count_by (λ r. is_kernel_made r.reason) (map remark_of left) ≡ kernel_routes left
same_count left = fold_map (λ n r. n + cond (is_kernel_made r.reason) 1 0) remark_of 0 left

-- ---- the comment with the count

some_line : (n : ℕ) → ((n == 0) ≡ false) → count_comment n ≡ comment (count_body n) ++ codes "\n"
some_line n some = simp some refl

-- a line that was pushed is that comment
pub counted : {T E : Type 0} (result : Result T E) (n : ℕ) (old new line body : List ℕ) → (n ≡ 0 → ⊥) → body ≡ count_body n → line ≡ comment body → OnOk result (new ≡ old ++ (line ++ codes "\n")) → OnOk result (new ≡ old ++ count_comment n)
counted (Err e) n old new line body some b l pushed = tt
counted (Ok x) n old new line body some b l pushed = elim (cases_Bool (n == 0)) [
  | inl e ↦ let is : n ≡ 0 = grind (arith, nat_tests, e) in absurd (some is)
  | inr e ↦ pushed ∙ ap (λ t. old ++ (t ++ codes "\n")) (l ∙ ap comment b) ∙ ap (λ t. old ++ t) (sym (some_line n e))
]
