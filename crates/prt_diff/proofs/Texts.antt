-- The text of commands, as it is written line by line.
use Rattle.std.proofs.Common.{◌≡◌, ℕ, zero, suc, ◌+◌, ◌<◌, Bool, true, false, not, List, [], ◌∷◌, ◌++◌, Some, find, sym, ap, ◌∙◌, arith, length, take, get_or}
use Rattle.std.specs.Prelude.{codes}
use Rattle.std.specs.List.{AllWithin}
use Rattle.std.proofs.lemmas.List.Elements.{AllWithin-more, at_read}
use Rattle.prt_command.specs.declared.request.Command.{Command}
use Rattle.prt_listing.proofs.ListingLines.{listed_more}
use Rattle.prt_spelling.specs.Line.{line_by}
use Rattle.prt_spelling.specs.Spelled.{is_spelled}
use Rattle.prt_spelling.specs.declared.form.NameForm.{NameForm}
use Rattle.prt_spelling.proofs.Found.{found_is_spelled}
use Rattle.prt_diff.specs.Text.{IsAskedFor, text_by}

-- one line more
pub line_more : (form : NameForm) (commands : List Command) (i : ℕ) (command : Command) (old new : List ℕ) → i < length commands → command ≡ get_or commands i command → old ≡ text_by form (take i commands) → new ≡ old ++ (line_by form command ++ codes "\n") → new ≡ text_by form (take (i + 1) commands)
line_more form commands i command old new inside is held pushed = listed_more (line_by form) commands i command [] old new inside is held pushed

pub asked_more : (form : NameForm) (commands : List Command) (i : ℕ) (command : Command) → i < length commands → command ≡ get_or commands i command → AllWithin (IsAskedFor form) commands 0 i → IsAskedFor form command → AllWithin (IsAskedFor form) commands 0 (i + 1)
asked_more form commands i command inside is so_far asked = AllWithin-more (IsAskedFor form) commands 0 i so_far (at_read commands (IsAskedFor form) i command inside is asked)

-- the first that passes
first_at : {X : Type 0} (p : X → Bool) (xs : List X) (i : ℕ) (x : X) → i < length xs → x ≡ get_or xs i x → AllWithin (λ y. p y ≡ false) xs 0 i → p x ≡ true → find p xs ≡ Some x
first_at p [] i x inside is before passes = absurd (omega arith)
first_at p (y ∷ ys) zero x inside is before passes = let here : p y ≡ true = ap p (sym is) ∙ passes in simp here (ap Some (sym is))
first_at p (y ∷ ys) (suc i) x inside is before passes =
    let fails : p y ≡ false = before zero y (omega arith) (omega arith) in
    simp fails (first_at p ys i x (omega arith) is (λ k d low high. before (suc k) d (omega arith) (omega arith)) passes)

-- the first that no line can express
pub first_unspelled : (form : NameForm) (commands : List Command) (i : ℕ) (command : Command) → i < length commands → command ≡ get_or commands i command → AllWithin (IsAskedFor form) commands 0 i → is_spelled command ≡ false → find (λ other. not (is_spelled other)) commands ≡ Some command
first_unspelled form commands i command inside is asked unspelled =
    first_at (λ other. not (is_spelled other)) commands i command inside is
    (λ k d low high. ap not (found_is_spelled (line_by form (get_or commands k d)) (get_or commands k d) (asked k d low high)))
    (ap not unspelled)
