-- Rows divided by the pieces that they are of.
use Rattle.std.proofs.Common.{◌≡◌, ℕ, ◌+◌, ◌<◌, true, false, List, [], ◌∷◌, ◌++◌, length, get_or, take, cond, eqb, ap, sym, subst, ◌∙◌, append-nil, arith, ⊎_elim}
use Rattle.std.specs.List.{All}
use Rattle.std.proofs.Math.ListN.{set}
use Rattle.std.proofs.lemmas.Bool.{cases_eq}
use Rattle.std.proofs.lemmas.Bool.Decides.{nat_tests}
use Rattle.std.proofs.lemmas.List.Elements.{filter_more}
use Rattle.std.proofs.lemmas.List.{get_or-set_other, get_or-set_same, length-set}
use Rattle.prt_route.specs.declared.route.Route.{Route}
use Rattle.prt_trie.specs.Cut.{number_in}
use Rattle.prt_trie.specs.Pieces.{AreParts, rows_of_piece}
use Rattle.prt_trie.specs.declared.cut.Cut.{Cut}

-- the row comes last in its own piece, and is of no other
own_part : (cut : Cut) (k i : ℕ) (row : Route) (rows : List Route) → i < length rows → row ≡ get_or rows i row → rows_of_piece cut k (take (i + 1) rows) ≡ rows_of_piece cut k (take i rows) ++ cond (eqb (number_in cut row.prefix) k) (row ∷ []) []
own_part cut k i row rows lt is =
    filter_more (λ r. eqb (number_in cut r.prefix) k) rows i row lt ∙ ap (λ (r : Route). rows_of_piece cut k (take i rows) ++ cond (eqb (number_in cut r.prefix) k) (r ∷ []) []) (sym is)

pub no_parts : {X : Type 0} (rows_in : X → List Route) (cut : Cut) (rows : List Route) (parts : List X) → length parts ≡ 257 → All (λ part. rows_in part ≡ []) parts → AreParts cut 0 (take 0 rows) parts rows_in
no_parts rows_in cut rows parts count none = record { count = count; each = λ k d from lt. none k d (omega arith) }

-- one row more
pub parts_more : {X : Type 0} (rows_in : X → List Route) (cut : Cut) (rows : List Route) (i : ℕ) (row : Route) (parts : List X) (number : ℕ) (old new : X) → i < length rows → row ≡ get_or rows i row →
    AreParts cut 0 (take i rows) parts rows_in → number ≡ number_in cut row.prefix → number < 257 → old ≡ get_or parts number old → rows_in new ≡ rows_in old ++ row ∷ [] → AreParts cut 0 (take (i + 1) rows) (set parts number new) rows_in
parts_more rows_in cut rows i row parts number old new lt is are own few at pushed = record {
  count = length-set parts number new ∙ are.count;
  each = λ k d from within. ⊎_elim
      (λ (e : k ≡ number).
      let here : number < length parts = omega (arith, are.count) in
      let yes : eqb (number_in cut row.prefix) number ≡ true = grind (arith, nat_tests) in
      let was : rows_in old ≡ rows_of_piece cut number (take i rows) = ap rows_in at ∙ are.each number old (omega arith) few in
      let now : rows_in (get_or (set parts number new) number d) ≡ rows_of_piece cut number (take (i + 1) rows) =
      ap rows_in (get_or-set_same parts number new d here) ∙ pushed ∙ ap (λ (xs : List Route). xs ++ row ∷ []) was
      ∙ sym (own_part cut number i row rows lt is ∙ ap (λ b. rows_of_piece cut number (take i rows) ++ cond b (row ∷ []) []) yes) in
      subst (λ n. rows_in (get_or (set parts number new) n d) ≡ rows_of_piece cut n (take (i + 1) rows)) (sym e) now)
      (λ (ne : k ≡ number → ⊥).
      let no : eqb (number_in cut row.prefix) k ≡ false = grind (arith, nat_tests) in
      ap rows_in (get_or-set_other parts number k new d ne) ∙ are.each k d from within
      ∙ sym (own_part cut k i row rows lt is ∙ ap (λ b. rows_of_piece cut k (take i rows) ++ cond b (row ∷ []) []) no ∙ append-nil (rows_of_piece cut k (take i rows))))
      (cases_eq k number);
}

-- the rows of one of them are taken out
pub parts_left : {X : Type 0} (rows_in : X → List Route) (cut : Cut) (rows : List Route) (parts : List X) (number : ℕ) (new : X) → AreParts cut number rows parts rows_in → AreParts cut (number + 1) rows (set parts number new) rows_in
parts_left rows_in cut rows parts number new are = record {
  count = length-set parts number new ∙ are.count;
  each = λ k d from within. ap rows_in (get_or-set_other parts number k new d (λ e. absurd (omega arith))) ∙ are.each k d (omega arith) within;
}

-- the rows of the next of them
pub part_at : {X : Type 0} (rows_in : X → List Route) (cut : Cut) (rows : List Route) (parts : List X) (number : ℕ) (part old : X) → AreParts cut number rows parts rows_in → number < 257 → part ≡ old → old ≡ get_or parts number old → rows_in part ≡ rows_of_piece cut number rows
part_at rows_in cut rows parts number part old are few is at = ap rows_in (is ∙ at) ∙ are.each number old (omega arith) few
