-- The pieces of a table with another one in the place of one of them.
use Rattle.std.proofs.Common.{◌≡◌, ℕ, zero, suc, ◌+◌, ◌^◌, ◌<◌, ◌≤◌, List, [], ◌∷◌, ◌++◌, length, get_or, map, set, refl, sym, ap, ◌∙◌, arith, ⊎_elim, zero-add}
use Rattle.std.specs.List.{AllZip}
use Rattle.std.proofs.lemmas.Bool.{cases_eq}
use Rattle.std.proofs.lemmas.List.Sorted.{length_permutation}
use Rattle.std.proofs.lemmas.List.{ext_get_or, get_or-map, get_or-set_other, get_or-set_same, length-append, length-map, length-set}
use Rattle.prt_addr.specs.Sound.{IsPrefix}
use Rattle.prt_route.specs.Edit.{after_edit}
use Rattle.prt_route.specs.declared.edit.RouteEdit.{RouteEdit}
use Rattle.prt_route.specs.declared.edit.RouteEdit.TheVariants.{Put}
use Rattle.prt_route.specs.declared.route.Route.{Route}
use Rattle.prt_trie.specs.Pieces.{ArePieces, insert_all, IsOfPiece, IsOfTheirTable, pieces_by, rows_of_piece, rows_of_pieces}
use Rattle.prt_trie.specs.Table.{IsRising}
use Rattle.prt_trie.specs.declared.cut.Cut.{Cut}
use Rattle.prt_trie.proofs.Inserts.{insert_all_moves}
use Rattle.prt_trie.proofs.Wholes.{after_pieces, length_pieces, length_whole, other_piece_after, own_piece_after, piece_at, rows_at}

-- owners of the same pieces have the same rows
pub same_rows : {X : Type 0} {Y : Type 0} (value : X → Y) (rows_in : Y → List Route) (owners others : List X) → AllZip (λ piece other. value other ≡ value piece) owners others → map (λ piece. rows_in (value piece)) others ≡ map (λ piece. rows_in (value piece)) owners
same_rows value rows_in [] [] same = refl
same_rows value rows_in [] (other ∷ others) same = absurd same
same_rows value rows_in (piece ∷ pieces) [] same = absurd same
same_rows value rows_in (piece ∷ pieces) (other ∷ others) same = ap (λ first. rows_in first ∷ map (λ piece. rows_in (value piece)) others) same.0 ∙ ap (λ rest. rows_in (value piece) ∷ rest) (same_rows value rows_in pieces others same.1)

-- one piece after an edit of it, and the others as they were
pub pieces_set : (cut : Cut) (edit : RouteEdit) (number : ℕ) (rows : List Route) → IsRising rows → number < 257 → IsOfPiece cut number edit → set (pieces_by cut 0 257 rows) number (after_edit edit (rows_of_piece cut number rows)) ≡ pieces_by cut 0 257 (after_edit edit rows)
pieces_set cut edit number rows rises few own =
    let new : List Route = after_edit edit (rows_of_piece cut number rows) in
    let at : (k : ℕ) (all : List Route) → k < 257 → get_or (pieces_by cut 0 257 all) k [] ≡ rows_of_piece cut k all = λ k all below. piece_at cut 0 257 k all [] below ∙ ap (λ n. rows_of_piece cut n all) (zero-add k) in
    let before : length (pieces_by cut 0 257 rows) ≡ 257 = length_pieces cut 0 257 rows in
    let as_many : length (set (pieces_by cut 0 257 rows) number new) ≡ 257 = length-set (pieces_by cut 0 257 rows) number new ∙ before in
    ext_get_or [] (set (pieces_by cut 0 257 rows) number new) (pieces_by cut 0 257 (after_edit edit rows)) (as_many ∙ sym (length_pieces cut 0 257 (after_edit edit rows)))
    (λ k within.
    let below : k < 257 = omega (arith, as_many) in
    ⊎_elim
    (λ (e : k ≡ number).
    ap (λ n. get_or (set (pieces_by cut 0 257 rows) number new) n []) e ∙ get_or-set_same (pieces_by cut 0 257 rows) number new [] (omega (arith, before))
    ∙ own_piece_after cut edit number rows rises own ∙ ap (λ n. rows_of_piece cut n (after_edit edit rows)) (sym e) ∙ sym (at k (after_edit edit rows) below))
    (λ (ne : k ≡ number → ⊥).
    get_or-set_other (pieces_by cut 0 257 rows) number k new [] ne ∙ at k rows below
    ∙ sym (other_piece_after cut edit number k rows rises own ne) ∙ sym (at k (after_edit edit rows) below))
    (cases_eq k number))

length_inserted : (piece rows : List Route) → length (insert_all piece rows) ≡ length piece + length rows
length_inserted piece rows = length_permutation (piece ++ rows) (insert_all piece rows) (insert_all_moves piece rows) ∙ length-append piece rows

-- how many rows there are with another piece in the place of one
pub length_set : (pieces : List (List Route)) (number : ℕ) (new old : List Route) → number < length pieces → old ≡ get_or pieces number old → length (rows_of_pieces (set pieces number new)) + length old ≡ length (rows_of_pieces pieces) + length new
length_set [] number new old lt is = absurd (omega arith)
length_set (piece ∷ pieces) zero new old lt is = omega (arith, ap length is, length_inserted new (rows_of_pieces pieces), length_inserted piece (rows_of_pieces pieces))
length_set (piece ∷ pieces) (suc k) new old lt is =
    omega (arith, length_inserted piece (rows_of_pieces (set pieces k new)), length_inserted piece (rows_of_pieces pieces), length_set pieces k new old (omega arith) is)

-- it is no more than all
pub length_within : (pieces : List (List Route)) (number : ℕ) (old : List Route) → number < length pieces → old ≡ get_or pieces number old → length old ≤ length (rows_of_pieces pieces)
length_within pieces number old lt is = omega (arith, length_set pieces number [] old lt is)

-- the pieces after an edit of one of them, and the rows of them all
pub with_piece : {X : Type 0} (cut : Cut) (edit : RouteEdit) (rows_in : X → List Route) (pieces owners : List X) (number : ℕ) (old : X) (new : List Route) → ArePieces cut (map rows_in pieces) → IsOfTheirTable edit (rows_of_pieces (map rows_in pieces)) →
    ((route : Route) → edit ≡ Put route → IsPrefix route.prefix) → ((route : Route) → edit ≡ Put route → route.metric < 2 ^ 32) → number < 257 → IsOfPiece cut number edit → old ≡ get_or pieces number old → new ≡ after_edit edit (rows_in old) → map rows_in owners ≡ set (map rows_in pieces) number new →
    ArePieces cut (map rows_in owners) × (rows_of_pieces (map rows_in owners) ≡ after_edit edit (rows_of_pieces (map rows_in pieces)))
with_piece cut edit rows_in pieces owners number old new whole fits prefix metric few own at is set_in =
    let rows : List Route = rows_of_pieces (map rows_in pieces) in
    let here : number < length pieces = omega (arith, length_whole cut rows_in pieces whole) in
    let edited : new ≡ after_edit edit (rows_of_piece cut number rows) = is ∙ ap (after_edit edit) (rows_at cut rows_in pieces number old whole few here at) in
    after_pieces cut edit rows (map rows_in owners) whole.table fits prefix metric
    (set_in ∙ ap (λ ps. set ps number new) whole.are ∙ ap (set (pieces_by cut 0 257 rows) number) edited ∙ pieces_set cut edit number rows whole.table.rising few own)

-- how many rows the pieces have with another one in the place of one
pub count_with_piece : {X : Type 0} (cut : Cut) (rows_in : X → List Route) (pieces owners : List X) (number : ℕ) (old : X) (new : List Route) → ArePieces cut (map rows_in pieces) → number < 257 → old ≡ get_or pieces number old → map rows_in owners ≡ set (map rows_in pieces) number new →
    length (rows_of_pieces (map rows_in owners)) + length (rows_in old) ≡ length (rows_of_pieces (map rows_in pieces)) + length new
count_with_piece cut rows_in pieces owners number old new whole few at set_in =
    let here : number < length pieces = omega (arith, length_whole cut rows_in pieces whole) in
    ap (λ ps. length (rows_of_pieces ps) + length (rows_in old)) set_in ∙ length_set (map rows_in pieces) number new (rows_in old) (omega (arith, here, length-map pieces rows_in)) (ap rows_in at ∙ sym (get_or-map rows_in pieces number old (rows_in old) here))

-- one of them has no more rows than all
pub count_of_piece : {X : Type 0} (cut : Cut) (rows_in : X → List Route) (pieces : List X) (number : ℕ) (old : X) → ArePieces cut (map rows_in pieces) → number < 257 → old ≡ get_or pieces number old → length (rows_in old) ≤ length (rows_of_pieces (map rows_in pieces))
count_of_piece cut rows_in pieces number old whole few at =
    let here : number < length pieces = omega (arith, length_whole cut rows_in pieces whole) in
    length_within (map rows_in pieces) number (rows_in old) (omega (arith, here, length-map pieces rows_in)) (ap rows_in at ∙ sym (get_or-map rows_in pieces number old (rows_in old) here))
