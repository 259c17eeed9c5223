use Rattle.std.proofs.Common.{◌≡◌, List, [], ◌∷◌, ◌++◌, map, refl, ap, ◌∙◌}
use Rattle.std.specs.Arc.{arc_value}
use Rattle.std.specs.List.{AllZip}
use Rattle.prt_fib.proofs.table.owners_of.Goals as goal

same_values : {X Y : Type 0} (value : X → Y) (owners others : List X) → AllZip (λ piece other. value other ≡ value piece) owners others → map value others ≡ map value owners
same_values value [] [] same = refl
same_values value [] (other ∷ others) same = absurd same
same_values value (piece ∷ pieces) [] same = absurd same
same_values value (piece ∷ pieces) (other ∷ others) same = ap (λ first. first ∷ map value others) same.0 ∙ ap (λ rest. value piece ∷ rest) (same_values value pieces others same.1)

pub returns : goal.returns
returns c =
    ap (map (λ piece. arc_value piece)) (c.in_ok-extend_with_clones.ensures.items.1 ∙ ap (λ none. none ++ c.in_ok-extend_with_clones.ensures.items.0) c.new-owners.ensures.items)
    ∙ same_values (λ piece. arc_value piece) c.args.pieces.now _ c.in_ok-extend_with_clones.ensures.items.2
