-- Paths of a desk, one after the other.
use Rattle.std.proofs.Common.{List, [], ◌∷◌, ◌++◌, map, Option, subst}
use Rattle.prt_session.specs.Session.{TurnsOf, Mishaps, Exchange, Path, line_turn}

-- what befell the lines
abbrev pub mishaps_of : {M : Type 0} → List (Exchange M) → List (Option M)
mishaps_of {M} xs = map (λ (x : Exchange M). x.mishap) xs

pub path_append : {D M : Type 0} (turn : TurnsOf D M) (may : Mishaps D M) (d0 d e : D) (xs ys : List (Exchange M)) → Path turn may d0 xs d → Path turn may d ys e → Path turn may d0 (xs ++ ys) e
path_append {D} {M} turn may d0 d e [] ys is more = subst (λ (z : D). Path turn may z ys e) is more
path_append {D} {M} turn may d0 d e (x ∷ xs) ys path more = (path.0, path.1, path_append turn may (line_turn turn d0 x.line x.mishap).desk d e xs ys path.2 more)
