-- What holds over any number of steps.
use Rattle.std.specs.Prelude.{◌≡◌}
use Rattle.std.proofs.Common.{refl}

-- it holds if nothing is done, and over two steps if it holds over each
pub record IsPreorder {X : Type 0} (Keeps : X → X → Type 0) : Type 0 where
  pub reflexive : (x : X) → Keeps x x
  pub transitive : (x y z : X) → Keeps x y → Keeps y z → Keeps x z

-- So it is of what a part of a value keeps, if the part's name stays.
pub at_part : {X Y N : Type 0} {Keeps : Y → Y → Type 0} (name : X → N) (part : X → Y) → IsPreorder Keeps →
    IsPreorder (λ old new. (name new ≡ name old) × Keeps (part old) (part new))
at_part name part keeps = record {
  reflexive = λ x. (refl, keeps.reflexive (part x));
  transitive = λ x y z first then. (rw then.0 first.0, keeps.transitive (part x) (part y) (part z) first.1 then.1);
}
