-- What is done to databases from an opening to its closing.
use Rattle.std.specs.Prelude.{ℕ, List}

-- The database at the path was opened as the first desk and closed as the last. Nothing else was done to databases.
pub record OpensAndCloses {D X : Type 0} (opens : D → D → List ℕ → X → Type 0) (closed : D → D → X → Type 0) (old new : D) (path : List ℕ)
    (first last : X) : Type 0 where
  pub between : D
  pub is_opened : opens old between path first
  pub is_closed : closed between new last
