-- An input, and how it ends.
use Rattle.std.specs.Prelude.{ℕ, Bool, true, false, List}

-- How an input ends.
pub data Ending : Type 0 where
  end_of_input : Ending
  read_fault : Ending

pub record Input : Type 0 where
  pub bytes : List ℕ
  pub ending : Ending

abbrev pub is_fault : Ending → Bool
is_fault end_of_input = false
is_fault read_fault = true
