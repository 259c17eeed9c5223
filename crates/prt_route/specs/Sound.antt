-- How a name is kept in a fixed number of bytes.
use Rattle.std.specs.Prelude.{◌≡◌, ℕ, ◌-◌, true, List, ◌++◌, length, take, replicate}
use Rattle.prt_route.specs.Name.{is_name}

-- the first len bytes are a name, and zeros come after them
pub record IsPadded (len : ℕ) (bytes : List ℕ) : Type 0 where
  pub whole : length (take len bytes) ≡ len
  pub zeros : take len bytes ++ replicate (15 - length (take len bytes)) 0 ≡ bytes
  pub name : is_name (take len bytes) ≡ true
