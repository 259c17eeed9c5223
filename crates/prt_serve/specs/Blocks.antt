-- What lies at hand of the lines of a connection.
use Rattle.std.specs.Prelude.{◌≡◌, ◌≢◌, ℕ, List, ◌∷◌, ◌++◌, None, Ok}
use Rattle.prt_command.specs.Reading.{reading}
use Rattle.prt_session.specs.Steps.{HasNoNewline}

-- A block begins with a whole line, which has a word, and so gets a reply.
pub record BeginsWithLine (block : List ℕ) : Type 0 where
  pub line : List ℕ
  pub rest : List ℕ
  pub is : block ≡ line ++ 10 ∷ rest
  pub bare : HasNoNewline line
  pub asks : reading line ≢ Ok None
