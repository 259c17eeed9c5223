-- What a client reads of a feed, after `now`.
use Rattle.std.specs.Prelude.{◌≡◌, ℕ, List, [], ◌∷◌, ◌++◌, Ok, Option, Some, None, decimal}
use Rattle.prt_command.specs.Reading.{reading}
use Rattle.prt_command.specs.declared.request.Request.TheVariants as requests
use Rattle.prt_feed.specs.Reading.{AreTaken}
use Rattle.prt_feed.specs.declared.change.Change.{Change}

-- the line is the one part, a space (32), and the other
abbrev pub IsCutAt : (line first rest : List ℕ) → Type 0
IsCutAt line first rest = line ≡ first ++ (32 ∷ rest)

-- the line is the number of the change, a space, and what asks for its command
abbrev pub IsChangeLine : List ℕ → Change → Type 0
IsChangeLine line change = (rest : List ℕ) × IsCutAt line (decimal change.number) rest × (reading rest ≡ Ok (Some (requests.Command change.command)))

-- it begins with `#` (35)
abbrev pub IsComment : List ℕ → Type 0
IsComment line = (rest : List ℕ) × (line ≡ 35 ∷ rest)

-- the line reports a change, or is a comment
abbrev pub IsLineOf : Option Change → List ℕ → Type 0
IsLineOf None line = IsComment line
IsLineOf (Some change) line = IsChangeLine line change

-- One line was read, and reports this.
abbrev pub IsTold : (reader0 reader : Option (List ℕ)) → Option Change → Type 0
IsTold reader0 reader told = (line : List ℕ) × AreTaken reader0 reader (line ∷ []) × IsLineOf told line
