-- What the steps of writing a line append.
use Rattle.std.specs.Prelude.{ℕ, List, [], ◌∷◌, ◌++◌, Option, Some, None, codes}

-- a space and the part, if it is there
abbrev pub after_space : Option (List ℕ) → List ℕ
after_space None = []
after_space (Some text) = codes " " ++ text

-- a space and the part, for each that is there
abbrev pub after_spaces : List (Option (List ℕ)) → List ℕ
after_spaces [] = []
after_spaces (part ∷ parts) = after_space part ++ after_spaces parts
