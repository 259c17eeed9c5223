-- Changes that were read from a feed.
use Rattle.std.specs.Prelude.{◌≡◌, ℕ, List, [], ◌∷◌, Option, None, Some}
use Rattle.prt_feed.specs.Changes.{IsTold}
use Rattle.prt_feed.specs.declared.change.Change.{Change}

-- lines were read one after the other, and reported these changes; a comment reports none
abbrev pub AreReported : (reader0 reader : Option (List ℕ)) → List (Option Change) → Type 0
AreReported reader0 reader [] = reader ≡ reader0
AreReported reader0 reader (told ∷ later) = (between : Option (List ℕ)) × IsTold reader0 between told × AreReported between reader later

-- the changes among what was reported
abbrev pub changes_in : List (Option Change) → List Change
changes_in [] = []
changes_in (None ∷ later) = changes_in later
changes_in (Some change ∷ later) = change ∷ changes_in later

-- these changes were read, and no others
abbrev pub AreRead : (reader0 reader : Option (List ℕ)) → List Change → Type 0
AreRead reader0 reader changes = (reports : List (Option Change)) × AreReported reader0 reader reports × (changes ≡ changes_in reports)
