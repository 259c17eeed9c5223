-- What a writer got of a text.
use Rattle.std.specs.Prelude.{◌≡◌, ℕ, Bool, true, false, List, ◌++◌, Option}
use Rattle.std.specs.Io.KnownBytes.{Appends}

-- the text was written, or, if it was not, a part of it
abbrev pub Written : Bool → Option (List ℕ) → Option (List ℕ) → List ℕ → Type 0
Written true writer0 writer text = Appends writer0 writer text
Written false writer0 writer text = (part : List ℕ) × (cut_off : List ℕ) × (text ≡ part ++ cut_off) × Appends writer0 writer part
