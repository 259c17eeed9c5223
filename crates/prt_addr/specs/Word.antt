-- Words, and values that a word may express.
use Rattle.std.specs.Prelude.{ℕ, Bool, ◌||◌, ◌==◌, if◌then◌else◌, List, [], ◌∷◌, Option, Some, None, bytes_eq}
use Rattle.std.specs.List.{list_any, slice_split}

-- the bytes of a word
abbrev pub Word : Type 0
Word = List ℕ

-- space, tab and carriage return
abbrev pub is_white : ℕ → Bool
is_white b = b == 32 || b == 9 || b == 13

-- the parts between this byte, empty ones too
abbrev pub parts_at : ℕ → Word → List Word
parts_at separator w = slice_split (λ b. b == separator) w

-- the word is one of these
abbrev pub is_one_of : Word → List Word → Bool
is_one_of w words = list_any (λ x. bytes_eq x w) words

-- the value, if it passes the test
abbrev pub keep : {X : Type 0} → (X → Bool) → Option X → Option X
keep test None = None
keep test (Some x) = if test x then Some x else None

-- x before the others, if they are there
abbrev pub before : {X : Type 0} → X → Option (List X) → Option (List X)
before x None = None
before x (Some xs) = Some (x ∷ xs)

-- every value, if each is there
abbrev pub all_of : {X : Type 0} → List (Option X) → Option (List X)
all_of [] = Some []
all_of (None ∷ xs) = None
all_of (Some x ∷ xs) = before x (all_of xs)
