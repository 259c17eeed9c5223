-- Values that a command may name or leave out.
use Rattle.std.specs.Prelude.{Bool, true, false, Option, Some, None}

-- the value is the one that is given, if one is
abbrev pub agrees : {X : Type 0} → (X → X → Bool) → Option X → X → Bool
agrees same None value = true
agrees same (Some given) value = same given value

-- the same for a value that may be absent: one that is given is there
abbrev pub agrees_there : {X : Type 0} → (X → X → Bool) → Option X → Option X → Bool
agrees_there same None value = true
agrees_there same (Some given) None = false
agrees_there same (Some given) (Some value) = same given value
