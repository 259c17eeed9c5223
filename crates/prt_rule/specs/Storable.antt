-- Which rules a database may hold.
use Rattle.std.specs.Prelude.{ℕ, Bool, true, ◌&&◌, nat_le, Option, Some, None, is_none}
use Rattle.prt_rule.specs.declared.rule.Action.{Action}
use Rattle.prt_rule.specs.declared.rule.Action.TheVariants.{Lookup}

-- a length of 0 to 32, if there is one
abbrev pub is_length : Option ℕ → Bool
is_length None = true
is_length (Some len) = nat_le len 32

-- A rule of this action that suppresses prefixes up to this length. A table that is looked up is one from 1 on, and a length comes only with a lookup.
abbrev pub is_storable_rule : Action → Option ℕ → Bool
is_storable_rule (Lookup table) suppress = nat_le 1 table && is_length suppress
is_storable_rule _ suppress = is_none suppress
