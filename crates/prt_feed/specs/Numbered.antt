-- Rules with new ids.
use Rattle.std.specs.Prelude.{ℕ, ◌+◌, List, [], ◌∷◌}
use Rattle.prt_rule.specs.declared.rule.Rule.{Rule}

-- the rules, in their order, with this id and those after it
abbrev pub numbered_from : ℕ → List Rule → List Rule
numbered_from id [] = []
numbered_from id (rule ∷ rules) = record rule { id = id } ∷ numbered_from (id + 1) rules
