-- Which rules an explanation reports.
use Rattle.std.specs.Prelude.{◌≡◌, List, [], ◌∷◌, ◌++◌, Option, Some, None}
use Rattle.prt_rule.specs.declared.rule.Rule.{Rule}

-- the rules up to this one, and this one
pub record EndWith (last : Rule) (asked rules : List Rule) : Type 0 where
  pub before : List Rule
  pub after : List Rule
  pub asked_are : asked ≡ before ++ last ∷ []
  pub rules_are : rules ≡ before ++ last ∷ after

-- the rules up to the one that decides, or all if none does
abbrev pub AreAsked : Option Rule → List Rule → List Rule → Type 0
AreAsked None asked rules = asked ≡ rules
AreAsked (Some decider) asked rules = EndWith decider asked rules
