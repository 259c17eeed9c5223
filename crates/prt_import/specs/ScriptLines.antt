-- How the lines of a script are read.
use Rattle.std.specs.Prelude.{◌≡◌, ◌⊎◌, ℕ, Bool, true, false, is_ok, List, [], ◌∷◌, ◌++◌, Option, Some, None, Result, Ok, Err, codes}
use Rattle.std.specs.List.{AllByRecursion as Each}
use Rattle.prt_command.specs.Reading.{reading}
use Rattle.prt_import.specs.Lines.{lines_of}
use Rattle.prt_import.specs.NewLines.{added_route, added_rule}
use Rattle.prt_command.specs.declared.request.Request.{Request}
use Rattle.prt_refusals.specs.declared.refusal.Refusal.{Refusal}

abbrev pub asks_nothing : Result (Option Request) Refusal → Bool
asks_nothing (Ok None) = true
asks_nothing (Ok (Some request)) = false
asks_nothing (Err refusal) = false

-- a comment is silent
abbrev pub is_silent : List ℕ → Bool
is_silent line = asks_nothing (reading line)

abbrev pub adds_rule : List ℕ → Bool
adds_rule line = is_ok (added_rule (reading line))

abbrev pub adds_route : List ℕ → Bool
adds_route line = is_ok (added_route (reading line))

-- Its lines leave no rule, or say nothing of rules; then each adds a rule, and then each adds a route.
pub record AreCommands (script : List ℕ) : Type 0 where
  pub first : List (List ℕ)
  pub rules : List (List ℕ)
  pub routes : List (List ℕ)
  pub lines : lines_of script ≡ first ++ rules ++ routes
  pub begins : (first ≡ codes "rule flush" ∷ codes "rule del priority 0" ∷ []) ⊎ ((first ≡ []) × (rules ≡ []))
  pub are_rules : Each (λ line. adds_rule line ≡ true) rules
  pub are_routes : Each (λ line. adds_route line ≡ true) routes

-- Lines that ask for nothing come before those commands.
pub record IsScript (script : List ℕ) : Type 0 where
  pub comments : List (List ℕ)
  pub commands : List ℕ
  pub lines : lines_of script ≡ comments ++ lines_of commands
  pub are_silent : Each (λ line. is_silent line ≡ true) comments
  pub are_commands : AreCommands commands
