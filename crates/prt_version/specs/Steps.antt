-- What the parts of the program compute.
use Rattle.std.specs.Prelude.{◌≡◌, ℕ, ◌<◌, List, [], ◌∷◌, slice_index_or, Option, Some, None}
use Rattle.prt_route.specs.declared.route.Route.{Route}
use Rattle.prt_rule.specs.declared.packet.Packet.{Packet}
use Rattle.prt_rule.specs.declared.rule.Rule.{Rule}
use Rattle.prt_version.specs.RuleIndex.{list_of}
use Rattle.prt_version.specs.Select.{decision}
use Rattle.prt_version.specs.declared.answer.Verdict.{Verdict}
use Rattle.prt_version.specs.declared.answer.Verdict.TheVariants.{NoRoute}

-- what the first of these rules that decides says
abbrev pub first_verdict : List Rule → List Route → Packet → Verdict
first_verdict [] routes packet = NoRoute
first_verdict (rule ∷ rules) routes packet = elim (decision rule routes packet) [
  | Some verdict ↦ verdict
  | None ↦ first_verdict rules routes packet
]

-- none of the rules of this list, up to this place, decides
abbrev pub IsSilent : List Rule → ℕ → ℕ → List Route → Packet → Type 0
IsSilent rules list before routes packet = (k : ℕ) (d : Rule) → k < before → list_of (slice_index_or rules k d) ≡ list →
    decision (slice_index_or rules k d) routes packet ≡ None

-- the rule at the place is the first of the list that decides, and it says this
pub record IsFirst (rules : List Rule) (list before : ℕ) (routes : List Route) (packet : Packet) (place : ℕ) (verdict : Verdict) : Type 0 where
  pub early : place < before
  pub says : (d : Rule) → decision (slice_index_or rules place d) routes packet ≡ Some verdict
  pub silent : IsSilent rules list place routes packet

-- the first rule of the list that decides, up to this place; None if none does
abbrev pub IsFirstIn : List Rule → ℕ → ℕ → List Route → Packet → Option (ℕ × Verdict) → Type 0
IsFirstIn rules list before routes packet None = IsSilent rules list before routes packet
IsFirstIn rules list before routes packet (Some found) = IsFirst rules list before routes packet found.0 found.1
