-- The claims of a text, one a line.
use Rattle.std.specs.Prelude.{◌≡◌, ◌⊎◌, ℕ, ◌+◌, List, [], ◌∷◌, ◌++◌, Option, Some, None, Result, Ok, Err, codes, decimal}
use Rattle.std.specs.List.{Contains}
use Rattle.prt_import.specs.Lines.{lines_of}
use Rattle.prt_partition.specs.Boxes.{IsUndivided}
use Rattle.prt_refusals.specs.declared.refusal.Refusal.{Refusal}
use Rattle.prt_refusals.specs.declared.refusal.Refusal.TheVariants.{NoMemory}
use Rattle.prt_version.specs.State.{State}
use Rattle.prt_analyses.specs.Claims.BreachText.{breach_text}
use Rattle.prt_analyses.specs.Claims.{IsBreach, rules_of}
use Rattle.prt_analyses.specs.Claims.Reading.{Stated, reading, stated}
use Rattle.prt_analyses.specs.declared.claims.checking.BadLine.{BadLine}
use Rattle.prt_analyses.specs.declared.claims.checking.Breach.{Breach}
use Rattle.prt_analyses.specs.declared.claims.checking.Checked.{Checked}
use Rattle.prt_analyses.specs.declared.claims.claim.Claim.{Claim}
use Rattle.prt_analyses.specs.declared.claims.reading.BadClaim.{BadClaim}

-- ---- lines that are no claims

abbrev pub bad_line : ℕ → Result (Option Stated) BadClaim → List BadLine
bad_line number (Ok claim) = []
bad_line number (Err reason) = record { number = number; reason = reason } ∷ []

-- those from this number on
abbrev pub bad_lines : ℕ → List (List ℕ) → List BadLine
bad_lines number [] = []
bad_lines number (line ∷ lines) = bad_line number (reading line) ++ bad_lines (number + 1) lines

-- ---- claims that don't hold

-- what is found of one claim: a packet that breaks it, or nothing if there is none
abbrev pub IsFoundOf : State → ℕ → Claim → List Breach → Type 0
IsFoundOf state number claim found =
    ((found ≡ []) × IsBreach state claim None)
    ⊎ ((breach : Breach) × (found ≡ breach ∷ []) × (breach.number ≡ number) × IsBreach state claim (Some breach.packet))

-- of the line of this number
abbrev pub IsFoundAt : State → ℕ → Result (Option Stated) BadClaim → List Breach → Type 0
IsFoundAt state number (Ok (Some said)) found = (claim : Claim) × (stated claim ≡ said) × IsFoundOf state number claim found
IsFoundAt state number other found = found ≡ []

-- of the lines from this number on
abbrev pub AreFound : State → ℕ → List (List ℕ) → List Breach → Type 0
AreFound state number [] found = found ≡ []
AreFound state number (line ∷ lines) found =
    (first others : List Breach) × IsFoundAt state number (reading line) first × AreFound state (number + 1) lines others × (found ≡ first ++ others)

-- Each line of the text that is no claim is among the bad ones. Each claim that doesn't hold of the state is among the
-- breaches, with a packet that shows it.
pub record IsChecked (state : State) (text : List ℕ) (checked : Checked) : Type 0 where
  pub bad : checked.bad.items ≡ bad_lines 1 (lines_of text)
  pub breaches : AreFound state 1 (lines_of text) checked.breaches.items

-- the rules and the claim of a line would divide packets too often
abbrev pub IsTooDivided : State → Result (Option Stated) BadClaim → Refusal → Type 0
IsTooDivided state (Ok (Some said)) reason = (claim : Claim) × (stated claim ≡ said) × IsUndivided (state.rules ++ rules_of claim.selector) reason
IsTooDivided state other reason = ⊥

-- why a line isn't checked: memory is refused, or it would divide packets too often
abbrev pub IsUncheckedLine : State → List ℕ → Refusal → Type 0
IsUncheckedLine state line reason = (reason ≡ NoMemory) ⊎ IsTooDivided state (reading line) reason

-- why a text isn't checked: memory is refused, or one of its lines would divide packets too often
abbrev pub IsUnchecked : State → List ℕ → Refusal → Type 0
IsUnchecked state text reason = (reason ≡ NoMemory) ⊎ ((line : List ℕ) × Contains (lines_of text) line × IsTooDivided state (reading line) reason)

-- ---- line by line

-- what was found of the claim of this line was added
pub record ExtendsBy (state : State) (number : ℕ) (claim : Claim) (old new : Checked) : Type 0 where
  pub found : List Breach
  pub is : IsFoundOf state number claim found
  pub bad : new.bad.items ≡ old.bad.items
  pub breaches : new.breaches.items ≡ old.breaches.items ++ found

-- what was found of this line was added
pub record Extends (state : State) (number : ℕ) (line : List ℕ) (old new : Checked) : Type 0 where
  pub found : List Breach
  pub is : IsFoundAt state number (reading line) found
  pub bad : new.bad.items ≡ old.bad.items ++ bad_line number (reading line)
  pub breaches : new.breaches.items ≡ old.breaches.items ++ found

-- ---- as a text

-- line N: PACKET: ANSWER
abbrev pub breach_line : State → Breach → List ℕ
breach_line state breach = codes "line " ++ decimal breach.number ++ codes ": " ++ breach_text state breach.packet ++ codes "\n"
