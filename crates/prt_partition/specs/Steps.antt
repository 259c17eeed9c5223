-- What the parts of the program compute.
use Rattle.std.specs.Prelude.{ℕ, ◌-◌, ◌&&◌, Bool, List, [], ◌∷◌, Option, Some, None}
use Rattle.std.specs.Option.{option_eq}
use Rattle.prt_rule.specs.declared.packet.Packet.{Packet}
use Rattle.prt_version.specs.Select.{select}
use Rattle.prt_version.specs.State.{State}
use Rattle.prt_partition.specs.Cuts.{to}
use Rattle.prt_partition.specs.Sameness.{is_same_verdict}
use Rattle.prt_partition.specs.Touching.{transition_of}
use Rattle.prt_partition.specs.declared.destinations.Span.{Span}
use Rattle.prt_partition.specs.declared.differences.Contrast.{Contrast}
use Rattle.prt_partition.specs.declared.differences.Difference.{Difference}
use Rattle.prt_partition.specs.declared.sameness.Sameness.{Sameness}
use Rattle.prt_partition.specs.declared.comparison.Transition.{Transition}

-- the span that begins at the address
abbrev pub span_from : State → Packet → ℕ → Span
span_from state packet addr = record { first = record { 0 = addr }; verdict = select state (to packet addr) }

abbrev pub says_same : Span → Span → Bool
says_same span before = is_same_verdict span.verdict before.verdict

-- the contrast that begins at the address
abbrev pub contrast_from : Sameness → State → State → Packet → ℕ → Contrast
contrast_from sameness before after packet addr = record { first = record { 0 = addr }; transition = transition_of sameness before after (to packet addr) }

abbrev pub is_same_transition : Transition → Transition → Bool
is_same_transition a b = is_same_verdict a.was b.was && is_same_verdict a.is b.is

abbrev pub have_same : Contrast → Contrast → Bool
have_same contrast before = option_eq is_same_transition contrast.transition before.transition

-- the last address before the next one begins
abbrev pub last_before : List Contrast → ℕ
last_before [] = 4294967295
last_before (contrast ∷ contrasts) = contrast.first.0 - 1

abbrev pub difference_to : ℕ → ℕ → Transition → Difference
difference_to first last transition = record { first = record { 0 = first }; last = record { 0 = last }; was = transition.was; is = transition.is }

-- the difference of a contrast up to an address, if there is one, before others
abbrev pub with_difference : ℕ → Option Transition → ℕ → List Difference → List Difference
with_difference first None last differences = differences
with_difference first (Some transition) last differences = difference_to first last transition ∷ differences

-- those that differ
abbrev pub differences_of : List Contrast → List Difference
differences_of [] = []
differences_of (contrast ∷ contrasts) = with_difference contrast.first.0 contrast.transition (last_before contrasts) (differences_of contrasts)
