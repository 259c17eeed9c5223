-- What becomes of all packets that differ in their destinations alone.
use Rattle.std.specs.Prelude.{ℕ, ◌≡◌, ◌≢◌, ◌^◌, ◌<◌, ◌≤◌, Bool, true, ◌&&◌, nat_le, nat_lt, if◌then◌else◌, List, [], ◌∷◌, Option, Some, None, option_map}
use Rattle.std.specs.List.{list_any, AllByRecursion as Each}
use Rattle.std.specs.Option.{option_or}
use Rattle.prt_addr.specs.Rising.{IsRising}
use Rattle.prt_rule.specs.declared.packet.Packet.{Packet}
use Rattle.prt_version.specs.Select.{select}
use Rattle.prt_version.specs.State.{State}
use Rattle.prt_version.specs.declared.answer.Verdict.{Verdict}
use Rattle.prt_partition.specs.Cuts.{to}
use Rattle.prt_partition.specs.Sameness.{AreSame}
use Rattle.prt_partition.specs.declared.destinations.Span.{Span}
use Rattle.prt_partition.specs.declared.differences.Difference.{Difference}
use Rattle.prt_partition.specs.declared.sameness.Sameness.{Sameness}

-- the last of these that begins at the number or before it
abbrev pub last_from : {S : Type 0} → (S → ℕ) → List S → ℕ → Option S
last_from first [] n = None
last_from first (x ∷ xs) n = option_or (last_from first xs n) (if nat_le (first x) n then Some x else None)

-- each differs from the one before it
abbrev pub OnHead : {S : Type 0} → (S → Type 0) → List S → Type 0
OnHead P [] = Unit {0}
OnHead P (x ∷ xs) = P x

abbrev pub AreUnlike : {S : Type 0} → (S → S → Type 0) → List S → Type 0
AreUnlike R [] = Unit {0}
AreUnlike R (x ∷ xs) = OnHead (R x) xs × AreUnlike R xs

-- what the spans say of a destination: the verdict of the last one that begins there or before
abbrev pub verdict_at : List Span → ℕ → Option Verdict
verdict_at spans addr = option_map (λ (span : Span). span.verdict) (last_from (λ (span : Span). span.first.0) spans addr)

pub record AreSpans (state : State) (packet : Packet) (spans : List Span) : Type 0 where
  -- of each destination they say what becomes of the packet
  pub tell : (addr : ℕ) → addr < 2 ^ 32 → verdict_at spans addr ≡ Some (select state (to packet addr))
  -- each begins after the one before it
  pub rise : IsRising (λ (span next : Span). nat_lt span.first.0 next.first.0) spans
  -- and has another verdict
  pub differ : AreUnlike (λ (span next : Span). span.verdict ≢ next.verdict) spans

-- the destination is one of the range
abbrev pub has : ℕ → Difference → Bool
has addr difference = nat_le difference.first.0 addr && nat_le addr difference.last.0

-- each destination of the range has one verdict before and another one after
pub record IsDifference (sameness : Sameness) (before after : State) (packet : Packet) (difference : Difference) : Type 0 where
  pub some : difference.first.0 ≤ difference.last.0
  pub differs : ¬ AreSame sameness difference.was difference.is
  pub was : (addr : ℕ) → has addr difference ≡ true → select before (to packet addr) ≡ difference.was
  pub is : (addr : ℕ) → has addr difference ≡ true → select after (to packet addr) ≡ difference.is

pub record AreDifferences (sameness : Sameness) (before after : State) (packet : Packet) (differences : List Difference) : Type 0 where
  -- what they say is so
  pub sound : Each (IsDifference sameness before after packet) differences
  -- no destination is missing
  pub complete : (addr : ℕ) → addr < 2 ^ 32 → ¬ AreSame sameness (select before (to packet addr)) (select after (to packet addr)) →
      list_any (has addr) differences ≡ true
  -- each ends before the next one begins
  pub rise : IsRising (λ (difference next : Difference). nat_lt difference.last.0 next.first.0) differences
