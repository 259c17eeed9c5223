-- The spans of a version say what becomes of each packet.
use Rattle.std.proofs.Common.{◌≡◌, ◌≢◌, ℕ, ◌<◌, true, false, List, [], ◌∷◌, refl, sym, ◌∙◌, arith}
use Rattle.std.specs.Prelude.{map}
use Rattle.std.specs.List.{dedup}
use Rattle.std.specs.List.Sorted.{IsStrictlyIncreasing, IsStrictlySortedBy}
use Rattle.std.specs.Ordering.{nat_cmp}
use Rattle.std.proofs.lemmas.Map.Keys.{sorted_from_strictly_increasing}
use Rattle.prt_addr.proofs.Each.{each_implies}
use Rattle.prt_rule.specs.declared.packet.Packet.{Packet}
use Rattle.prt_version.specs.Select.{select}
use Rattle.prt_version.specs.State.{State}
use Rattle.prt_version.specs.declared.answer.Verdict.{Verdict}
use Rattle.prt_partition.specs.Cuts.{AreStarts, destination_cuts, to}
use Rattle.prt_partition.specs.Spans.{AreSpans}
use Rattle.prt_partition.specs.Steps.{says_same, span_from}
use Rattle.prt_partition.specs.declared.destinations.Span.{Span}
use Rattle.prt_partition.proofs.Between.{same_by_destination}
use Rattle.prt_partition.proofs.Starts.{IsIn, IsSteady, Rises, begins_at_zero, contains_in, each_moved, rise_joined, rise_made, steady, tells, tells_joined, unlike_joined}
use Rattle.prt_partition.proofs.Verdicts.{verdicts_same}

rises_from_sorted : (ns : List ℕ) → IsStrictlySortedBy nat_cmp ns → Rises ns
unfolding IsStrictlySortedBy
rises_from_sorted [] sorted = tt
rises_from_sorted (n ∷ ns) sorted = (each_implies _ (λ m. n < m) (λ m h. grind arith) ns sorted.0, rises_from_sorted ns sorted.1)

pub rises : (ns : List ℕ) → IsStrictlyIncreasing ns → Rises ns
rises ns h = rises_from_sorted ns (sorted_from_strictly_increasing ns h)

abbrev pub says : State → Packet → ℕ → Verdict
says state packet addr = select state (to packet addr)

alike : (span before : Span) → says_same span before ≡ true → span.verdict ≡ before.verdict
alike span before h = (verdicts_same span.verdict before.verdict).0 h

unlike : (span before : Span) → says_same span before ≡ false → before.verdict ≢ span.verdict
unlike span before h e = let f : says_same span before ≡ true = (verdicts_same span.verdict before.verdict).1 (sym e) in absurd cc

abbrev first : Span → ℕ
first span = span.first.0

abbrev verdict : Span → Verdict
verdict span = span.verdict

-- ---- from the first start on

whole_by : (state : State) (packet : Packet) (starts : List ℕ) → Rises starts → IsIn 0 starts → IsSteady (says state packet) starts → AreSpans state packet (dedup says_same (map (span_from state packet) starts))
whole_by state packet [] rises zero steady = absurd zero
whole_by state packet (c ∷ cs) rises zero steady =
    let make : ℕ → Span = λ n. span_from state packet n in
    let rise = rise_made first verdict (says state packet) make (λ n. refl) (λ n. refl) (c ∷ cs) rises in
    record {
      tell = λ addr fits.
          let start : c ≡ 0 = begins_at_zero c cs rises zero in
          tells_joined first verdict says_same alike (make c) (map make cs) rise addr
          ∙ tells first verdict (says state packet) make (λ n. refl) (λ n. refl) c cs rises steady addr (omega arith) fits;
      rise = rise_joined first verdict says_same alike (make c) (map make cs) rise;
      differ = unlike_joined first verdict says_same (λ span next. span.verdict ≢ next.verdict) unlike (make c) (map make cs);
    }

pub whole : (state : State) (packet : Packet) (starts : List ℕ) → AreStarts (destination_cuts state) starts → AreSpans state packet (dedup says_same (map (span_from state packet) starts))
whole state packet starts are =
    whole_by state packet starts (rises starts are.rise) (contains_in 0 starts are.zero)
    (steady (says state packet) (destination_cuts state) starts (λ a b le fits none. same_by_destination state packet a b le fits none) (rises starts are.rise) (each_moved (destination_cuts state) starts are.all))
