-- What a search among spans says.
use Rattle.std.proofs.Common.{subst, ◌≡◌, ℕ, ◌+◌, ◌-◌, ◌<◌, ◌≤◌, true, false, leb, List, [], ◌∷◌, length, get_or, arith, sym, ap, ⊎_elim}
use Rattle.std.specs.List.{between}
use Rattle.std.specs.List.Sorted.{IsPartitionPoint, IsPartitionedBy}
use Rattle.std.proofs.lemmas.Bool.{cases_lt, le-leb, leb-true}
use Rattle.std.proofs.lemmas.Bool.Decides.{nat_tests}
use Rattle.prt_trie.specs.Directory.{AreBounds}
use Rattle.prt_trie.specs.Spans.{AreSpans, IsSpanOf}
use Rattle.prt_trie.specs.declared.span.Span.{Span}
use Rattle.prt_trie.proofs.Places.{before_from_point, get_or_part, length_between, rest_from_point}

pub spans_partitioned : (spans : List Span) (addr : ℕ) → AreSpans spans → IsPartitionedBy (λ (span : Span). leb span.first addr) spans
spans_partitioned spans addr are i j d le lt h =
    let second : (get_or spans j d).first ≤ addr = leb-true (get_or spans j d).first addr h in
    le-leb (get_or spans i d).first addr
    (⊎_elim
    (λ (below : i < j). let r : (get_or spans i d).first < (get_or spans j d).first = are.rise i j d below lt in omega arith)
    (λ (over : j ≤ i). let e : i ≡ j = omega arith in let f : (get_or spans i d).first ≡ (get_or spans j d).first = ap (λ (n : ℕ). (get_or spans n d).first) e in omega arith)
    (cases_lt i j))

-- a part of them is partitioned too
pub part_partitioned : (spans : List Span) (addr low high : ℕ) → AreSpans spans → low ≤ high → high ≤ length spans → IsPartitionedBy (λ (span : Span). leb span.first addr) (between low high spans)
part_partitioned spans addr low high are order within i j d le lt h =
    let all : length (between low high spans) ≡ high - low = length_between spans low high within in
    let P : Span → Type 0 = λ span. leb span.first addr ≡ true in
    let si : get_or (between low high spans) i d ≡ get_or spans (low + i) d = get_or_part spans low high i d (omega arith) in
    let sj : get_or (between low high spans) j d ≡ get_or spans (low + j) d = get_or_part spans low high j d (omega arith) in
    subst P (sym si) (spans_partitioned spans addr are (low + i) (low + j) d (omega arith) (omega arith) (subst P sj h))

-- the first span begins at 0, so the point isn't at it
pub point_above : (spans : List Span) (addr low high i : ℕ) → AreSpans spans → AreBounds spans addr low high →
    low + i ≤ high → IsPartitionPoint (λ (span : Span). leb span.first addr ≡ true) (λ span. leb span.first addr ≡ false) (between low high spans) i → 0 < low + i
point_above [] addr low high i are bounds le is = absurd (omega (arith, are.some))
point_above (span ∷ spans) addr low high i are bounds le is =
    ⊎_elim
    (λ (lt : 0 < low + i). lt)
    (λ (ge : low + i ≤ 0).
    let begin : span.first ≡ 0 = are.begin span in
    ⊎_elim
    (λ (some : low + i < high).
    let no : leb (get_or (span ∷ spans) (low + i) span).first addr ≡ false = rest_from_point (λ (s : Span). leb s.first addr) (span ∷ spans) low high i bounds.order bounds.within is (low + i) span (omega arith) some in
    let z : low + i ≡ 0 = omega arith in
    let same : (get_or (span ∷ spans) (low + i) span).first ≡ span.first = ap (λ (n : ℕ). (get_or (span ∷ spans) n span).first) z in
    absurd (grind (arith, nat_tests)))
    (λ (none : high ≤ low + i). let after : addr < span.first = bounds.after 0 span (omega arith) (omega arith) in absurd (omega arith))
    (cases_lt (low + i) high))
    (cases_lt 0 (low + i))

pub span_from_point : (spans : List Span) (addr low high i : ℕ) → AreSpans spans → AreBounds spans addr low high →
    low + i ≤ high → IsPartitionPoint (λ (span : Span). leb span.first addr ≡ true) (λ span. leb span.first addr ≡ false) (between low high spans) i → IsSpanOf spans addr (low + i - 1)
span_from_point spans addr low high i are bounds le is =
    let some : 0 < low + i = point_above spans addr low high i are bounds le is in
    let within : high ≤ length spans = bounds.within in
    record {
      within = omega arith;
      from = λ d. ⊎_elim
          (λ (under : low + i - 1 < low). bounds.before (low + i - 1) d under)
          (λ (ge : low ≤ low + i - 1). leb-true (get_or spans (low + i - 1) d).first addr (before_from_point (λ (s : Span). leb s.first addr) spans low high i le is (low + i - 1) d ge (omega arith)))
          (cases_lt (low + i - 1) low);
      last = λ k d after inside. ⊎_elim
          (λ (under : k < high).
          let no : leb (get_or spans k d).first addr ≡ false = rest_from_point (λ (s : Span). leb s.first addr) spans low high i bounds.order within is k d (omega arith) under in
          grind (arith, nat_tests))
          (λ (ge : high ≤ k). bounds.after k d ge inside)
          (cases_lt k high);
    }
