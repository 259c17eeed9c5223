use Rattle.std.proofs.Common.{◌≡◌, ℕ, List, length, sym, ap, ◌∙◌, subst}
use Rattle.prt_fib.specs.Pieces.{AreTold}
use Rattle.prt_fib.specs.Places.{AreStartsFrom}
use Rattle.prt_fib.proofs.Splitting.{split_divides, split_from, split_keeps, split_same, split_told}
use Rattle.prt_fib.proofs.following.divided.Goals as goal

pub split-requires-2-clause-rise : goal.split-requires-2-clause-rise
split-requires-2-clause-rise c =
    let starts : List ℕ = c.in_ok-starts.starts.items in
    let numbers : List ℕ = c.in_ok-numbers.numbers.items in
    let begun : AreStartsFrom c.args.base starts = subst (AreStartsFrom c.args.base) (sym (c.in_ok-starts.ensures ∙ c.deref.ensures.value)) c.requires.piece.starts in
    let same : length numbers ≡ length starts = ap length (c.in_ok-numbers.ensures ∙ c.deref-2.ensures.value) ∙ c.requires.piece.same ∙ sym (ap length (c.in_ok-starts.ensures ∙ c.deref.ensures.value)) in
    (split_from c.args.base starts numbers c.args.end c.split.new.starts.items c.split.new.numbers.items same begun c.in_ok-split.ensures).rise

pub returns : goal.returns
returns c =
    let base : ℕ = c.args.base in
    let first : ℕ = c.args.first in
    let end : ℕ = c.args.end in
    let starts : List ℕ = c.in_ok-starts.starts.items in
    let numbers : List ℕ = c.in_ok-numbers.numbers.items in
    let mid : List ℕ = c.split.new.starts.items in
    let mid_numbers : List ℕ = c.split.new.numbers.items in
    let made : List ℕ = c.split-2.new.starts.items in
    let made_numbers : List ℕ = c.split-2.new.numbers.items in
    let starts_are = c.in_ok-starts.ensures ∙ c.deref.ensures.value in
    let numbers_are = c.in_ok-numbers.ensures ∙ c.deref-2.ensures.value in
    let begun : AreStartsFrom base starts = subst (AreStartsFrom base) (sym starts_are) c.requires.piece.starts in
    let same : length numbers ≡ length starts = ap length numbers_are ∙ c.requires.piece.same ∙ sym (ap length starts_are) in
    let begun_mid : AreStartsFrom base mid = split_from base starts numbers end mid mid_numbers same begun c.in_ok-split.ensures in
    let same_mid : length mid_numbers ≡ length mid = split_same base starts numbers end mid mid_numbers same c.in_ok-split.ensures in
    record {
      from = split_from base mid mid_numbers first made made_numbers same_mid begun_mid c.in_ok-split-2.ensures;
      same = split_same base mid mid_numbers first made made_numbers same_mid c.in_ok-split-2.ensures;
      at_first = split_divides base mid mid_numbers first made made_numbers same_mid begun_mid c.in_ok-split-2.ensures;
      at_end = split_keeps base mid mid_numbers first made made_numbers same_mid begun_mid c.in_ok-split-2.ensures end (split_divides base starts numbers end mid mid_numbers same begun c.in_ok-split.ensures);
      tells = λ state packet outcomes told.
          split_told state packet outcomes base mid mid_numbers first made made_numbers same_mid begun_mid c.requires.base c.in_ok-split-2.ensures
          (split_told state packet outcomes base starts numbers end mid mid_numbers same begun c.requires.base c.in_ok-split.ensures
          (subst (λ s. AreTold state packet outcomes base s numbers) (sym starts_are) (subst (AreTold state packet outcomes base c.args.piece.now.starts.items) (sym numbers_are) told)));
    }
