use Rattle.std.proofs.Common.{◌-◌, ◌<◌, sym, ap, ◌∙◌, arith, length, slice_index}
use Rattle.prt_partition.specs.Sameness.{is_same_outcome}
use Rattle.prt_fib.specs.Hashes.{IsLast, hash_of}
use Rattle.prt_fib.proofs.Linked.{none_more, other_than, same_at}
use Rattle.prt_fib.proofs.hashing.search.Goals as goal

pub returns-then-is_same : goal.returns-then-is_same
returns-then-is_same c =
    let outcome = c.args.outcome.now in
    same_at c.args.outcomes.now outcome c.index-outcomes-place.result (c.loop-last.last - 1) (let within = c.loop-last.invariant.within in omega arith)
    (ap (λ o. is_same_outcome o outcome) (sym c.index-outcomes-place.is) ∙ sym c.is_same.ensures ∙ c.if-is_same.true)

pub loop-last-preserved : goal.loop-last-preserved
loop-last-preserved c =
    let outcomes = c.args.outcomes.now in
    let outcome = c.args.outcome.now in
    let last = c.loop-last.last in
    let inside : last - 1 < length outcomes = let within = c.loop-last.invariant.within in omega arith in
    let is : IsLast hash_of outcomes (hash_of outcome) (last - 1) (slice_index c.args.next.now (last - 1)) = c.requires.follow (last - 1) (hash_of outcome) (c.loop-last.invariant.has c.loop-last-test.true) in
    record {
      within = let within = is.within in omega arith;
      has = is.has;
      none = none_more hash_of outcomes outcome last (slice_index c.args.next.now (last - 1)) c.loop-last-test.true is
          (other_than outcomes outcome c.index-outcomes-place.result (last - 1) inside (ap (λ o. is_same_outcome o outcome) (sym c.index-outcomes-place.is) ∙ sym c.is_same.ensures ∙ c.if-is_same.false))
          c.loop-last.invariant.none;
    }
