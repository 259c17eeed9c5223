use Rattle.std.proofs.Common.{◌+◌, ℕ, List, sym, subst}
use Rattle.prt_fib.specs.Places.{AreStartsFrom, IsCount}
use Rattle.prt_fib.proofs.Finding.{start_of}
use Rattle.prt_fib.proofs.Parts.{part_starts}
use Rattle.prt_fib.proofs.dividing.piece_of.Goals as goal

pub of-requires-clause-starts : goal.of-requires-clause-starts
of-requires-clause-starts c =
    let starts : List ℕ = c.args.starts.now in
    let base : ℕ = c.args.base in
    let low : ℕ = c.count_below-low.result in
    let high : ℕ = c.count_below-high.result in
    let low_is : IsCount starts base low = subst (λ n. IsCount starts n low) c.from.ensures c.count_below-low.ensures in
    let high_is : IsCount starts (base + 16777216) high = subst (λ n. IsCount starts (n + 16777216) high) c.from-2.ensures c.count_below-high.ensures in
    subst (AreStartsFrom base) (sym c.in_ok-own_starts.ensures.items) (part_starts starts base low high c.requires.rise (start_of base starts c.requires.at) low_is high_is).1
