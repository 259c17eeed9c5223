use Rattle.std.proofs.Common.{ℕ, ◌+◌, ◌-◌, ◌/◌, ◌<◌, ◌≤◌, arith, slice_index}
use Rattle.prt_fib.proofs.Finding.{rising_at}
use Rattle.prt_fib.proofs.directory.count_below.Goals as goal

pub loop-low-preserved-then-from-n : goal.loop-low-preserved-then-from-n
loop-low-preserved-then-from-n c =
    let starts = c.args.starts.now in
    let middle : ℕ = c.loop-low.low + (c.loop-low.high - c.loop-low.low) / 2 in
    let now = c.loop-low.invariant in
    let within = now.within in
    let test = c.loop-low-test.true in
    let is = c.from.ensures in
    let less = c.if-from-n.true in
    let here : slice_index starts middle < c.args.n = omega arith in
    record {
      order = omega arith;
      within = within;
      below = λ k lt. let up : slice_index starts k ≤ slice_index starts middle = rising_at starts k middle c.requires (omega arith) (omega arith) in omega arith;
      above = now.above;
    }

pub loop-low-preserved : goal.loop-low-preserved
loop-low-preserved c =
    let starts = c.args.starts.now in
    let middle : ℕ = c.loop-low.low + (c.loop-low.high - c.loop-low.low) / 2 in
    let now = c.loop-low.invariant in
    let within = now.within in
    let test = c.loop-low-test.true in
    let is = c.from.ensures in
    let more = c.if-from-n.false in
    let here : c.args.n ≤ slice_index starts middle = omega arith in
    record {
      order = omega arith;
      within = omega arith;
      below = now.below;
      above = λ k from lt. let up : slice_index starts middle ≤ slice_index starts k = rising_at starts middle k c.requires from lt in omega arith;
    }
