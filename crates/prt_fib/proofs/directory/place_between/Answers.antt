use Rattle.std.proofs.Common.{arith}
use Rattle.prt_fib.proofs.Finding.{found}
use Rattle.prt_fib.proofs.directory.place_between.Goals as goal

pub returns : goal.returns
returns c =
    let now = c.loop-low.invariant in
    found c.args.starts.now c.args.addr c.loop-low.low c.loop-low.high c.requires.rise now.low (omega arith) now.from now.to
