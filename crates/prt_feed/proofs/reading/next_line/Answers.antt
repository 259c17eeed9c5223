use Rattle.std.proofs.Common.{arith}
use Rattle.prt_feed.proofs.Taking.{line_cut, line_ends, line_more, no_byte}
use Rattle.prt_feed.proofs.reading.next_line.Goals as goal

pub loop-count-init : goal.loop-count-init
loop-count-init g c = no_byte _ _ c.clear.ensures

pub returns-in-Some-eq10 : goal.returns-in-Some-eq10
returns-in-Some-eq10 g c = λ read. line_ends _ _ _ _ c.loop-count._count c.in-Some-eq10.field-0 c.loop-count.invariant c.in-Some-eq10.ensures c.in-Some-eq10.field-0-test

pub loop-count-preserved : goal.loop-count-preserved
loop-count-preserved g c = line_more _ _ _ _ _ _ c.in-Some.byte c.loop-count.invariant c.in-Some.ensures c.in-Some.byte-test.1 c.push.ensures.items

pub returns : goal.returns
returns g c = λ read. line_cut _ _ _ c.loop-count._count c.loop-count.invariant (omega arith)
