use Rattle.std.proofs.Common.{arith}
use Rattle.prt_serve.proofs.Heads.{head_end, head_fault, head_full, head_more, head_newline, no_head}
use Rattle.prt_serve.proofs.script_header.read_head.Goals as goal

pub loop-count-init : goal.loop-count-init
loop-count-init g c = no_head _ _ c.clear.ensures

pub returns-in-Byte-eq10 : goal.returns-in-Byte-eq10
returns-in-Byte-eq10 g c = head_newline _ _ _ _ c.loop-count._count c.loop-count.invariant c.in-Byte-eq10.field-0 c.loop-count-test.true c.in-Byte-eq10.ensures c.in-Byte-eq10.field-0-test

pub returns-in-End : goal.returns-in-End
returns-in-End g c = head_end _ _ _ _ c.loop-count._count c.loop-count.invariant c.in-End.ensures.0 c.in-End.ensures.1

pub returns-in-Fault : goal.returns-in-Fault
returns-in-Fault g c = head_fault _ _ _ _ c.loop-count._count c.loop-count.invariant c.in-Fault.ensures

pub loop-count-preserved : goal.loop-count-preserved
loop-count-preserved g c = head_more _ _ _ _ c.loop-count._count c.loop-count.invariant c.in-Byte.byte _ c.in-Byte.ensures c.in-Byte.byte-test.1 c.push.ensures.items

pub returns : goal.returns
returns g c = head_full _ _ _ c.loop-count._count c.loop-count.invariant (omega arith)
