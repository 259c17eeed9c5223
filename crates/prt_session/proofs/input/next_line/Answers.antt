use Rattle.std.proofs.Common.{arith}
use Rattle.prt_session.proofs.Lines.{line_more}
use Rattle.prt_session.proofs.input.next_line.Goals as goal
use Rattle.prt_session.proofs.input.next_line.Goals.{then-length-lt-LONGEST_LINE, else-length-lt-LONGEST_LINE}

pub loop-length-preserved : goal.loop-length-preserved
loop-length-preserved g c =
    let kept' = c.if-length-lt-LONGEST_LINE.line.items in
    line_more (g.R.Read.remaining c.args.reader.now) (g.R.Read.remaining c.loop-length.reader) (g.R.Read.remaining c.next_byte.new.reader) c.loop-length.line.items kept' c.loop-length.length c.in-Byte.byte c.loop-length.invariant c.in-Byte.ensures c.in-Byte.byte-test.1
    (λ h. elim c.if-length-lt-LONGEST_LINE.branch [ then-length-lt-LONGEST_LINE w ↦ rw w.line-is w.push.ensures.items | else-length-lt-LONGEST_LINE w ↦ absurd (omega arith) ])
