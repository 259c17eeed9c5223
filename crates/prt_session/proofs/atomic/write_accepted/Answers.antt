use Rattle.prt_replies.proofs.Known.{appends_more}
use Rattle.prt_session.proofs.Replies.{no_text}
use Rattle.prt_session.proofs.Submitted.{lines_cut, one_more_line}
use Rattle.prt_session.specs.declared.form.Form.TheVariants.{Plain}
use Rattle.prt_session.proofs.atomic.write_accepted.Goals as goal

pub loop-done-init : goal.loop-done-init
loop-done-init g c = no_text Plain (g.W.Write.contents c.args.writer.now)

pub returns-then-not-write : goal.returns-then-not-write
returns-then-not-write g c = lines_cut c.args.number c.loop-done.done c.args.count (g.W.Write.contents c.args.writer.now) (g.W.Write.contents c.loop-done.writer) (g.W.Write.contents c.write.new.writer) c.loop-done-test.true c.loop-done.invariant c.if-not-write.ensures.written

pub loop-done-preserved : goal.loop-done-preserved
loop-done-preserved g c = rw (one_more_line c.args.number c.loop-done.done) (appends_more (g.W.Write.contents c.args.writer.now) (g.W.Write.contents c.loop-done.writer) (g.W.Write.contents c.write.new.writer) _ _ c.loop-done.invariant c.if-not-write.ensures.written)
