use Rattle.std.proofs.Common.{◌≡◌, ◌+◌, ◌-◌, true, refl, arith, subst, sym}
use Rattle.prt_command.specs.Lines.{limits}
use Rattle.prt_session.proofs.Ends.{after_last, ends_cut, ends_there, goes_on, nothing_read}
use Rattle.prt_session.proofs.Served.{moment, served_at_first, ran_to_end}
use Rattle.prt_replies.specs.ScriptEnd.{refused_after}
use Rattle.prt_session.specs.Run.{RunsIn}
use Rattle.prt_session.specs.Steps.{is_nothing}
use Rattle.prt_session.proofs.session.run_session.Goals as goal

pub loop-count-init : goal.loop-count-init
loop-count-init g c = record {
  fits = c.requires;
  keeps = g.met.X.Executor.keeps_over_all.reflexive c.args.executor.now;
  left = λ stands. stands;
  served = λ now stands. (now, stands, served_at_first c.args.form g.X.Executor.turn g.X.Executor.may c.args.mode (moment now (g.R.Read.remaining c.args.reader.now) (g.W.Write.contents c.args.writer.now)));
}

pub returns-then-is_no_line-clause-run : goal.returns-then-is_no_line-clause-run
returns-then-is_no_line-clause-run g c = λ after stands.
    let turn = g.X.Executor.turn in
    let may = g.X.Executor.may in
    let before = c.loop-count.invariant.served after stands in
    let start = moment before.0 (g.R.Read.remaining c.args.reader.now) (g.W.Write.contents c.args.writer.now) in
    let now = moment after (g.R.Read.remaining c.loop-count.reader) (g.W.Write.contents c.loop-count.writer) in
    let reader = g.R.Read.remaining c.next_line-read.new.reader in
    let nothing : is_nothing c.next_line-read.result ≡ true = cc in
    let h = nothing_read now.reader reader c.next_line-read.new.line.items c.next_line-read.result c.next_line-read.ensures nothing in
    (before.0, before.1, ran_to_end c.args.form turn may c.args.mode start now (limits.lines - c.loop-count.count) c.loop-count.end reader before.2 h.0 h.1)

pub returns-then-not-is_written-clause-run : goal.returns-then-not-is_written-clause-run
returns-then-not-is_written-clause-run g c = λ after stands.
    let is = c.next_line-read.ensures in
    let answer = c.reply_to-reply.ensures.turn is.content is.count (rw c.as_slice-text.ensures.value is.keeps) after stands in
    let noted : c.with_write_fault.result.refused ≡ refused_after c.loop-count.end.refused c.reply_to-reply.result = cc in
    ends_cut c.args.form g.X.Executor.turn g.X.Executor.may c.args.mode _ _ _ _ _ _ _ _ _ (omega arith) (c.loop-count.count + 1) (omega arith) c.loop-count.end c.loop-count.invariant.served _ c.next_line-read.result is (cc) c.reply_to-reply.result after answer c.with_write_fault.result
    (c.if-not-is_written.ensures.told refl) c.if-not-is_written.ensures.written noted c.with_write_fault.ensures.fault

pub returns-then-is_last-clause-run : goal.returns-then-is_last-clause-run
returns-then-is_last-clause-run g c = λ after stands.
    let is = c.next_line-read.ensures in
    let answer = c.reply_to-reply.ensures.turn is.content is.count (rw c.as_slice-text.ensures.value is.keeps) after stands in
    ends_there c.args.form g.X.Executor.turn g.X.Executor.may c.args.mode _ _ _ _ _ _ _ _ _ (omega arith) (c.loop-count.count + 1) (omega arith) c.loop-count.end c.loop-count.invariant.served _ c.next_line-read.result is (cc) c.reply_to-reply.result after answer c.with_reply-end.result
    (cc) c.if-not-is_written.ensures.written c.with_reply-end.ensures.refused c.with_reply-end.ensures.fault

pub loop-count-preserved : goal.loop-count-preserved
loop-count-preserved g c = record {
  fits = c.reply_to-reply.ensures.fits;
  keeps = g.met.X.Executor.keeps_over_all.transitive c.args.executor.now c.loop-count.executor c.reply_to-reply.new.executor c.loop-count.invariant.keeps c.reply_to-reply.ensures.keeps;
  left = λ stands. c.reply_to-reply.ensures.left (c.loop-count.invariant.left stands);
  served = λ after stands.
      let is = c.next_line-read.ensures in
      let answer = c.reply_to-reply.ensures.turn is.content is.count (rw c.as_slice-text.ensures.value is.keeps) after stands in
      let less : limits.lines - (c.loop-count.count + 1) ≡ (limits.lines - c.loop-count.count) - 1 = omega arith in
      rw less (goes_on c.args.form g.X.Executor.turn g.X.Executor.may c.args.mode _ _ _ _ _ _ _ _ _ (omega arith) (c.loop-count.count + 1) (omega arith) c.loop-count.end c.loop-count.invariant.served _ c.next_line-read.result is (cc) c.reply_to-reply.result after answer c.with_reply-end.result
      (cc) c.if-not-is_written.ensures.written c.with_reply-end.ensures.refused c.with_reply-end.ensures.fault);
}

pub returns-clause-run : goal.returns-clause-run
returns-clause-run g c = λ after stands.
    let passed = c.pass.ensures.same after stands in
    let before = c.loop-count.invariant.served passed.0 passed.1 in
    let start = moment before.0 (g.R.Read.remaining c.args.reader.now) (g.W.Write.contents c.args.writer.now) in
    let now = moment passed.0 (g.R.Read.remaining c.loop-count.reader) (g.W.Write.contents c.loop-count.writer) in
    let none : limits.lines - c.loop-count.count ≡ 0 = omega arith in
    let reader = g.R.Read.remaining c.end_after_last.new.reader in
    let writer = g.W.Write.contents c.end_after_last.new.writer in
    let ran = after_last c.args.form g.X.Executor.turn g.X.Executor.may c.args.mode start now c.loop-count.end (rw none at before.2) reader writer c.end_after_last.result c.end_after_last.ensures in
    (before.0, before.1, subst (λ desk. RunsIn c.args.form g.X.Executor.turn g.X.Executor.may c.args.mode before.0 desk start.reader reader start.writer writer c.end_after_last.result) (sym passed.2) ran)

pub returns-clause-keeps : goal.returns-clause-keeps
returns-clause-keeps g c = g.met.X.Executor.keeps_over_all.transitive c.args.executor.now c.loop-count.executor c.pass.new.self c.loop-count.invariant.keeps c.pass.ensures.keeps
