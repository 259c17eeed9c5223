use Rattle.std.proofs.Common.{◌-◌}
use Rattle.prt_command.specs.Lines.{limits}
use Rattle.prt_session.proofs.Served.{Served, moment}
use Rattle.prt_session.specs.Stands.{Explained, StandsForSome}
use Rattle.prt_session.proofs.session.run_session.Given as goal

abbrev pub invariant-loop-count : goal.invariant-loop-count
invariant-loop-count g l = record {
  fits : g.X.Executor.fits l.executor;
  keeps : g.X.Executor.keeps l.initial.executor l.executor;
  left : StandsForSome g.X.Executor.stands l.initial.executor → StandsForSome g.X.Executor.stands l.executor;
  served : Explained g.X.Executor.stands l.initial.executor l.executor (λ start now. Served l.form g.X.Executor.turn g.X.Executor.may l.mode
      (moment start (g.R.Read.remaining l.initial.reader) (g.W.Write.contents l.initial.writer))
      (moment now (g.R.Read.remaining l.reader) (g.W.Write.contents l.writer))
      (limits.lines - l.count) l.end);
}
