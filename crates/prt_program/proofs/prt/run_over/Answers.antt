use Rattle.std.proofs.Common.{ap, ◌∙◌}
use Rattle.prt_args.specs.declared.task.Mode.TheVariants.{InTurn, Together}
use Rattle.prt_program.proofs.Sessions.{runs_on}
use Rattle.prt_program.proofs.prt.run_over.Goals as goal
use Rattle.prt_program.proofs.prt.run_over.Goals.{in-InTurn, in-Together}
use Rattle.prt_program.specs.Program.{exit_status}

pub returns-clause-run : goal.returns-clause-run
returns-clause-run g c opened is_open =
    let remaining = g.R.Read.remaining in
    let contents = g.H.Output.Write.contents in
    elim c.match-mode.branch [
      | in-InTurn w ↦
          let ran = w.run_script-end in
          rw (w.desk-is, w.output-is, w.in-InTurn.is)
          (runs_on g.D.Desk.stands g.D.Desk.may (InTurn w.in-InTurn.on_refusal) opened c.args.desk.now ran.new.desk (remaining c.args.reader.now) (remaining ran.new.reader)
          (contents c.args.output.now) (contents ran.new.writer) ran.result c.exit_status.result is_open ran.ensures.run ran.ensures.left (c.exit_status.ensures ∙ ap exit_status w.end-is))
      | in-Together w ↦
          let ran = w.run_atomic-end in
          rw (w.desk-is, w.output-is, w.in-Together.is)
          (runs_on g.D.Desk.stands g.D.Desk.may Together opened c.args.desk.now ran.new.desk (remaining c.args.reader.now) (remaining ran.new.reader)
          (contents c.args.output.now) (contents ran.new.writer) ran.result c.exit_status.result is_open ran.ensures.run ran.ensures.left (c.exit_status.ensures ∙ ap exit_status w.end-is))
    ]
