use Rattle.std.proofs.Common.{rules}
use Rattle.prt_program.specs.Program.{RunsAt, RunsOn, Streams, streams_of}
use Rattle.prt_version.specs.State.{opening_state}
use Rattle.prt_program.proofs.Sessions.{opens_in_memory}
use Rattle.prt_program.proofs.prt.run_batch.Goals as goal

pub returns-in-Some-clause-run : goal.returns-in-Some-clause-run
returns-in-Some-clause-run g c =
    let files = g.H.Databases.Databases in
    let desks = g.H.Databases.Opened.Desk in
    let opened = c.in_ok-desk-in-Some.ensures.opened in
    let first = c.in_ok-desk-in-Some.desk in
    let ended = c.run_over-status in
    let last = ended.new.desk in
    let streams : Streams = streams_of (g.R.Read.remaining c.args.input) (g.H.Output.Write.contents c.args.around.now.output.now) (g.H.Output.Write.contents ended.new.output) in
    let run : RunsOn desks.stands desks.may c.args.mode opened.0 last streams ended.result = search (rules, ended.ensures.run opened.0 opened.2) in
    let at : RunsAt files.holds files.opens files.closed files.leaves desks.stands desks.keeps desks.may c.args.around.now.databases.now c.close-closed.new.self c.in-Some.path.now c.args.mode streams ended.result = record {
      opened = opened.0;
      first = first;
      last = last;
      is_held = opened.1;
      is_open = opened.2;
      database = record { between = c.open_database.new.databases; is_opened = c.in_ok-desk-in-Some.ensures.opens; is_closed = c.close-closed.ensures.closed };
      run = run;
      kept = ended.ensures.keeps;
      durable = λ left leaves. let stood = c.close-closed.ensures.left left leaves in (stood.0, run.run stood.0 stood.1, stood.2);
    } in
    rw c.in-Some.is at

pub returns-clause-run : goal.returns-clause-run
returns-clause-run g c =
    let ran = c.run_over.ensures.run opening_state (opens_in_memory c.in_ok-desk-in-None.desk c.in_ok-desk-in-None.ensures.opening) in
    rw c.in-None.is (c.run_over.new.desk, search (rules, ran))
