use Rattle.std.proofs.Common.{arith}
use Rattle.std.proofs.lemmas.Bool.Decides.{nat_tests}
use Rattle.prt_session.proofs.AtomicRuns.{empty_there, faulty_first, is_quiet, no_fault_there, refused_first, only_read, read_and_submitted}
use Rattle.prt_session.proofs.atomic.run_atomic.Goals as goal
use Rattle.prt_session.proofs.atomic.run_atomic.Goals.{then-end-via-then-end, then-end-via-else-end+then-is_some, then-end-via-else-end+else-is_some+then-is_empty}

pub returns-then-end-clause-run : goal.returns-then-end-clause-run
returns-then-end-clause-run g c = λ after stands.
    let commands = c.collect_commands-commands.result.commands.items in
    let reader0 = g.R.Read.remaining c.args.reader.now in
    let reader = g.R.Read.remaining c.collect_commands-commands.new.reader in
    let writer0 = g.W.Write.contents c.args.writer.now in
    let writer = g.W.Write.contents c.collect_commands-commands.new.writer in
    let end = c.collect_commands-commands.result.end in
    let read = c.collect_commands-commands.ensures.read in (
      after,
      stands,
      only_read g.D.Desk.may commands reader0 reader writer0 after writer end read (λ none.
          let quiet = is_quiet commands reader0 reader writer0 writer end read none in
          elim c.then-end.branch [
            | then-end-via-then-end w ↦ absurd (refused_first end.refused w.if-end.true quiet.0)
            | then-end-via-else-end+then-is_some w ↦ absurd (faulty_first end.fault w.is_some.result w.is_some.ensures w.if-is_some.true quiet.1)
            | then-end-via-else-end+else-is_some+then-is_empty w ↦ empty_there commands (grind (arith, nat_tests))
          ]),
    )

pub returns-clause-run : goal.returns-clause-run
returns-clause-run g c = λ after stands.
    let commands = c.collect_commands-commands.result.commands.items in
    let reader0 = g.R.Read.remaining c.args.reader.now in
    let reader = g.R.Read.remaining c.collect_commands-commands.new.reader in
    let writer0 = g.W.Write.contents c.args.writer.now in
    let between = g.W.Write.contents c.collect_commands-commands.new.writer in
    let end = c.collect_commands-commands.result.end in
    let read = c.collect_commands-commands.ensures.read in
    let before = c.submit.ensures.run after stands in
    (before.0, before.1, read_and_submitted g.D.Desk.may commands reader0 reader writer0 before.0 after between (g.W.Write.contents c.submit.new.writer) end c.submit.result read c.if-end.false (no_fault_there end.fault c.is_some.result c.is_some.ensures c.if-is_some.false) before.2)
