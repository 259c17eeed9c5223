use Rattle.std.proofs.Common.{◌≡◌, ℕ, List, None, length, subst, true}
use Rattle.prt_command.specs.declared.request.Command.{Command}
use Rattle.prt_serve.specs.ScriptHeader.{is_as_many}
use Rattle.prt_serve.specs.Resumed.{resumed_remaining}
use Rattle.prt_serve.specs.Together.{Comes, ToldIs}
use Rattle.prt_session.specs.Desk.{IsNoMemory}
use Rattle.prt_session.proofs.AtomicRuns.{faulty_first, is_quiet, no_fault_there, refused_first, unrefused}
use Rattle.prt_serve.proofs.Scripts.{refused_file, short_file, submitted_file}
use Rattle.prt_serve.proofs.atomic.serve_script.Goals as goal
use Rattle.prt_serve.proofs.atomic.serve_script.Goals.{then-end-via-then-end, then-end-via-else-end+then-is_some}

pub returns-then-end-clause-served : goal.returns-then-end-clause-served
returns-then-end-clause-served g c =
    let commands = c.collect_commands-commands.result.commands.items in
    let reader0 = resumed_remaining g.R.Read.remaining c.args.reader.now in
    let reader = resumed_remaining g.R.Read.remaining c.collect_commands-commands.new.reader in
    let writer0 = g.W.Write.contents c.args.writer.now in
    let writer = g.W.Write.contents c.collect_commands-commands.new.writer in
    let end = c.collect_commands-commands.result.end in
    let read = c.collect_commands-commands.ensures.read in
    refused_file c.args.header commands c.collect_commands-commands.ensures.submittable reader0 reader writer0 c.args.looker.now.known writer end read (λ none.
    let quiet = is_quiet commands reader0 reader writer0 writer end read none in
    elim c.then-end.branch [
      | then-end-via-then-end w ↦ absurd (refused_first end.refused w.if-end.true quiet.0)
      | then-end-via-else-end+then-is_some w ↦ absurd (faulty_first end.fault w.is_some.result w.is_some.ensures w.if-is_some.true quiet.1)
    ])

pub returns-then-is_cut_off-clause-served : goal.returns-then-is_cut_off-clause-served
returns-then-is_cut_off-clause-served g c =
    let commands = c.collect_commands-commands.result.commands.items in
    let reader0 = resumed_remaining g.R.Read.remaining c.args.reader.now in
    let reader = resumed_remaining g.R.Read.remaining c.collect_commands-commands.new.reader in
    let writer0 = g.W.Write.contents c.args.writer.now in
    let between = g.W.Write.contents c.collect_commands-commands.new.writer in
    let writer = g.W.Write.contents c.refuse.new.writer in
    let reading = c.collect_commands-commands.result.end in
    let read = c.collect_commands-commands.ensures.read in
    let none : read.refusal ≡ None = unrefused IsNoMemory commands reader0 reader writer0 between reading read c.if-end.false (no_fault_there reading.fault c.is_some.result c.is_some.ensures c.if-is_some.false) in
    short_file c.args.header commands c.collect_commands-commands.ensures.submittable reader0 reader writer0 c.args.looker.now.known between writer reading c.refuse.result read none (c.is_cut_off.ensures.cut_off c.if-is_cut_off.true) c.refuse.ensures

pub returns-clause-served : goal.returns-clause-served
returns-clause-served g c =
    let commands = c.collect_commands-commands.result.commands.items in
    let reader0 = resumed_remaining g.R.Read.remaining c.args.reader.now in
    let reader = resumed_remaining g.R.Read.remaining c.collect_commands-commands.new.reader in
    let writer0 = g.W.Write.contents c.args.writer.now in
    let between = g.W.Write.contents c.collect_commands-commands.new.writer in
    let writer = g.W.Write.contents c.write_outcome-end.new.writer in
    let reading = c.collect_commands-commands.result.end in
    let read = c.collect_commands-commands.ensures.read in
    let known0 = c.args.looker.now.known in
    let known = c.make-came.new.looker.known in
    let came = c.make-came.result in
    let end = c.write_outcome-end.result in
    let none : read.refusal ≡ None = unrefused IsNoMemory commands reader0 reader writer0 between reading read c.if-end.false (no_fault_there reading.fault c.is_some.result c.is_some.ensures c.if-is_some.false) in
    let comes : Comes c.args.header.number known0 known commands came = subst (λ (made : List Command). Comes c.args.header.number known0 known made came) c.as_slice.ensures.value c.make-came.ensures.came in
    let counted : c.len-2.result ≡ length commands = cc c.len-2.ensures in
    let told : ToldIs (length commands) came between writer end = subst (λ (count : ℕ). ToldIs count came between writer end) counted c.write_outcome-end.ensures in
    let many : is_as_many c.args.header.count (length commands) ≡ true = subst (λ (count : ℕ). is_as_many c.args.header.count count ≡ true) (cc c.len.ensures) (c.is_cut_off.ensures.whole c.if-is_cut_off.false) in
    submitted_file c.args.header commands c.collect_commands-commands.ensures.submittable reader0 reader writer0 known0 known between writer reading end read none many came comes told
