use Rattle.std.proofs.Common.{◌≡◌, ◌-◌, true, false, length, refl}
use Rattle.prt_session.proofs.Submitted.{list_accepted, list_refused}
use Rattle.prt_session.proofs.atomic.submit.Goals as goal

pub returns-in-Err-clause-run : goal.returns-in-Err-clause-run
returns-in-Err-clause-run g c = λ after stands.
    let before = c.in-Err.ensures.turn after stands in
    (before.0, before.1, list_refused g.D.Desk.may before.0 after c.args.commands.now.items c.in-Err.refusal (g.W.Write.contents c.args.writer.now) (g.W.Write.contents c.write_last.new.writer) _ c.write_last.result c.requires.some refl refl before.2 c.write_last.ensures)

pub returns-then-write_accepted-clause-run : goal.returns-then-write_accepted-clause-run
returns-then-write_accepted-clause-run g c = λ after stands.
    let before = c.in-Ok.ensures.turn after stands in
    let number : c.saturating_sub-before.result ≡ c.in-Ok.last - length c.args.commands.now.items = cc in
    let count : c.len-count.result ≡ length c.args.commands.now.items = cc in
    (before.0, before.1, list_accepted g.D.Desk.may before.0 after c.args.commands.now.items c.in-Ok.last c.saturating_sub-before.result true (g.W.Write.contents c.args.writer.now) (g.W.Write.contents c.write_accepted.new.writer) _ c.requires.some number before.2 (rw count at c.if-write_accepted.ensures) refl refl)

pub returns-clause-run : goal.returns-clause-run
returns-clause-run g c = λ after stands.
    let before = c.in-Ok.ensures.turn after stands in
    let number : c.saturating_sub-before.result ≡ c.in-Ok.last - length c.args.commands.now.items = cc in
    let count : c.len-count.result ≡ length c.args.commands.now.items = cc in
    (before.0, before.1, list_accepted g.D.Desk.may before.0 after c.args.commands.now.items c.in-Ok.last c.saturating_sub-before.result false (g.W.Write.contents c.args.writer.now) (g.W.Write.contents c.write_accepted.new.writer) _ c.requires.some number before.2 (rw count at c.if-write_accepted.ensures) c.with_write_fault.ensures.refused c.with_write_fault.ensures.fault)
