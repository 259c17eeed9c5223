use Rattle.std.proofs.Common.{refl, subst}
use Rattle.prt_session.specs.Desk.{Befalls, DeskState, IsNoMemory, request_turn, settled}
use Rattle.prt_session.specs.Run.{RunIs}
use Rattle.prt_session.proofs.memory_desk.MemoryDesk.run_script.Goals as goal

-- the desk represents only one state
pub returns : goal.returns
returns g c =
    let ran = c.run_script.ensures.run (settled c.run_script.new.desk) refl in
    subst (λ (before : DeskState). RunIs request_turn (Befalls IsNoMemory) c.args.mode before (settled c.run_script.new.desk) (g.R.Read.remaining c.args.reader.now) (g.R.Read.remaining c.run_script.new.reader) (g.W.Write.contents c.args.writer.now) (g.W.Write.contents c.run_script.new.writer) c.run_script.result) ran.1 ran.2
