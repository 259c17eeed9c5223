use Rattle.std.proofs.Common.{◌≡◌, Ok, ap, sym, ◌∙◌}
use Rattle.std.proofs.lemmas.Result.{err_from_is_err_and}
use Rattle.std.specs.Result.{result_err}
use Rattle.prt_version.specs.Change.{check}
use Rattle.prt_session.proofs.Turns.{memory_refused}
use Rattle.prt_session.proofs.memory_desk.MemoryDeskDesk.command.Goals as goal

pub returns-in_err-self-inside-clause-turn : goal.returns-in_err-self-inside-clause-turn
returns-in_err-self-inside-clause-turn c =
    let made : check c.args.self.now c.args.command.now ≡ Ok c.in-Ok.change = ap (λ state. check state c.args.command.now) (sym c.self.view_is) ∙ sym c.in-Ok.ensures.value in
    let refused = err_from_is_err_and c.from_residual.result c.from_residual.ensures.1 in
    rw (refused.1, refused.2 ∙ c.in_err-self-inside.ensures.reason) (memory_refused c.args.self.now c.args.command.now (ap result_err made))
