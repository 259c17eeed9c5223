use Rattle.std.proofs.Common.{sym, ◌∙◌}
use Rattle.std.proofs.lemmas.Result.{err_from_is_err_and}
use Rattle.prt_replay.proofs.LookerNumbers.{looker_is, looker_is_not}
use Rattle.prt_replay.proofs.read.read_looker.Goals as goal

pub returns : goal.returns
returns c = c.ok_or.ensures.value ∙ looker_is c.args.word.now _ _ (sym c.in_ok-number.ensures) c.new.ensures

pub returns-in_err-number : goal.returns-in_err-number
returns-in_err-number c =
    let given = err_from_is_err_and c.from_residual.result c.from_residual.ensures.1 in
    rw (given.1, given.2) (looker_is_not c.args.word.now _ c.in_err-number.ensures)
