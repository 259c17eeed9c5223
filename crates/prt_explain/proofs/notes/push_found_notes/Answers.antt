use Rattle.std.proofs.Common.{refl}
use Rattle.prt_explain.specs.Explanation.{runner_up_notes, silence_notes}
use Rattle.prt_explain.proofs.Texts.{found_pushed, then_ok}
use Rattle.prt_explain.proofs.notes.push_found_notes.Goals as goal

pub returns : goal.returns
returns c =
    then_ok c.push_silence_notes.result
    (found_pushed _ _ _ _ _ _ _ _ _ (runner_up_notes c.args.best.now c.args.runner_up.now) (silence_notes c.args.suppress c.args.best.now)
    refl c.in_ok-push_table.ensures c.in_ok-push_route.ensures c.in_ok-push_text.ensures.ok c.in_ok-push_runner_up_notes.ensures)
    c.push_silence_notes.ensures
