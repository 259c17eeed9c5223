use Rattle.std.proofs.Common.{◌∙◌, ap}
use Rattle.std.proofs.lemmas.Result.{IfOk-weaker}
use Rattle.prt_args.specs.CommandLine.{batch_line, check_line, replay_line, serve_line, with_analyses, with_questions, with_services}
use Rattle.prt_args.proofs.command_line.command_line.Goals as goal

pub returns : goal.returns
returns c =
    let running = c.with_line-running.ensures _ batch_line c.opening_line.ensures c.batch_line.ensures.line c.batch_line.ensures.own in
    let checking = c.with_line-checking.ensures _ check_line running c.check_line.ensures.line c.check_line.ensures.own in
    let replaying = c.with_line-replaying.ensures _ replay_line checking c.replay_line.ensures.line c.replay_line.ensures.own in
    let serving = c.in_ok-serving.ensures _ serve_line replaying c.serve_line.ensures.line c.serve_line.ensures.own in
    let asking = c.in_ok-asking.ensures ∙ ap with_questions serving in
    let analysing = c.in_ok-analysing.ensures ∙ ap with_analyses asking in
    IfOk-weaker c.with_services.result _ _ (λ command added. added ∙ ap with_services analysing) c.with_services.ensures
