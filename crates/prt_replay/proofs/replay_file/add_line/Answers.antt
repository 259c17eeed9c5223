use Rattle.std.proofs.Common.{ap, refl, ◌∙◌}
use Rattle.prt_command.proofs.Results.{ok_result}
use Rattle.prt_replay.proofs.EventSteps.{added, no_event, read_event, refused_by}
use Rattle.prt_replay.proofs.replay_file.add_line.Goals as goal

pub returns-in-Ok-Some : goal.returns-in-Ok-Some
returns-in-Ok-Some c =
    let is = read_event _ _ _ c.read_event_line.ensures (c.in-Ok-Some.is ∙ ap (λ o. ok_result o) c.in-Ok-Some.field-0-is) in
    added _ _ c.args.line.now c.in-Ok-Some.event c.add_event.result is c.add_event.ensures.ok c.add_event.ensures.room c.add_event.ensures.err

pub returns-in-Ok-None : goal.returns-in-Ok-None
returns-in-Ok-None c left others =
    let is = read_event _ _ _ c.read_event_line.ensures (c.in-Ok-None.is ∙ ap (λ o. ok_result o) c.in-Ok-None.field-0-is) in
    no_event _ left c.args.line.now others is

pub returns-in-Err : goal.returns-in-Err
returns-in-Err c = refused_by _ c.args.line.now _ c.in-Err.refusal refl c.in-Err.ensures
