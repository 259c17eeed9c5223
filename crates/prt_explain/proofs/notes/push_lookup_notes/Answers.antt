use Rattle.std.proofs.Common.{◌++◌, ◌∙◌, ap, sym}
use Rattle.prt_explain.specs.Steps.{notes_text}
use Rattle.prt_explain.proofs.Texts.{looked_up}
use Rattle.prt_explain.proofs.notes.push_lookup_notes.Goals as goal

pub returns-in_ok-push_found_notes-in-Some-clause-text : goal.returns-in_ok-push_found_notes-in-Some-clause-text
returns-in_ok-push_found_notes-in-Some-clause-text c =
    let found = c.in-Some.field-0 in
    c.in_ok-push_found_notes-in-Some.ensures
    ∙ ap (λ notes. c.args.out.now.items ++ notes_text notes)
    (looked_up c.args.suppress c.args.table c.args.version.now.routes c.args.packet.now.dst found.best found.runner_up (sym c.in-Some.is ∙ c.in_ok-best.ensures))
