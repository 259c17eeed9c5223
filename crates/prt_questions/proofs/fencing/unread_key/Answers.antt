use Rattle.std.proofs.Common.{◌≡◌, ◌∙◌, ap, false, sym}
use Rattle.std.specs.Prelude.{is_some}
use Rattle.prt_command.specs.Reading.{words}
use Rattle.prt_import.specs.Keys.{route_key}
use Rattle.prt_import.specs.TableNames.{known_names}
use Rattle.prt_questions.specs.Fencing.{priority_in}
use Rattle.prt_questions.specs.LeftOut.{is_kernels}
use Rattle.prt_questions.proofs.fencing.unread_key.Goals as goal

pub returns : goal.returns
returns c =
    let line = c.args.line.now in
    let ours : is_kernels line ≡ false = sym c.is_kernels.ensures ∙ c.if-is_kernels.false in
    let no_rule : is_some (priority_in line) ≡ false = ap is_some (sym c.priority_in.ensures) ∙ sym c.is_some.ensures ∙ c.if-is_some.false in
    rw ours (rw no_rule (c.route_key.ensures ∙ ap (λ text. route_key (known_names c.args.names.now) (words text)) c.deref.ensures.value))
