use Rattle.std.proofs.Common.{Some, ap, subst, ◌∙◌}
use Rattle.std.proofs.lemmas.List.Elements.{All-push}
use Rattle.prt_command.specs.Storable.{IsStorable, IsStorableLine}
use Rattle.prt_command.specs.declared.request.Request.{Request}
use Rattle.prt_disk_tests.proofs.store.together.commands_of.Goals as goal

pub loop-line-preserved : goal.loop-line-preserved
loop-line-preserved c =
    let is = c.in-Some-Command.is ∙ ap (λ (r : Request). Some r) c.in-Some-Command.field-0-is in
    let storable : IsStorable c.in-Some-Command.command = subst IsStorableLine is c.in_ok-command.ensures.storable in
    rw c.in_ok-push-in-Some-Command.ensures.items (All-push IsStorable c.loop-line.commands.items c.in-Some-Command.command c.loop-line.invariant storable)
