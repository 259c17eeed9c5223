use Rattle.std.proofs.Common.{◌≡◌, [], ◌∷◌, ap, subst}
use Rattle.std.proofs.lemmas.List.Elements.{All-head}
use Rattle.std.specs.Prelude.{All}
use Rattle.prt_command.specs.Storable.{IsStorable}
use Rattle.prt_command.specs.declared.request.Command.{Command}
use Rattle.prt_publisher.specs.Step.{commands_checked, commands_in}
use Rattle.prt_publisher.proofs.plan.plan_checked.Goals as goal

pub add_checked-requires-clause-storable : goal.add_checked-requires-clause-storable
add_checked-requires-clause-storable c =
    let command : Command = c.in-One.command in
    let one : commands_checked c.args.checked ≡ command ∷ [] = ap commands_in c.in-One.is in
    rw c.in-One.is (All-head IsStorable command [] (subst (All IsStorable) one c.requires.storable))
