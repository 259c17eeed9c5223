use Rattle.std.proofs.Common.{◌∙◌, ap}
use Rattle.std.specs.Prelude.{option_map}
use Rattle.prt_route.specs.Route.{key_of}
use Rattle.prt_version.proofs.ByTable.{chosen_in_table}
use Rattle.prt_version.proofs.tables.Tables.choose.Goals as goal

pub returns-in-Some : goal.returns-in-Some
returns-in-Some c = c.choose.ensures ∙ ap (option_map key_of) (chosen_in_table _ _ c.args.choice.now c.in-Some.ensures)

pub returns-in-None : goal.returns-in-None
returns-in-None c = ap (option_map key_of) (chosen_in_table _ _ c.args.choice.now c.in-None.ensures)
