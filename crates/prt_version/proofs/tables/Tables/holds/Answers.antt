use Rattle.std.proofs.Common.{◌∙◌}
use Rattle.prt_version.proofs.ByTable.{key_in_table}
use Rattle.prt_version.proofs.tables.Tables.holds.Goals as goal

pub returns-in-Some : goal.returns-in-Some
returns-in-Some c = c.holds.ensures ∙ key_in_table _ _ c.args.key.now c.in-Some.ensures

pub returns-in-None : goal.returns-in-None
returns-in-None c = key_in_table _ _ c.args.key.now c.in-None.ensures
