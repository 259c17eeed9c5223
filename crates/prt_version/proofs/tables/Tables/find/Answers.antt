use Rattle.std.specs.Option.{option_copied}
use Rattle.prt_version.proofs.ByTable.{best_in_table, no_best}
use Rattle.prt_version.proofs.tables.Tables.find.Goals as goal

pub returns-in-Some : goal.returns-in-Some
returns-in-Some c = best_in_table c.args.self.now c.in-Some.table.now c.args.table c.args.addr (option_copied c.find.result) c.in-Some.ensures c.find.ensures

pub returns-in-None : goal.returns-in-None
returns-in-None c = no_best c.args.self.now c.args.table c.args.addr c.in-None.ensures
