use Rattle.std.proofs.Common.{◌∙◌, ap}
use Rattle.std.specs.Result.{result_ok}
use Rattle.prt_refusals.specs.declared.refusal.Refusal.TheVariants.{BadTable}
use Rattle.prt_route.specs.Names.{table}
use Rattle.prt_import.proofs.Options.{ok_of_ok_or}
use Rattle.prt_import.proofs.keys.table_of.Goals as goal

pub returns : goal.returns
returns c = c.ok.ensures.value ∙ ap result_ok c.read_table.ensures ∙ ok_of_ok_or (table c.args.word.now) BadTable
