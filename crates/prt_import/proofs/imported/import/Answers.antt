use Rattle.prt_import.specs.TableNames.{known_names}
use Rattle.prt_import.proofs.Parts.{ends, goes_on}
use Rattle.prt_import.proofs.ScriptLines.{import_is_script}
use Rattle.prt_import.proofs.imported.import.Goals as goal

pub loop-line-preserved : goal.loop-line-preserved
loop-line-preserved c = goes_on _ _ _ _ _ _ _ _ c.loop-line.invariant c.in-Some.ensures.0 c.in-Some.ensures.1 c.in_ok-take.ensures

pub returns-clause-read : goal.returns-clause-read
returns-clause-read c = import_is_script (known_names c.args.names.now) c.args.text.now _ (ends _ _ _ _ _ _ c.loop-line.invariant c.in_default.ensures c.in_ok-finish.ensures).script
