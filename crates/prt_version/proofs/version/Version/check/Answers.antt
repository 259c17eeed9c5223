use Rattle.std.proofs.lemmas.Grind.{common_steps}
use Rattle.std.proofs.Common.{arith}
use Rattle.prt_version.proofs.version.Version.check.Goals as goal

pub returns-in-Ok-clause-usable : goal.returns-in-Ok-clause-usable
returns-in-Ok-clause-usable c = record { command = c.args.command.now; makes = grind (arith, common_steps) }
