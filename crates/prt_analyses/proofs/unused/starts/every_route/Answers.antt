use Rattle.std.proofs.Common.{◌∙◌}
use Rattle.prt_partition.proofs.Listed.{every_listed}
use Rattle.prt_analyses.proofs.unused.starts.every_route.Goals as goal

pub returns : goal.returns
returns c = c.in-Ok.ensures.value ∙ every_listed c.args.version.now.routes
