use Rattle.std.proofs.Common.{ap, Some, None, not, ◌∙◌}
use Rattle.prt_diff.proofs.Finds.{free_if}
use Rattle.prt_diff.proofs.routes.is_free.Goals as goal

pub returns-in-Some : goal.returns-in-Some
returns-in-Some c = ap not c.is_kept.ensures ∙ free_if c.args.fence.now c.args.route.now c.args.found.now (Some c.in-Some.other) c.requires c.in-Some.ensures

pub returns-in-None : goal.returns-in-None
returns-in-None c = free_if c.args.fence.now c.args.route.now c.args.found.now None c.requires c.in-None.ensures
