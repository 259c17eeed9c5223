use Rattle.std.proofs.Common.{Some, None, ◌∙◌}
use Rattle.prt_diff.proofs.Finds.{unmade_if}
use Rattle.prt_diff.proofs.routes.is_unmade.Goals as goal

pub returns-in-Some : goal.returns-in-Some
returns-in-Some c = c.gives_way.ensures ∙ unmade_if c.args.fence.now c.args.route.now c.args.found.now (Some c.in-Some.other) c.requires c.in-Some.ensures

pub returns-in-None : goal.returns-in-None
returns-in-None c = unmade_if c.args.fence.now c.args.route.now c.args.found.now None c.requires c.in-None.ensures
