use Rattle.std.proofs.Common.{Some, None, ◌∙◌}
use Rattle.prt_diff.proofs.Finds.{serving_if}
use Rattle.prt_diff.proofs.routes.has_serving.Goals as goal

pub returns-in-Some : goal.returns-in-Some
returns-in-Some c = c.serves.ensures ∙ serving_if c.args.route.now c.args.routes.now (Some c.in-Some.other) c.requires c.in-Some.ensures

pub returns-in-None : goal.returns-in-None
returns-in-None c = serving_if c.args.route.now c.args.routes.now None c.requires c.in-None.ensures
