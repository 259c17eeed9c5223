use Rattle.std.proofs.Common.{Some, None}
use Rattle.prt_diff.proofs.Finds.{key_if}
use Rattle.prt_diff.proofs.routes.has_key.Goals as goal

pub returns-in-Some : goal.returns-in-Some
returns-in-Some c = key_if c.args.route.now c.args.routes.now (Some c.in-Some.field-0) c.in-Some.ensures

pub returns-in-None : goal.returns-in-None
returns-in-None c = key_if c.args.route.now c.args.routes.now None c.in-None.ensures
