use Rattle.prt_version.proofs.Successor.{routes_fit}
use Rattle.prt_version.specs.declared.change.Change.TheVariants as change
use Rattle.prt_version.proofs.version.Version.routes_after.Goals as goal

pub routes_with-requires : goal.routes_with-requires
routes_with-requires c = routes_fit _ _ c.args.change.now (change.Route c.in-Route.edit) c.self.view_is c.self.invariant.0 c.requires c.in-Route.is

pub routes_with-requires-in-RouteAdd : goal.routes_with-requires-in-RouteAdd
routes_with-requires-in-RouteAdd c = routes_fit _ _ c.args.change.now (change.RouteAdd c.in-RouteAdd.route) c.self.view_is c.self.invariant.0 c.requires c.in-RouteAdd.is
