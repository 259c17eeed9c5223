use Rattle.prt_version.proofs.Successor.{next_sound}
use Rattle.prt_version.proofs.version.Version.next.Goals as goal

pub of-requires : goal.of-requires
of-requires c = next_sound _ _ _ _ _ c.self.view_is c.self.invariant.0 c.requires c.in_ok-rules_after.ensures c.in_ok-routes_after.ensures
