use Rattle.std.proofs.Common.{sym, subst}
use Rattle.prt_version.specs.Change.{put}
use Rattle.prt_version.specs.declared.change.Change.{Change}
use Rattle.prt_fib.specs.Pieces.{IsChangedAt}
use Rattle.prt_fib.proofs.Changed.{add_changes}
use Rattle.prt_fib.proofs.following.changed_prefix.Goals as goal

pub returns-in-RouteAdd : goal.returns-in-RouteAdd
returns-in-RouteAdd c = λ state. subst (λ (made : Change). IsChangedAt state (put state made) c.in-RouteAdd.route.prefix) (sym c.in-RouteAdd.is) (add_changes c.in-RouteAdd.route state)
