use Rattle.std.proofs.Common.{sym, subst}
use Rattle.prt_route.specs.declared.edit.RouteEdit.{RouteEdit}
use Rattle.prt_version.specs.Change.{put}
use Rattle.prt_version.specs.declared.change.Change.TheVariants as change
use Rattle.prt_fib.specs.Pieces.{IsChangedAt}
use Rattle.prt_fib.proofs.Changed.{put_changes, remove_changes}
use Rattle.prt_fib.proofs.following.edited_prefix.Goals as goal

pub returns-in-Put : goal.returns-in-Put
returns-in-Put c = λ state. subst (λ (edit : RouteEdit). IsChangedAt state (put state (change.Route edit)) c.in-Put.route.prefix) (sym c.in-Put.is) (put_changes c.in-Put.route state)

pub returns-in-Remove : goal.returns-in-Remove
returns-in-Remove c = λ state. subst (λ (edit : RouteEdit). IsChangedAt state (put state (change.Route edit)) c.in-Remove.key.prefix) (sym c.in-Remove.is) (remove_changes c.in-Remove.key state)
