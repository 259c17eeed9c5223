use Rattle.std.proofs.Common.{◌≡◌, true, false, refl, subst}
use Rattle.std.specs.Prelude.{IsSome}
use Rattle.prt_laws.proofs.Refreshing.{looks}
use Rattle.prt_laws.proofs.looker_calls.look.Goals as goal

pub returns : goal.returns
returns c = looks c.args.looker.now c.args.packet.now c.look.result c.args.looker.now.held refl c.look.ensures.number c.look.ensures.verdict (λ none. let e : false ≡ true = subst IsSome none c.requires in absurd cc)
