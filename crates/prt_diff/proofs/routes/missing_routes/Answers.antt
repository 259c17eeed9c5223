use Rattle.std.proofs.Common.{ap, arith, sym, ◌∙◌}
use Rattle.std.specs.Prelude.{filter}
use Rattle.std.proofs.lemmas.List.{take_all}
use Rattle.prt_diff.proofs.Finds.{is_missing, missing_are}
use Rattle.prt_diff.proofs.routes.missing_routes.Goals as goal

pub returns : goal.returns
returns c =
    c.loop-route.invariant
    ∙ ap (filter (is_missing c.args.fence.now c.args.found.now c.args.wanted.now)) (take_all c.loop-route.route-index c.args.wanted.now (omega (arith, c.loop-route-test.false)))
    ∙ sym (missing_are c.args.fence.now c.args.found.now c.args.wanted.now)
