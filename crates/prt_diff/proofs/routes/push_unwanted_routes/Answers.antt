use Rattle.std.proofs.Common.{◌++◌, ap, arith, map, sym, ◌∙◌}
use Rattle.std.specs.Prelude.{filter}
use Rattle.std.proofs.lemmas.List.{take_all}
use Rattle.prt_diff.specs.Routes.{delete_route}
use Rattle.prt_diff.proofs.Finds.{is_unwanted, unwanted_are}
use Rattle.prt_diff.proofs.routes.push_unwanted_routes.Goals as goal

pub returns : goal.returns
returns c =
    let gone = is_unwanted c.args.fence.now c.args.found.now c.args.wanted.now in
    c.loop-route.invariant
    ∙ ap (λ routes. c.args.commands.now.items ++ map delete_route routes) (ap (filter gone) (take_all c.loop-route.route-index c.args.found.now (omega (arith, c.loop-route-test.false))) ∙ sym (unwanted_are c.args.fence.now c.args.found.now c.args.wanted.now))
