use Rattle.std.proofs.Common.{ap, length, sym, ◌∙◌}
use Rattle.prt_analyses.specs.Unused.Steps.{route_place}
use Rattle.prt_analyses.proofs.Whole.{flags_fit, whole_routes}
use Rattle.prt_analyses.proofs.unused.search.unused_routes.Goals as goal

pub unmarked_routes-requires : goal.unmarked_routes-requires
unmarked_routes-requires c =
    let state = c.args.version.now in
    let marks = c.requires.used in
    ap length (c.deref.ensures.value ∙ marks.1.routes) ∙ flags_fit (route_place state) state.routes marks.0 ∙ ap length (sym c.requires.routes)

pub returns : goal.returns
returns c =
    whole_routes c.args.version.now c.args.used.now c.args.routes.now c.in_ok-left.left.items c.deref-2.result.now c.deref.result.now c.in_ok-unused.unused.items
    c.number-number.ensures.sound.routes_rise c.requires.routes c.deref.ensures.value c.in_ok-left.ensures c.deref-2.ensures.value c.in_ok-unused.ensures c.requires.used
