use Rattle.std.proofs.Common.{ap, sym, Some, None, not, ◌&&◌, ◌∙◌}
use Rattle.prt_route.specs.Edit.{has_key}
use Rattle.prt_route.specs.Route.{key_of}
use Rattle.prt_diff.specs.Routes.{kept_routes}
use Rattle.prt_diff.proofs.Finds.{wanted_if}
use Rattle.prt_diff.proofs.routes.has_wanted_key.Goals as goal

pub returns-then-not-is_kept : goal.returns-then-not-is_kept
returns-then-not-is_kept c =
    c.is_free.ensures
    ∙ ap (λ b. not b && not (has_key (key_of c.in-Some.other) (kept_routes c.args.fence.now c.args.found.now))) (sym c.if-not-is_kept.true ∙ c.is_kept.ensures)
    ∙ wanted_if c.args.fence.now c.args.route.now c.args.found.now c.args.wanted.now (Some c.in-Some.other) c.requires.wanted c.in-Some.ensures

pub returns-else-not-is_kept : goal.returns-else-not-is_kept
returns-else-not-is_kept c =
    ap not c.if-not-is_kept.false
    ∙ ap (λ b. not b && not (has_key (key_of c.in-Some.other) (kept_routes c.args.fence.now c.args.found.now))) (sym c.if-not-is_kept.false ∙ c.is_kept.ensures)
    ∙ wanted_if c.args.fence.now c.args.route.now c.args.found.now c.args.wanted.now (Some c.in-Some.other) c.requires.wanted c.in-Some.ensures

pub returns-in-None : goal.returns-in-None
returns-in-None c = wanted_if c.args.fence.now c.args.route.now c.args.found.now c.args.wanted.now None c.requires.wanted c.in-None.ensures
