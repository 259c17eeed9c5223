use Rattle.std.proofs.Common.{◌++◌, ap, ◌∙◌}
use Rattle.std.specs.Prelude.{map}
use Rattle.prt_route.specs.declared.route.Route.{Route}
use Rattle.prt_partition.specs.Differing.{reach_of}
use Rattle.prt_partition.proofs.WhatDiffers.{confine_few}
use Rattle.prt_partition.proofs.reach.blocks_of.Goals as goal

pub returns : goal.returns
returns c =
    let rules = c.args.rules.now in
    let routes = c.args.routes.now in
    confine_few c.push_prefixes.new.blocks.items rules routes
    (c.in_ok-push_prefixes.ensures ∙ ap (λ blocks. blocks ++ map (λ (route : Route). route.prefix) routes) (c.in_ok-push_reaches.ensures ∙ ap (λ blocks. blocks ++ map reach_of rules) c.new-blocks.ensures.items))
