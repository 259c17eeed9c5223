use Rattle.std.proofs.Common.{false, ap, ◌∙◌}
use Rattle.std.specs.Prelude.{filter}
use Rattle.prt_partition.specs.Touching.{can_match}
use Rattle.prt_partition.proofs.WhatDiffers.{touching_few}
use Rattle.prt_partition.proofs.touching.what_touches.Goals as goal

pub returns : goal.returns
returns c =
    let differing = c.args.differing.now in
    let packet = c.args.packet.now in
    touching_few differing.rules.items differing.routes.items packet (record { all = false; rules = c.in_ok-rules.rules; routes = c.in_ok-routes.routes })
    (c.in_ok-rules.ensures ∙ ap (filter (can_match packet)) c.deref.ensures.value) (c.in_ok-routes.ensures.items ∙ c.deref-2.ensures.value)
