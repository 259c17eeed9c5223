use Rattle.std.proofs.Common.{◌++◌, ◌-◌, arith, ap, drop, length, sym, take, ◌∙◌}
use Rattle.prt_partition.proofs.Merging.{both, rests}
use Rattle.prt_partition.proofs.WhatDiffers.{hold_routes, holds_same, itself, route_test, same_route}
use Rattle.prt_partition.proofs.differing.differing_routes.Goals as goal

pub loop-i-preserved-then-is_same_route : goal.loop-i-preserved-then-is_same_route
loop-i-preserved-then-is_same_route c =
    let one = c.index-before-i.result in
    let other = c.index-after-j.result in
    let alike = sym c.is_same_route.ensures ∙ c.if-is_same_route.true in
    record {
      within = omega arith;
      among = omega arith;
      hold = both route_test itself c.args.before.now c.args.after.now c.loop-i.routes.items c.loop-i.i c.loop-i.j one other (omega arith) (omega arith) c.index-before-i.is c.index-after-j.is
          (holds_same one other alike) (same_route one other alike) c.loop-i.invariant.hold;
    }

pub returns : goal.returns
returns c =
    hold_routes c.args.before.now c.args.after.now c.extend_from_slice-2.new.self.items
    (rests route_test itself c.args.before.now c.args.after.now c.loop-i.routes.items c.extend_from_slice-2.new.self.items c.loop-i.i c.loop-i.j
    (c.in_ok-extend_from_slice-2.ensures.items ∙ ap (λ more. more ++ take (length c.args.after.now - c.loop-i.j) (drop c.loop-i.j c.args.after.now)) c.in_ok-extend_from_slice.ensures.items) c.loop-i.invariant.hold)
