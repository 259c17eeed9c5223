use Rattle.std.proofs.Common.{◌++◌, ◌-◌, arith, ap, drop, length, sym, take, ◌∙◌}
use Rattle.prt_partition.specs.Differing.{without_id}
use Rattle.prt_partition.proofs.Merging.{both, first_only, rests, second_only}
use Rattle.prt_partition.proofs.WhatDiffers.{match_same, rule_test, same_rule}
use Rattle.prt_partition.proofs.differing.differing_rules.Goals as goal

pub loop-i-preserved-then-same : goal.loop-i-preserved-then-same
loop-i-preserved-then-same c =
    let one = c.index-before-i.result in
    let other = c.index-after-j.result in
    let alike = sym c.same.ensures ∙ c.if-same.true in
    record {
      within = omega arith;
      among = omega arith;
      hold = both rule_test without_id c.args.before.now c.args.after.now c.loop-i.rules.items c.loop-i.i c.loop-i.j one other (omega arith) (omega arith) c.index-before-i.is c.index-after-j.is
          (match_same one other alike) (same_rule one other alike) c.loop-i.invariant.hold;
    }

pub loop-i-preserved-then-is_before : goal.loop-i-preserved-then-is_before
loop-i-preserved-then-is_before c = record {
  within = omega arith;
  among = omega arith;
  hold = second_only rule_test without_id (take c.loop-i.i c.args.before.now) c.args.after.now c.loop-i.rules.items c.push.new.self.items c.loop-i.j c.index-after-j-then-is_before.result (omega arith) c.index-after-j-then-is_before.is
      c.in_ok-push.ensures.items c.loop-i.invariant.hold;
}

pub loop-i-preserved : goal.loop-i-preserved
loop-i-preserved c = record {
  within = omega arith;
  among = omega arith;
  hold = first_only rule_test without_id c.args.before.now (take c.loop-i.j c.args.after.now) c.loop-i.rules.items c.push-else-is_before.new.self.items c.loop-i.i c.index-before-i-else-is_before.result (omega arith) c.index-before-i-else-is_before.is
      c.in_ok-push-2.ensures.items c.loop-i.invariant.hold;
}

pub returns : goal.returns
returns c =
    rests rule_test without_id c.args.before.now c.args.after.now c.loop-i.rules.items c.extend_from_slice-2.new.self.items c.loop-i.i c.loop-i.j
    (c.in_ok-extend_from_slice-2.ensures.items ∙ ap (λ more. more ++ take (length c.args.after.now - c.loop-i.j) (drop c.loop-i.j c.args.after.now)) c.in_ok-extend_from_slice.ensures.items) c.loop-i.invariant.hold
