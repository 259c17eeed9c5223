use Rattle.std.proofs.Common.{◌≡◌, ◌+◌, ◌≤◌, inr, ap, arith, drop, length, refl, ◌∙◌}
use Rattle.prt_partition.specs.Marks.{blocks_of, mark_blocks}
use Rattle.prt_partition.proofs.MarkBlocks.{next_blocks, no_fewer, split_step}
use Rattle.prt_partition.proofs.marks.mark_blocks.Goals as goal

pub loop-rule-preserved : goal.loop-rule-preserved
loop-rule-preserved c =
    let rules = c.args.rules.now in
    let next = c.in_ok-blocks.blocks.items in
    record {
      are = split_step rules c.loop-rule.rule-index c.rule-item.result c.loop-rule.blocks.items next (omega arith) c.rule-item.is c.in_ok-blocks.ensures c.loop-rule.invariant.are;
      left = next_blocks rules c.loop-rule.rule-index c.rule-item.result c.loop-rule.blocks.items next (omega arith) c.rule-item.is c.in_ok-blocks.ensures ∙ c.loop-rule.invariant.left;
      few = omega (arith, c.in_ok-blocks.blocks.ok.0);
    }

pub returns-then-len-gt-MOST_BOXES-clause-reason : goal.returns-then-len-gt-MOST_BOXES-clause-reason
returns-then-len-gt-MOST_BOXES-clause-reason c =
    let rules = c.args.rules.now in
    let next = c.in_ok-blocks.blocks.items in
    let rest = drop (c.loop-rule.rule-index + 1) rules in
    let all : length (blocks_of rest next) ≡ length (mark_blocks rules) =
    ap length (next_blocks rules c.loop-rule.rule-index c.rule-item.result c.loop-rule.blocks.items next (omega arith) c.rule-item.is c.in_ok-blocks.ensures ∙ c.loop-rule.invariant.left) in
    let more : length next ≤ length (blocks_of rest next) = no_fewer rest next in
    inr (refl, omega (arith, c.in_ok-blocks.blocks.ok.0))
