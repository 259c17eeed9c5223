use Rattle.std.proofs.Common.{sym, subst}
use Rattle.prt_addr.specs.Rising.{IsRising}
use Rattle.prt_rule.specs.Rule.{is_before}
use Rattle.prt_diff.proofs.Applying.RuleWalks.{changes_more, fewer_left, rest_rises}
use Rattle.prt_diff.proofs.apply.rules.push_rule_changes.Goals as goal

pub loop-priority-smaller : goal.loop-priority-smaller
loop-priority-smaller c =
    fewer_left c.in-Some.priority c.loop-priority.found_rest.now c.loop-priority.wanted_rest.now c.split_behind.result.1.now c.split_behind-in-Some.result.1.now
    (sym c.in-Some.ensures) c.loop-priority.invariant.found_order c.loop-priority.invariant.wanted_order c.split_behind.ensures.back c.split_behind-in-Some.ensures.back

pub loop-priority-preserved : goal.loop-priority-preserved
loop-priority-preserved c = record {
  found_order = subst (IsRising is_before) (sym c.split_behind.ensures.back) (rest_rises c.in-Some.priority c.loop-priority.found_rest.now c.loop-priority.invariant.found_order);
  wanted_order = subst (IsRising is_before) (sym c.split_behind-in-Some.ensures.back) (rest_rises c.in-Some.priority c.loop-priority.wanted_rest.now c.loop-priority.invariant.wanted_order);
  held = changes_more c.in-Some.priority c.loop-priority.found_rest.now c.loop-priority.wanted_rest.now c.split_behind.result.1.now c.split_behind-in-Some.result.1.now
      (sym c.in-Some.ensures) c.loop-priority.invariant.found_order c.loop-priority.invariant.wanted_order c.split_behind.ensures.back c.split_behind-in-Some.ensures.back
      c.split_behind.result.0.now c.split_behind-in-Some.result.0.now c.loop-priority.commands.items c.push_replacing.new.commands.items _
      c.split_behind.ensures.front c.split_behind-in-Some.ensures.front c.in_ok-push_replacing.ensures c.loop-priority.invariant.held;
}
