use Rattle.std.proofs.Common.{ap, ◌∙◌, subst}
use Rattle.prt_rule.specs.Sound.{IsInOrder}
use Rattle.prt_partition.specs.Cuts.{AreStarts}
use Rattle.prt_partition.specs.Differing.{Confine, HoldRouteChanges, HoldRuleChanges, near_cuts}
use Rattle.prt_partition.proofs.WhatDiffers.{quiet}
use Rattle.prt_partition.proofs.differing.what_differs.Goals as goal

pub returns-clause-value : goal.returns-clause-value
returns-clause-value c =
    let before = c.args.before.now in
    let after = c.args.after.now in
    let rules = c.in_ok-rules.rules.items in
    let routes = c.in_ok-routes.routes.items in
    let blocks = c.in_ok-blocks.blocks.items in
    let of_before = c.deref.ensures.value ∙ c.in_ok-before_routes.ensures in
    let of_after = c.deref-2.ensures.value ∙ c.in_ok-after_routes.ensures in
    let same_rules = subst (λ rs. HoldRuleChanges rs after.rules rules) c.rules.ensures.value (subst (λ rs. HoldRuleChanges c.rules.result.now rs rules) c.rules-2.ensures.value c.in_ok-rules.ensures) in
    let same_routes = subst (λ rs. HoldRouteChanges rs after.routes routes) of_before (subst (λ rs. HoldRouteChanges c.deref.result.now rs routes) of_after c.in_ok-routes.ensures) in
    record {
      quiet = quiet before after rules routes (subst IsInOrder c.rules.ensures.value c.rules.ensures.order) (subst IsInOrder c.rules-2.ensures.value c.rules-2.ensures.order) same_rules same_routes;
      confine = subst (λ rs. Confine blocks rs routes) c.deref-3.ensures.value (subst (λ rs. Confine blocks c.deref-3.result.now rs) c.deref-4.ensures.value c.in_ok-blocks.ensures);
      starts = subst (λ cuts. AreStarts cuts c.in_ok-starts.starts.items)
          (ap (λ bs. near_cuts bs c.rules-3.result.now c.rules-4.result.now c.deref-6.result.now c.deref-7.result.now) c.deref-5.ensures.value
          ∙ ap (λ rs. near_cuts blocks rs c.rules-4.result.now c.deref-6.result.now c.deref-7.result.now) c.rules-3.ensures.value
          ∙ ap (λ rs. near_cuts blocks before.rules rs c.deref-6.result.now c.deref-7.result.now) c.rules-4.ensures.value
          ∙ ap (λ rs. near_cuts blocks before.rules after.rules rs c.deref-7.result.now) (c.deref-6.ensures.value ∙ c.in_ok-before_routes.ensures)
          ∙ ap (λ rs. near_cuts blocks before.rules after.rules before.routes rs) (c.deref-7.ensures.value ∙ c.in_ok-after_routes.ensures))
          c.in_ok-starts.ensures;
    }
