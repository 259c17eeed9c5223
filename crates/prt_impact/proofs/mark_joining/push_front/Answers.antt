use Rattle.std.proofs.Common.{◌≡◌, ◌≢◌, ◌++◌, ◌<◌, ◌∙◌, ap, arith, length, map, subst, sym, take, vec_len}
use Rattle.std.proofs.lemmas.Bool.{eqb-false}
use Rattle.prt_impact.specs.MarkSets.{AreSets}
use Rattle.prt_impact.specs.Replacing.{AlwaysReplaces}
use Rattle.prt_impact.specs.Steps.{with_marks}
use Rattle.prt_impact.proofs.MarkGroups.{front_replaced}
use Rattle.prt_impact.proofs.mark_joining.push_front.Goals as goal

pub returns-clause-joined : goal.returns-clause-joined
returns-clause-joined c =
    let old = c.args.joined.now.items in
    let groups = c.args.groups.now in
    let first = c.args.first.now in
    let blocks = c.in_ok-blocks.blocks.items in
    let sets = c.in_ok-sets.sets.items in
    let new = c.push_sets.new.groups.items in
    let count : c.len.result ≡ length blocks = omega (arith, c.in_ok-blocks.blocks.ok.0) in
    let not_none : vec_len c.in_ok-blocks.blocks ≢ 0 = eqb-false (vec_len c.in_ok-blocks.blocks) 0 (sym c.is_empty.ensures ∙ c.if-is_empty.false) in
    let some : 0 < length blocks = omega (arith, not_none, c.in_ok-blocks.blocks.ok.0) in
    subst (λ n. AlwaysReplaces (old ++ take n groups) new) (sym count)
    (front_replaced old groups first blocks sets new some c.in_ok-blocks.ensures (subst (λ bs. AreSets bs sets) c.deref.ensures.value c.in_ok-sets.ensures)
    (c.in_ok-push_sets.ensures ∙ ap (λ ss. old ++ map (with_marks first) ss) c.deref-2.ensures.value))
